-- A bitfield is no accumulator: its raw values have the same class for a mandatory and an optional point, so `event_bits` need not ask.
use mathlib.Core.Path.{◌≡◌, ap, sym, ◌∙◌}
use mathlib.Core.Bool.{true}
use mathlib.Core.Logic.{inl, inr}
use Prim.Native.Nat.{ℕ}
use Rattle.lists.proofs.TestOutcomes.{clash}
use Rattle.point_types.specs.Presence.{mandatory, optional}
use Rattle.point_types.specs.Rows.{AccumulatorCode}
use Rattle.values.specs.Classes.{classified}
use Rattle.values.proofs.PresenceDecides.{presence_decides}
use Rattle.event_fields.specs.Events.{is_bitfield}

pub any_presence : (code raw : ℕ) → is_bitfield code ≡ true → classified code mandatory raw ≡ classified code optional raw
any_presence code raw b = (presence_decides code raw).elsewhere (λ z. no_accumulator z.0)
  where
    no_accumulator : AccumulatorCode code → ⊥
    no_accumulator (inl e) = clash (sym b ∙ ap is_bitfield e)
    no_accumulator (inr (inl e)) = clash (sym b ∙ ap is_bitfield e)
    no_accumulator (inr (inr e)) = clash (sym b ∙ ap is_bitfield e)
