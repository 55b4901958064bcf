-- The cases of `amount_of`, and the bounds and parts of an accepted amount.
use mathlib.Core.Path.{◌≡◌, refl, sym, ap, ◌∙◌}
use mathlib.Core.Bool.{true, false}
use Prim.Native.Nat.{ℕ}
use native.Mathlib.Omega.{arith}
use lib.IntN.{ℤ}
use Rattle.std.specs.Prelude.{Ok, Err}
use Rattle.refusals.specs.Refusals.{number as code_of}
use Rattle.refusals.specs.declared.Refusal.{Refusal}
use Rattle.lists.proofs.TestOutcomes.{impossible}
use Rattle.point_types.specs.Presence.{Presence}
use Rattle.values.specs.Classes.{is_scale_factor}
use Rattle.values.specs.Unscaled.{Unscaled, number, no_value, not_scalable, unscaled, Within64}
use Rattle.values.specs.CodeTypes.{to_code_unscaled}
use Rattle.values.specs.declared.Integer.{Integer}
use Rattle.values.proofs.UnscaledCases.{was_number}
use Rattle.values.proofs.UnscaledRange.{unscaled_range}
use Rattle.display.specs.Amounts.{amount, refused, amount_from, amount_of}
use Rattle.display.specs.InternalParts.{IsAmount, TenAtMost}
use Rattle.display.specs.declared.quantities.ScaledNumber.{ScaledNumber}
use Rattle.display.proofs.ScaleFactors.{ten_at_most}

module _ (code : ℕ) (presence : Presence) (raw : ℕ) (scale : ℤ) where
  -- An amount has the value and the scale factor of its quantity.
  pub record AmountOf (value s : ℤ) : Type 0 where
    pub is : unscaled code presence raw ≡ number value
    pub same_scale : scale ≡ s
    pub in_range : is_scale_factor scale ≡ true

  pub amount_of_lem : (value s : ℤ) → amount_of code presence raw scale ≡ amount value s → AmountOf value s
  unfolding amount_of
  amount_of_lem value s e = grind (arith, amount_of)

  pub value_within : (value s : ℤ) → amount_of code presence raw scale ≡ amount value s → Within64 value
  value_within value s e = unscaled_range code presence raw value (amount_of_lem value s e).is

  pub scale_within : (value s : ℤ) → amount_of code presence raw scale ≡ amount value s → TenAtMost s
  scale_within value s e = let a = amount_of_lem value s e in rw (← a.same_scale) (ten_at_most scale a.in_range)

-- The parts are bounded by the scale factor's range.
pub parts_within : (code : ℕ) (presence : Presence) (raw : ℕ) (s : ℤ) (parts : ScaledNumber) → IsAmount (amount_of code presence raw s) parts
    → TenAtMost parts.exponent
parts_within code presence raw s parts w = rw w.form (scale_within code presence raw s w.value w.scale w.is)

-- What the code makes of the unscaled integer and the scale factor: the amount's parts, or its refusal.
module _ (u : Unscaled) (scale : ℤ) where
  pub refused_unscaled : (refusal : Refusal) → Err refusal ≡ to_code_unscaled u → amount_from u scale ≡ refused (code_of refusal) 0
  refused_unscaled refusal e = by_value u e
    where
      by_value : (v : Unscaled) → Err refusal ≡ to_code_unscaled v → amount_from v scale ≡ refused (code_of refusal) 0
      by_value (number z) q = impossible (cc)
      by_value no_value q = let r : refusal ≡ Refusal.NoValue = cc in rw r
      by_value not_scalable q = let r : refusal ≡ Refusal.NotScalable = cc in rw r

  module _ (integer : Integer) (e : Ok integer ≡ to_code_unscaled u) where
    pub refused_scale : is_scale_factor scale ≡ false → amount_from u scale ≡ refused 45 0
    refused_scale s = let n = was_number u integer (sym e) in simp (n.is, s)

    pub accepted_parts : is_scale_factor scale ≡ true
        → IsAmount (amount_from u scale)
        (record { integer = integer; exponent = scale })
    accepted_parts s =
        let n = was_number u integer (sym e) in
        record { value = n.value; scale = scale; is = ap (λ (v : Unscaled). amount_from v scale) n.is ∙ simp s; form = rw (← n.sign, ← n.size) refl }
