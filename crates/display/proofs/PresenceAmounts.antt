-- The presence decides the amount of a quantity, and its decimal, for an accumulator at 0 only; those of an optional point are as they
-- were before change request 2. (`equal_quantities` compares amounts.)
use mathlib.Core.Path.{◌≡◌, ap}
use mathlib.Core.List.{[]}
use Prim.Native.Nat.{ℕ}
use lib.IntN.{ℤ, pos}
use Rattle.point_types.specs.Presence.{mandatory, optional}
use Rattle.values.specs.Unscaled.{Unscaled, number}
use Rattle.values.specs.PresenceDecides.{CountsZero, unscaled_before}
use Rattle.values.proofs.PresenceDecides.{presence_unscales, optional_as_before}
use Rattle.display.specs.Amounts.{amount_from, amount_of, refused}
use Rattle.display.specs.Decimals.{decimal_of}

module _ (code raw : ℕ) (scale : ℤ) where
  -- At an accumulator's 0 a mandatory point has the amount 0, or 45 by its scale factor,
  pub mandatory_zero_lem : CountsZero code raw → amount_of code mandatory raw scale ≡ amount_from (number (pos 0)) scale
  unfolding amount_of
  mandatory_zero_lem z = ap (λ (u : Unscaled). amount_from u scale) ((presence_unscales code raw).mandatory_zero z)

  -- and an optional one is refused with 44.
  pub optional_zero_lem : CountsZero code raw → amount_of code optional raw scale ≡ refused 44 0
  unfolding amount_of
  optional_zero_lem z = ap (λ (u : Unscaled). amount_from u scale) ((presence_unscales code raw).optional_zero z)

  -- Elsewhere they have the same amount,
  pub same_amount : (CountsZero code raw → ⊥) → amount_of code mandatory raw scale ≡ amount_of code optional raw scale
  unfolding amount_of
  same_amount n = ap (λ (u : Unscaled). amount_from u scale) ((presence_unscales code raw).elsewhere n)

  -- and the same text or refusal.
  pub same_decimal : (buffer_length : ℕ) → (CountsZero code raw → ⊥)
      → decimal_of code mandatory raw scale buffer_length ≡ decimal_of code optional raw scale buffer_length
  unfolding decimal_of
  same_decimal buffer_length n = simp (decimal_of, same_amount n)

  pub optional_amount : amount_of code optional raw scale ≡ amount_from (unscaled_before code raw) scale
  unfolding amount_of
  optional_amount = ap (λ (u : Unscaled). amount_from u scale) (optional_as_before code raw []).unscales
