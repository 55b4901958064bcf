-- A quantity: a type code, a raw value and a scale factor (document 01, "Decimal" and "Worth"), and whether its point is mandatory
-- (change request 2). Its amount is value × 10 ^ scale.
use Rattle.std.specs.Prelude.{true, false, ℕ, suc, ◌^◌, ℤ, pos, negsuc, ◌*ℤ◌}
use Rattle.point_types.specs.Presence.{Presence}
use Rattle.values.specs.Classes.{is_scale_factor}
use Rattle.values.specs.Unscaled.{Unscaled, number, no_value, not_scalable, unscaled}

-- An integer and a scale factor; or a refusal by its number and place.
pub data Amount : Type 0 where
  amount : (value scale : ℤ) → Amount
  refused : (number place : ℕ) → Amount

-- 43: a type without s. 44: unimplemented, out of range or too wide. 45: a scale factor outside −10..10. All have place 0.
abbrev pub amount_from : Unscaled → ℤ → Amount
amount_from not_scalable scale = refused 43 0
amount_from no_value scale = refused 44 0
amount_from (number value) scale = elim (is_scale_factor scale) [ true ↦ amount value scale | false ↦ refused 45 0 ]

-- The amount of a quantity, or its refusal.
unfoldable pub amount_of : ℕ → Presence → ℕ → ℤ → Amount
amount_of code presence raw scale = amount_from (unscaled code presence raw) scale

-- A scale factor k from 0 on multiplies by 10 ^ k: it appends k zeros. (negsuc k is −(k + 1).)
abbrev pub zeros : ℤ → ℕ
zeros (pos k) = k
zeros (negsuc k) = 0

-- A scale factor −k divides by 10 ^ k: it gives k places after the decimal point.
abbrev pub places : ℤ → ℕ
places (pos k) = 0
places (negsuc k) = suc k

-- A number as a fraction. The denominator is never 0: it is a power of ten.
pub record Fraction : Type 0 where
  pub numerator : ℤ
  pub denominator : ℕ

-- value × 10 ^ scale.
abbrev pub fraction_of : ℤ → ℤ → Fraction
fraction_of value scale = record { numerator = value *ℤ pos (10 ^ zeros scale); denominator = 10 ^ places scale }
