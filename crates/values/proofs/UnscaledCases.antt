-- The cases of `unscaled`: the integer that a scale factor multiplies, or why there is none.
use mathlib.Core.Path.{◌≡◌, refl, sym, ap}
use mathlib.Core.Bool.{Bool, true, not}
use mathlib.Core.Option.{some}
use Prim.Native.Nat.{ℕ, ◌^◌, ◌<◌}
use native.Mathlib.Omega.{arith}
use Rattle.std.proofs.lemmas.Bool.Decides.{nat_tests}
use lib.IntN.{ℤ, nat_abs}
use lib.Signed.{non_neg}
use Rattle.std.specs.Prelude.{Ok}
use Rattle.lists.proofs.TestOutcomes.{impossible}
use Rattle.registers.specs.Registers.{too_wide}
use Rattle.point_types.specs.Presence.{Presence}
use Rattle.point_types.specs.Rows.{TypeRow, row_of}
use Rattle.values.specs.Classes.{width, is_value, classified}
use Rattle.values.specs.Unscaled.{Unscaled, number, no_value, not_scalable}
use Rattle.values.specs.CodeTypes.{to_code_integer, to_code_unscaled}
use Rattle.values.specs.declared.Integer.{Integer}
use Rattle.values.proofs.ClassCases.{too_wide_lem}

-- A raw value that is a value of its type is not too wide for it.
pub value_fits : (code : ℕ) (presence : Presence) (raw : ℕ) (row : TypeRow) → row_of code ≡ some row
    → is_value (classified code presence raw) ≡ true → raw < 2 ^ width row
unfolding too_wide
value_fits code presence raw row e v = grind (arith, nat_tests, too_wide, too_wide_lem code presence raw row e)

-- `u` is an integer with this sign and magnitude.
pub record NumberOf (u : Unscaled) (negative : Bool) (magnitude : ℕ) : Type 0 where
  pub value : ℤ
  pub is : u ≡ number value
  pub sign : negative ≡ not (non_neg value)
  pub size : magnitude ≡ nat_abs value

pub was_number : (u : Unscaled) (i : Integer) → to_code_unscaled u ≡ Ok i → NumberOf u i.negative i.magnitude
was_number (number z) i e =
    let f : to_code_integer z ≡ i = cc in
    record { value = z; is = refl; sign = sym (ap (λ (x : Integer). x.negative) f); size = sym (ap (λ (x : Integer). x.magnitude) f) }
was_number no_value i e = impossible (cc)
was_number not_scalable i e = impossible (cc)
