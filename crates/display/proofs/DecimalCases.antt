-- The cases of `decimal_of`, and the text of an amount by its parts.
use mathlib.Core.Path.{◌≡◌, refl, sym, ap, ◌∙◌}
use mathlib.Core.List.{[], ◌∷◌, ◌++◌, append-nil}
use Prim.Native.Nat.{ℕ, zero, suc, ◌/◌, ◌^◌, ◌≤◌}
use native.Mathlib.Nat.{div-one}
use native.Mathlib.Omega.{arith}
use borrow.Author.Tests.{le-ltb}
use lib.IntN.{ℤ}
use Rattle.point_types.specs.Presence.{Presence}
use Rattle.display.specs.Amounts.{amount_of}
use Rattle.display.specs.Decimals.{decimal_point, last_digits, digits_of, unsigned_text, text, decimal_of}
use Rattle.display.specs.InternalParts.{IsAmount, parts_text}
use Rattle.display.specs.declared.quantities.ScaledNumber.{ScaledNumber}

-- The text, if the buffer is long enough.
pub long_buffer : (code : ℕ) (presence : Presence) (raw : ℕ) (scale : ℤ) (capacity : ℕ) (parts : ScaledNumber)
    → IsAmount (amount_of code presence raw scale) parts → 32 ≤ capacity → decimal_of code presence raw scale capacity ≡ text (parts_text parts)
unfolding decimal_of
long_buffer code presence raw scale capacity parts was h =
    simp (decimal_of, was.is, le-ltb _ _ h) (ap (λ (p : ScaledNumber). text (parts_text p)) (sym was.form))

-- Without places the text is the whole number.
pub whole_text : (n : ℕ) → digits_of n ≡ unsigned_text n 0
unfolding unsigned_text
whole_text n = sym (ap (λ (m : ℕ). digits_of m ++ []) (div-one n) ∙ append-nil (digits_of n))

-- With places it is the whole part, the point and the last digits.
pub places_text : (n k : ℕ) → 1 ≤ k → digits_of (n / 10 ^ k) ++ decimal_point ∷ last_digits k n ≡ unsigned_text n k
unfolding unsigned_text
places_text n zero h = absurd (omega arith)
places_text n (suc k) h = refl
