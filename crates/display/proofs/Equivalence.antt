-- On accepted quantities, equality of amounts is reflexive, symmetric and transitive; and it is equality of the cross-multiplied
-- integers.
use mathlib.Core.Path.{◌≡◌, refl, ap, ◌∙◌}
use mathlib.Core.Bool.{Bool, true, false}
use Prim.Native.Nat.{◌<◌}
use native.Mathlib.Omega.{arith}
use Rattle.std.proofs.lemmas.Bool.Decides.{nat_tests}
use lib.IntN.{ℤ, pos, ◌*ℤ◌}
use Rattle.display.specs.Amounts.{Amount, amount, refused, places, Fraction, fraction_of}
use Rattle.display.specs.Equality.{is_same_integer, is_same_fraction, equal_if, equal, equality, Accepted, SameNumber}
use Rattle.display.proofs.PowersOfTen.{positive}
use Rattle.display.proofs.ScaledIntegers.{swap, cancel, same_integer, integer_same}

is_equal : (b : Bool) → equal_if b ≡ equal → b ≡ true
is_equal true e = refl
is_equal false e = cc

module _ (v s w t : ℤ) where
  pub equal_means : equality (amount v s) (amount w t) ≡ equal → SameNumber (fraction_of v s) (fraction_of w t)
  unfolding equality
  equal_means e =
      let p = fraction_of v s in
      let q = fraction_of w t in
      same_integer (p.numerator *ℤ pos q.denominator) (q.numerator *ℤ pos p.denominator) (is_equal (is_same_fraction p q) e)

  pub means_equal : SameNumber (fraction_of v s) (fraction_of w t) → equality (amount v s) (amount w t) ≡ equal
  unfolding equality
  means_equal e =
      let p = fraction_of v s in
      let q = fraction_of w t in
      ap equal_if (integer_same (p.numerator *ℤ pos q.denominator) (q.numerator *ℤ pos p.denominator) e)

pub reflexive : (a : Amount) → Accepted a → equality a a ≡ equal
reflexive (amount v s) h = means_equal v s v s refl
reflexive (refused n place) h = absurd h

either_way : (x y : ℤ) → is_same_integer x y ≡ is_same_integer y x
either_way x y = grind (arith, nat_tests)

-- The result is the same with the two quantities exchanged.
pub symmetric : (a b : Amount) → Accepted a → Accepted b → equality a b ≡ equality b a
unfolding equality
symmetric (amount v s) (amount w t) h k =
    let p = fraction_of v s in
    let q = fraction_of w t in
    ap equal_if (either_way (p.numerator *ℤ pos q.denominator) (q.numerator *ℤ pos p.denominator))
symmetric (amount v s) (refused n place) h k = absurd k
symmetric (refused n place) b h k = absurd h

-- Transitivity: the denominator of b cancels.
through : (a b c : Fraction) → 0 < a.denominator → 0 < b.denominator → 0 < c.denominator → SameNumber a b → SameNumber b c
    → SameNumber a c
through a b c h k l p q =
    let da = a.denominator in
    let db = b.denominator in
    let dc = c.denominator in
    cancel (a.numerator *ℤ pos dc) (c.numerator *ℤ pos da) db k
    (swap a.numerator dc db l k
    ∙ ap (λ (z : ℤ). z *ℤ pos dc) p
    ∙ swap b.numerator da dc h l
    ∙ ap (λ (z : ℤ). z *ℤ pos da) q
    ∙ swap c.numerator db da k h)

pub transitive : (a b c : Amount) → equality a b ≡ equal → equality b c ≡ equal → equality a c ≡ equal
unfolding equality
transitive (amount v s) (amount w t) (amount x u) p q =
    means_equal v s x u
    (through (fraction_of v s) (fraction_of w t) (fraction_of x u) (positive (places s)) (positive (places t)) (positive (places u))
    (equal_means v s w t p) (equal_means w t x u q))
transitive (amount v s) (amount w t) (refused n place) p q = cc
transitive (amount v s) (refused n place) c p q = cc
transitive (refused n place) b c p q = cc
