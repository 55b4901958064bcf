-- Laws of integers times positive factors: the factors can be swapped and cancelled, and two products are equal if signs and
-- magnitudes agree.
use mathlib.Core.Path.{◌≡◌, refl, sym, ap, ◌∙◌}
use mathlib.Core.Bool.{true, not, ◌&&◌, beq}
use Prim.Native.Nat.{ℕ, suc, ◌-◌, ◌*◌, ◌<◌}
use native.Mathlib.Nat.{mul_assoc, mul_comm, mul-lt-mul_of_pos_right, eq_of_mul-eq-mul_left}
use native.Mathlib.Omega.{arith}
use borrow.Author.Tests.{eqb-true}
use lib.Dec.{eqb}
use lib.IntN.{ℤ, pos, negsuc, neg_ℤ, nat_abs, ◌*ℤ◌}
use lib.Signed.{non_neg}
use Rattle.std.proofs.lemmas.Bool.Decides.{nat_tests}
use Rattle.std.proofs.lemmas.Int.{ints}
use Rattle.display.specs.Equality.{is_same_integer}

-- Two tests for equality agree if each equation follows from the other.
pub same_test : (a b c d : ℕ) → (a ≡ b → c ≡ d) → (c ≡ d → a ≡ b) → eqb a b ≡ eqb c d
same_test a b c d f g = grind (arith, nat_tests)

-- The negation of a number that is not 0.
minus_some : (n : ℕ) → 0 < n → neg_ℤ (pos n) ≡ negsuc (n - 1)
minus_some n h = omega (arith, ints)

product_some : (a p : ℕ) → 0 < p → 0 < suc a * p
product_some a p h = omega (arith, mul-lt-mul_of_pos_right {m = a} {n = suc a} {k = p} (omega arith) h)

negative_product : (a p : ℕ) → 0 < p → negsuc a *ℤ pos p ≡ negsuc (suc a * p - 1)
negative_product a p h = minus_some (suc a * p) (product_some a p h)

pub twice : (z : ℤ) (p q : ℕ) → 0 < p → z *ℤ pos p *ℤ pos q ≡ z *ℤ pos (p * q)
twice (pos a) p q h = ap pos (mul_assoc a p q)
twice (negsuc a) p q h =
    let e : suc (suc a * p - 1) ≡ suc a * p = omega (arith, product_some a p h) in
    ap (λ (z : ℤ). z *ℤ pos q) (negative_product a p h)
    ∙ ap (λ (n : ℕ). neg_ℤ (pos (n * q))) e
    ∙ ap (λ (n : ℕ). neg_ℤ (pos n)) (mul_assoc (suc a) p q)

pub swap : (z : ℤ) (p q : ℕ) → 0 < p → 0 < q → z *ℤ pos p *ℤ pos q ≡ z *ℤ pos q *ℤ pos p
swap z p q h k = twice z p q h ∙ ap (λ (n : ℕ). z *ℤ pos n) (mul_comm p q) ∙ sym (twice z q p k)

-- A factor cancels.
pub factor_cancels : (a b p : ℕ) → 0 < p → a * p ≡ b * p → a ≡ b
factor_cancels a b p h e = eq_of_mul-eq-mul_left p h a b (mul_comm p a ∙ e ∙ mul_comm b p)

-- Two products are equal if and only if the integers have the same sign and the products of the magnitudes are equal.
pub same_product : (v w : ℤ) (p q : ℕ) → 0 < p → 0 < q
    → is_same_integer (v *ℤ pos p) (w *ℤ pos q) ≡ (beq (not (non_neg v)) (not (non_neg w)) && eqb (nat_abs v * p) (nat_abs w * q))
same_product (pos a) (pos b) p q h k = refl
same_product (pos a) (negsuc b) p q h k = rw (negative_product b q k)
same_product (negsuc a) (pos b) p q h k = rw (negative_product a p h)
same_product (negsuc a) (negsuc b) p q h k =
    rw (negative_product a p h, negative_product b q k)
    (same_test (suc a * p - 1) (suc b * q - 1) (suc a * p) (suc b * q)
    (λ e. omega (arith, e, product_some a p h, product_some b q k)) (λ e. omega (arith, e)))

-- `is_same_integer` tests equality.
pub same_integer : (x y : ℤ) → is_same_integer x y ≡ true → x ≡ y
same_integer x y e = grind (arith, nat_tests)

pub integer_same : (x y : ℤ) → x ≡ y → is_same_integer x y ≡ true
integer_same x y e = grind (arith, nat_tests)

-- A common factor cancels.
pub cancel : (x y : ℤ) (p : ℕ) → 0 < p → x *ℤ pos p ≡ y *ℤ pos p → x ≡ y
cancel x y p h e = go x y (sym (same_product x y p p h h) ∙ integer_same (x *ℤ pos p) (y *ℤ pos p) e)
  where
    go : (x y : ℤ) → (beq (not (non_neg x)) (not (non_neg y)) && eqb (nat_abs x * p) (nat_abs y * p)) ≡ true → x ≡ y
    go (pos a) (pos b) t = ap pos (factor_cancels a b p h (eqb-true (a * p) (b * p) t))
    go (pos a) (negsuc b) t = cc
    go (negsuc a) (pos b) t = cc
    go (negsuc a) (negsuc b) t =
        let s = factor_cancels (suc a) (suc b) p h (eqb-true (suc a * p) (suc b * p) t) in
        let r : a ≡ b = omega arith in
        ap negsuc r
