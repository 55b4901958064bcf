-- The code's comparison by parts is the definition's cross-multiplication.
use mathlib.Core.Path.{◌≡◌, sym, ap, ◌∙◌}
use Prim.Native.Nat.{ℕ, ◌+◌, ◌-◌, ◌*◌, ◌^◌, ◌≤◌}
use native.Mathlib.Nat.{mul_assoc}
use native.Mathlib.Omega.{arith}
use lib.Dec.{eqb}
use lib.IntN.{ℤ, pos, negsuc, nat_abs, ◌-ℤ◌, ◌*ℤ◌}
use lib.Signed.{◌≤ℤ◌}
use Rattle.std.proofs.lemmas.Int.{ints}
use lib.Pow.{pow-add}
use Rattle.display.specs.Amounts.{fraction_of, zeros, places}
use Rattle.display.specs.Equality.{is_same_integer, is_same_fraction}
use Rattle.display.specs.InternalParts.{to_code_parts, is_same_by_parts}
use Rattle.display.proofs.PowersOfTen.{positive}
use Rattle.display.proofs.ScaledIntegers.{same_test, factor_cancels, twice, same_product}

-- z × 10 ^ i × 10 ^ j is z × 10 ^ (i + j).
both_powers : (z : ℤ) (i j : ℕ) → z *ℤ pos (10 ^ i) *ℤ pos (10 ^ j) ≡ z *ℤ pos (10 ^ (i + j))
both_powers z i j = twice z (10 ^ i) (10 ^ j) (positive i) ∙ ap (λ (n : ℕ). z *ℤ pos n) (sym (pow-add 10 i j))

pub by_parts : (v s w t : ℤ) → is_same_by_parts (to_code_parts v s) (to_code_parts w t) ≡ is_same_fraction (fraction_of v s) (fraction_of w t)
unfolding is_same_by_parts
by_parts v s w t =
    sym (same_product v w (10 ^ (zeros s + places t)) (10 ^ (zeros t + places s)) (positive (zeros s + places t)) (positive (zeros t + places s)))
    ∙ ap (λ (x : ℤ). is_same_integer x (w *ℤ pos (10 ^ (zeros t + places s)))) (sym (both_powers v (zeros s) (places t)))
    ∙ ap (is_same_integer (v *ℤ pos (10 ^ zeros s) *ℤ pos (10 ^ places t))) (sym (both_powers w (zeros t) (places s)))

-- A power of ten on both sides cancels.
shared_power : (m n d k : ℕ) → eqb (m * 10 ^ d) n ≡ eqb (m * 10 ^ (d + k)) (n * 10 ^ k)
shared_power m n d k =
    let e : m * 10 ^ (d + k) ≡ m * 10 ^ d * 10 ^ k = rw (pow-add 10 d k) (sym (mul_assoc m (10 ^ d) (10 ^ k))) in
    let back : m * 10 ^ (d + k) ≡ n * 10 ^ k → m * 10 ^ d ≡ n = λ q.
    factor_cancels (m * 10 ^ d) n (10 ^ k) (positive k) (sym e ∙ q) in
    same_test (m * 10 ^ d) n (m * 10 ^ (d + k)) (n * 10 ^ k) (λ q. e ∙ ap (λ (x : ℕ). x * 10 ^ k) q) back

-- The greater exponent is more by as much as the powers on the two sides differ.
record Gap (e f : ℤ) : Type 0 where
  less : zeros f + places e ≤ zeros e + places f
  is : zeros e + places f - (zeros f + places e) ≡ nat_abs (e -ℤ f)
  back : zeros e + places f - (zeros f + places e) ≡ nat_abs (f -ℤ e)

gap : (e f : ℤ) → f ≤ℤ e → Gap e f
gap (pos a) (pos b) h = record { less = omega (arith, ints, h); is = omega (arith, ints, h); back = omega (arith, ints, h) }
gap (pos a) (negsuc b) h = record { less = omega (arith, ints, h); is = omega (arith, ints, h); back = omega (arith, ints, h) }
gap (negsuc a) (pos b) h = record { less = omega (arith, ints, h); is = omega (arith, ints, h); back = omega (arith, ints, h) }
gap (negsuc a) (negsuc b) h = record { less = omega (arith, ints, h); is = omega (arith, ints, h); back = omega (arith, ints, h) }

module _ (m n : ℕ) (e f : ℤ) where
  pub first_larger : f ≤ℤ e → eqb (m * 10 ^ nat_abs (e -ℤ f)) n ≡ eqb (m * 10 ^ (zeros e + places f)) (n * 10 ^ (zeros f + places e))
  first_larger h =
      let g = gap e f h in
      let up = zeros e + places f in
      let down = zeros f + places e in
      let back : up - down + down ≡ up = omega (arith, g.less) in
      rw (← g.is) (shared_power m n (up - down) down ∙ ap (λ (k : ℕ). eqb (m * 10 ^ k) (n * 10 ^ down)) back)

  pub second_larger : e ≤ℤ f → eqb (n * 10 ^ nat_abs (e -ℤ f)) m ≡ eqb (m * 10 ^ (zeros e + places f)) (n * 10 ^ (zeros f + places e))
  second_larger h =
      let g = gap f e h in
      let up = zeros e + places f in
      let down = zeros f + places e in
      let back : down - up + up ≡ down = omega (arith, g.less) in
      rw (← g.back) (
      shared_power n m (down - up) up
      ∙ ap (λ (k : ℕ). eqb (n * 10 ^ k) (m * 10 ^ up)) back
      ∙ same_test (n * 10 ^ down) (m * 10 ^ up) (m * 10 ^ up) (n * 10 ^ down) sym sym
      )
