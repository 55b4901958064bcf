-- Laws of a product n × 10 ^ k, which may need more than 64 bits: when it is m.
use mathlib.Core.Path.{◌≡◌, refl, sym, ap, ◌∙◌}
use mathlib.Core.Bool.{Bool, true, false}
use Prim.Native.Nat.{ℕ, ◌*◌, ◌/◌, ◌%◌, ◌^◌, ◌≤◌, ◌<◌}
use native.Mathlib.Nat.{zero-mul, mul-le-mul, mul-mod_left, mul-div_cancel, div-add-mod'}
use native.Mathlib.Omega.{arith}
use borrow.Author.Tests.{eqb-true, eqb-false, eq-eqb, ne_eqb}
use lib.Dec.{eqb}
use Rattle.display.proofs.PowersOfTen.{positive, grow}
use Rattle.display.proofs.ScaledIntegers.{same_test}

module _ (n k m : ℕ) where
  pub zero_shifted : n ≡ 0 → eqb m 0 ≡ eqb (n * 10 ^ k) m
  zero_shifted e =
      let z : n * 10 ^ k ≡ 0 = rw e (zero-mul (10 ^ k)) in
      same_test m 0 (n * 10 ^ k) m (λ q. z ∙ sym q) (λ q. sym q ∙ z)

  -- Of the multiples of 10 ^ 20 and higher powers only zero fits 64 bits.
  pub far_shifted : (n ≡ 0 → ⊥) → 20 ≤ k → m < 2 ^ 64 → eqb n 0 ≡ eqb (n * 10 ^ k) m
  far_shifted h far small =
      same_test n 0 (n * 10 ^ k) m (λ q. absurd (h q))
      (λ q. let l : 1 ≤ n = omega arith in absurd (omega (arith, q, mul-le-mul {n₁ = 1} {m₁ = 10 ^ 20} l (grow {i = 20} {j = k} far))))

  module _ (power : ℕ) (is : power ≡ 10 ^ k) where
    pub no_multiple : (m % power ≡ 0 → ⊥) → false ≡ eqb (n * 10 ^ k) m
    no_multiple h = sym (ne_eqb (n * 10 ^ k) m (λ q. h (rw (is, ← q) (mul-mod_left n (10 ^ k)))))

    pub multiple : m % power ≡ 0 → eqb (m / power) n ≡ eqb (n * 10 ^ k) m
    multiple e =
        let there : m / power ≡ n → n * 10 ^ k ≡ m = λ q.
        let d = div-add-mod' m power in
        ap (λ (x : ℕ). x * 10 ^ k) (sym q) ∙ ap (λ (x : ℕ). m / power * x) (sym is) ∙ omega (arith, d, e) in
        let back : n * 10 ^ k ≡ m → m / power ≡ n = λ q. rw (is, ← q) (mul-div_cancel n (positive k)) in
        same_test (m / power) n (n * 10 ^ k) m there back
