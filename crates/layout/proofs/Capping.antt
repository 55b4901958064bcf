-- Capped numbers: where a cap makes no difference to a product, a remainder or a quotient. (The code caps sizes and counts of
-- points, since by the definition they may be larger than any machine number.)
use mathlib.Core.Path.{◌≡◌, sym, ap, ◌∙◌}
use Prim.Native.Nat.{ℕ, zero, suc, min, ◌+◌, ◌*◌, ◌/◌, ◌%◌, ◌≤◌, ◌<◌}
use native.Mathlib.Decide.{dec_le}
use native.Mathlib.Nat.{zero-mul, suc-mul, mod-eq_of_lt, div-eq_of_lt}
use native.Mathlib.Omega.{arith}

module _ (cap : ℕ) where
  -- The cap on a factor makes no difference to a capped sum.
  pub capped_factor : (t c s : ℕ) → min (t + c * min s cap) cap ≡ min (t + c * s) cap
  capped_factor t zero s = omega (arith, zero-mul s, zero-mul (min s cap))
  capped_factor t (suc c) s = at (dec_le s cap)
    where
      at : Dec (s ≤ cap) → min (t + suc c * min s cap) cap ≡ min (t + suc c * s) cap
      at (yes h) = let e : min s cap ≡ s = omega arith in rw e
      at (no h) = let e : min s cap ≡ cap = omega arith in rw e (omega (arith, suc-mul c s, suc-mul c cap))

  -- A function that has the same value at the cap and past it ignores the cap.
  capped_same : {A : Type 0} (f : ℕ → A) (r : ℕ) → (cap < r → f cap ≡ f r) → f (min r cap) ≡ f r
  capped_same f r beyond = at (dec_le r cap)
    where
      at : Dec (r ≤ cap) → f (min r cap) ≡ f r
      at (yes h) = ap f (omega arith)
      at (no h) = ap f (omega arith) ∙ beyond (omega arith)

  -- A number below the cap (a length), divided by a capped number.
  module _ (l : ℕ) (h : l < cap) where
    pub capped_remainder : (r : ℕ) → l % min r cap ≡ l % r
    capped_remainder r =
        capped_same (λ n. l % n) r (λ k. let b : l < r = omega arith in mod-eq_of_lt h ∙ sym (mod-eq_of_lt b))

    pub capped_quotient : (r : ℕ) → l / min r cap ≡ l / r
    capped_quotient r =
        capped_same (λ n. l / n) r (λ k. let b : l < r = omega arith in div-eq_of_lt h ∙ sym (div-eq_of_lt b))
