-- The number of digits of n is the only c ≥ 1 with n < 10 ^ c and, if c is more than 1, 10 ^ (c - 1) ≤ n. So the bound on the steps in
-- its definition is always enough.
use mathlib.Core.Path.{◌≡◌, refl}
use mathlib.Core.Bool.{Bool, true, false}
use Prim.Native.Nat.{ℕ, zero, suc, ◌+◌, ◌-◌, ◌*◌, ◌/◌, ◌^◌, ◌≤◌, ◌<◌}
use native.Mathlib.Nat.{pow-suc, mul-lt-mul_of_pos_right, mul-le-mul_right, mul_comm}
use native.Mathlib.Omega.{arith}
use native.Mathlib.Decide.{dec_le}
use borrow.Author.Tests.{ltb-true, ltb-false}
use lib.Dec.{ltb}
use lib.Pow.{pow-add}
use Rattle.display.specs.Decimals.{digit_count_within, digit_count}
use Rattle.display.proofs.PowersOfTen.{positive, grow}

-- n has c digits: c digits are enough for n, and fewer are not.
pub record CountOf (n c : ℕ) : Type 0 where
  pub some : 1 ≤ c
  pub enough : n < 10 ^ c
  pub no_fewer : 1 < c → 10 ^ (c - 1) ≤ n

-- x digits are not enough for a number of more than x digits.
too_few : (n c x : ℕ) → CountOf n c → 1 ≤ x → x < c → n < 10 ^ x → ⊥
too_few n c x o l h k = omega (arith, o.no_fewer (omega arith), grow {i = x} {j = c - 1} (omega arith))

pub unique : (n c d : ℕ) → CountOf n c → CountOf n d → c ≡ d
unique n c d a b = go (dec_le c d) (dec_le d c)
  where
    go : Dec (c ≤ d) → Dec (d ≤ c) → c ≡ d
    go (yes h) (yes k) = omega arith
    go (yes h) (no k) = absurd (too_few n d c b a.some (omega arith) a.enough)
    go (no h) k = absurd (too_few n c d a b.some (omega arith) b.enough)

-- A number of c digits that is not 0 is at least 10 ^ (c - 1).
pub first_power : (n c : ℕ) → 1 ≤ n → CountOf n c → 10 ^ (c - 1) ≤ n
first_power n c h o = go (dec_le 2 c)
  where
    go : Dec (2 ≤ c) → 10 ^ (c - 1) ≤ n
    go (yes l) = o.no_fewer l
    go (no l) = let e : c - 1 ≡ 0 = omega arith in rw e h

under_ten : (n : ℕ) → n < 10 → CountOf n 1
under_ten n h = record { some = omega arith; enough = h; no_fewer = λ l. absurd (omega arith) }

-- n has one digit more than n / 10.
from_tenth : (n c : ℕ) → 10 ≤ n → CountOf (n / 10) c → CountOf n (suc c)
from_tenth n c h t =
    record {
      some = omega arith;
      enough = omega (arith, pow-suc 10 c, t.enough);
      no_fewer = λ l. lower (dec_le 2 c);
    }
  where
    lower : Dec (2 ≤ c) → 10 ^ (suc c - 1) ≤ n
    lower (yes k) =
        let e : suc c - 1 ≡ suc (c - 1) = omega (arith, t.some) in
        rw (e, pow-suc 10 (c - 1)) (omega (arith, t.no_fewer k))
    lower (no k) = let e : suc c - 1 ≡ 1 = omega (arith, t.some) in rw e h

within : (steps n : ℕ) → n ≤ steps → CountOf n (digit_count_within steps n)
unfolding digit_count_within
within zero n h = under_ten n (omega arith)
within (suc steps) n h = go (ltb n 10) refl (λ l. within steps (n / 10) l)
  where
    go : (b : Bool) → ltb n 10 ≡ b → (n / 10 ≤ steps → CountOf (n / 10) (digit_count_within steps (n / 10)))
        → CountOf n (elim b [ true ↦ 1 | false ↦ suc (digit_count_within steps (n / 10)) ])
    go true e ih = under_ten n (ltb-true n 10 e)
    go false e ih = from_tenth n (digit_count_within steps (n / 10)) (ltb-false n 10 e) (ih (omega (arith, ltb-false n 10 e)))

pub count : (n : ℕ) → CountOf n (digit_count n)
count n = within n n (omega arith)

-- The last power of ten up to n gives the number of its digits.
pub from_power : (n k : ℕ) → 10 ^ k ≤ n → n < 10 * 10 ^ k → suc k ≡ digit_count n
from_power n k low high =
    let last : suc k - 1 ≡ k = omega arith in
    unique n (suc k) (digit_count n) (record { some = omega arith; enough = omega (arith, pow-suc 10 k, high); no_fewer = λ l. rw last low }) (count n)

-- The definition's two cases, without a bound on its steps.
pub one_digit : (n : ℕ) → n < 10 → digit_count n ≡ 1
one_digit n h = unique n (digit_count n) 1 (count n) (under_ten n h)

pub more_digits : (n : ℕ) → 10 ≤ n → digit_count n ≡ suc (digit_count (n / 10))
more_digits n h = unique n (digit_count n) (suc (digit_count (n / 10))) (count n) (from_tenth n (digit_count (n / 10)) h (count (n / 10)))

-- A number below 10 ^ c has at most c digits.
pub at_most : (n c : ℕ) → 1 ≤ c → n < 10 ^ c → digit_count n ≤ c
at_most n c l h = go (dec_le (digit_count n) c)
  where
    go : Dec (digit_count n ≤ c) → digit_count n ≤ c
    go (yes k) = k
    go (no k) = absurd (too_few n (digit_count n) c (count n) l (omega arith) h)

-- Appending k zeros to a number that is not 0 adds k digits.
pub appended : (n k : ℕ) → 1 ≤ n → digit_count (n * 10 ^ k) ≡ k + digit_count n
appended n k h = unique (n * 10 ^ k) (digit_count (n * 10 ^ k)) (k + digit_count n) (count (n * 10 ^ k)) shifted
  where
    shifted : CountOf (n * 10 ^ k) (k + digit_count n)
    shifted =
        record {
          some = omega (arith, (count n).some);
          enough =
              rw (pow-add 10 k (digit_count n), mul_comm (10 ^ k) (10 ^ digit_count n))
              (mul-lt-mul_of_pos_right (count n).enough (positive k));
          no_fewer = λ l.
              let e : k + digit_count n - 1 ≡ k + (digit_count n - 1) = omega (arith, (count n).some) in
              rw (e, pow-add 10 k (digit_count n - 1), mul_comm (10 ^ k) (10 ^ (digit_count n - 1))) (mul-le-mul_right (10 ^ k) (first_power n (digit_count n) h (count n)));
        }
