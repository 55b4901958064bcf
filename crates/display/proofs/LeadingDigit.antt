-- The digits of a number other than zero do not begin with 0; zero is the one digit 0.
use mathlib.Core.Path.{◌≡◌, refl}
use mathlib.Core.List.{[], ◌∷◌}
use Prim.Native.Nat.{ℕ, zero, suc, ◌-◌, ◌*◌, ◌/◌, ◌^◌, ◌≤◌, ◌<◌}
use native.Mathlib.Nat.{pow-suc, one-mul, le-div_iff_mul-le, div-lt_iff_lt-mul, mod-eq_of_lt}
use native.Mathlib.Omega.{arith}
use Rattle.display.specs.Decimals.{digit_zero, digit_at, last_digits, digit_count_within, digit_count, digits_of, NotZeroFirst}
use Rattle.display.proofs.PowersOfTen.{positive}
use Rattle.display.proofs.DigitCount.{CountOf, first_power, count}

first_digit : (n c : ℕ) → 1 ≤ n → CountOf n (suc c) → digit_zero < digit_at n c
first_digit n c h o =
    let e : suc c - 1 ≡ c = omega arith in
    let low : 10 ^ c ≤ n = rw e at (first_power n (suc c) h o) in
    let high : n < 10 * 10 ^ c = omega (arith, o.enough, pow-suc 10 c) in
    let one : 1 ≤ n / 10 ^ c = (le-div_iff_mul-le {x = 1} {y = n} (positive c)).1 (omega (arith, one-mul (10 ^ c))) in
    let nine : n / 10 ^ c < 10 = (div-lt_iff_lt-mul {x = n} {y = 10} (positive c)).1 high in
    omega (arith, one, mod-eq_of_lt nine)

pub no_leading_zero : (n : ℕ) → 1 ≤ n → NotZeroFirst (digits_of n)
unfolding last_digits
no_leading_zero n h = go (digit_count n) (count n)
  where
    go : (c : ℕ) → CountOf n c → NotZeroFirst (last_digits c n)
    go zero o = absurd (omega (arith, o.some))
    go (suc c) o = first_digit n c h o

pub zero_alone : digits_of 0 ≡ digit_zero ∷ []
unfolding last_digits digit_count_within
zero_alone = refl
