-- Digits as text: storing them one by one, and appending zeros.
use mathlib.Core.Path.{◌≡◌, refl, sym, ap, ◌∙◌}
use mathlib.Core.List.{List, [], ◌∷◌, ◌++◌}
use Prim.Native.Nat.{ℕ, zero, suc, ◌+◌, ◌-◌, ◌*◌, ◌^◌, ◌≤◌, ◌<◌}
use native.Mathlib.Nat.{add-zero, add-suc, zero-mul, mul_assoc, zero-div, div-div-eq-div-mul, mul-div_cancel, mul-mod_left, pow-suc}
use native.Mathlib.Omega.{arith}
use lib.ListN.{length, set}
use lib.Pow.{pow-add}
use lib.Seq.{sets}
use Rattle.std.proofs.lemmas.List.{set_comm}
use Rattle.display.specs.Decimals.{digit_zero, digit_at, last_digits, digit_count, digits_of}
use Rattle.display.proofs.PowersOfTen.{positive}
use Rattle.display.proofs.DigitCount.{appended}

pub digits_length : (k n : ℕ) → length (last_digits k n) ≡ k
unfolding last_digits
digits_length zero n = refl
digits_length (suc k) n = ap suc (digits_length k n)

pub number_length : (n : ℕ) → length (digits_of n) ≡ digit_count n
number_length n = digits_length (digit_count n) n

-- ---- Storing

-- A store before a text is the same before or after it.
set_before : (out xs : List ℕ) (i j x : ℕ) → i < j → set (sets out j xs) i x ≡ sets (set out i x) j xs
set_before out [] i j x h = refl
set_before out (y ∷ ys) i j x h =
    set_before (set out j y) ys i (suc j) x (omega arith)
    ∙ ap (λ (l : List ℕ). sets l (suc j) ys) (set_comm out j i y x (λ e. omega (arith, e)))

-- Storing the digit before the last k of n gives the last k + 1 of them.
pub store_digit : (out : List ℕ) (i k n : ℕ) → set (sets out (suc i) (last_digits k n)) i (digit_at n k) ≡ sets out i (last_digits (suc k) n)
unfolding last_digits
store_digit out i k n = set_before out (last_digits k n) i (suc i) (digit_at n k) (omega arith)

-- ---- Appended zeros

-- The last k digits of n × 10 ^ k are zeros.
low_digit : (n k j : ℕ) → j < k → digit_at (n * 10 ^ k) j ≡ digit_zero
low_digit n k j h =
    let s : k ≡ suc (k - suc j) + j = omega arith in
    let e : 10 ^ k ≡ 10 ^ (k - suc j) * 10 * 10 ^ j =
    ap (λ (x : ℕ). 10 ^ x) s ∙ pow-add 10 (suc (k - suc j)) j ∙ ap (λ (x : ℕ). x * 10 ^ j) (pow-suc 10 (k - suc j)) in
    let m : n * 10 ^ k ≡ n * 10 ^ (k - suc j) * 10 * 10 ^ j =
    ap (λ (x : ℕ). n * x) e
    ∙ sym (mul_assoc n (10 ^ (k - suc j) * 10) (10 ^ j))
    ∙ ap (λ (x : ℕ). x * 10 ^ j) (sym (mul_assoc n (10 ^ (k - suc j)) 10)) in
    rw (m, mul-div_cancel (n * 10 ^ (k - suc j) * 10) (positive j), mul-mod_left (n * 10 ^ (k - suc j)) 10)

zero_digit : (j : ℕ) → digit_at 0 j ≡ digit_zero
zero_digit j = rw (zero-div (10 ^ j))

all_zeros : (n k j : ℕ) → j ≤ k → last_digits j (n * 10 ^ k) ≡ last_digits j 0
unfolding last_digits
all_zeros n k zero h = refl
all_zeros n k (suc j) h =
    ap (λ (d : ℕ). d ∷ last_digits j (n * 10 ^ k)) (low_digit n k j h ∙ sym (zero_digit j))
    ∙ ap (λ (ds : List ℕ). digit_at 0 j ∷ ds) (all_zeros n k j (omega arith))

-- The digits before them are those of n.
high_digit : (n k j : ℕ) → digit_at (n * 10 ^ k) (k + j) ≡ digit_at n j
high_digit n k j =
    rw (pow-add 10 k j, ← div-div-eq-div-mul (n * 10 ^ k) (10 ^ k) (10 ^ j), mul-div_cancel n (positive k))

pub zeros_appended : (n k j : ℕ) → last_digits (k + j) (n * 10 ^ k) ≡ last_digits j n ++ last_digits k 0
unfolding last_digits
zeros_appended n k zero = ap (λ (x : ℕ). last_digits x (n * 10 ^ k)) (add-zero k) ∙ all_zeros n k k (omega arith)
zeros_appended n k (suc j) =
    ap (λ (x : ℕ). last_digits x (n * 10 ^ k)) (add-suc k j)
    ∙ ap (λ (d : ℕ). d ∷ last_digits (k + j) (n * 10 ^ k)) (high_digit n k j)
    ∙ ap (λ (ds : List ℕ). digit_at n j ∷ ds) (zeros_appended n k j)

pub appended_zeros : (n k : ℕ) → 1 ≤ n → digits_of (n * 10 ^ k) ≡ digits_of n ++ last_digits k 0
appended_zeros n k h = ap (λ (c : ℕ). last_digits c (n * 10 ^ k)) (appended n k h) ∙ zeros_appended n k (digit_count n)

-- Zeros appended to zero are none.
pub zero_text : (n k : ℕ) → n ≡ 0 → digits_of n ≡ digits_of (n * 10 ^ k)
zero_text n k e = rw e (sym (ap digits_of (zero-mul (10 ^ k))))
