-- Reading digits back: v followed by the last k digits of m is read as v × 10 ^ k + m % 10 ^ k.
use mathlib.Core.Path.{◌≡◌, sym, ap, ◌∙◌}
use mathlib.Core.Bool.{true}
use mathlib.Core.List.{List, ◌∷◌, ◌++◌}
use mathlib.Core.Option.{some}
use Prim.Native.Nat.{ℕ, zero, suc, ◌+◌, ◌-◌, ◌*◌, ◌/◌, ◌%◌, ◌^◌, ◌≤◌, ◌<◌}
use native.Mathlib.Nat.{pow-suc, mod-lt, mod-one, mul-one, one-mul, zero-mul, mul_assoc, mul_comm, add-mul, add_assoc, mul-le-mul_right, mod-eq_of_lt, mul-add-mod_self_right, div-add-mod', div-one}
use native.Mathlib.Omega.{arith}
use borrow.Author.Tests.{le-leb, ne_eqb}
use lib.IntN.{pos}
use Rattle.display.specs.Decimals.{minus_sign, digit_zero, digit_at, last_digits, digit_count, decimal_places, unsigned_text}
use Rattle.display.specs.Reading.{is_digit, with_digit, read_places, read_whole, read_unsigned, signed, read_decimal}
use Rattle.display.proofs.PowersOfTen.{positive}
use Rattle.display.proofs.DigitCount.{count}

-- `digit_at` gives a digit, which is read as its value.
digit_small : (n k : ℕ) → n / 10 ^ k % 10 < 10
digit_small n k = mod-lt (n / 10 ^ k) (omega arith)

is_digit_lem : (n k : ℕ) → is_digit (digit_at n k) ≡ true
is_digit_lem n k =
    let s = digit_small n k in
    simp (le-leb 48 (digit_at n k) (omega arith), le-leb (digit_at n k) 57 (omega (arith, s)))

digit_back : (n k : ℕ) → digit_at n k - digit_zero ≡ n / 10 ^ k % 10
digit_back n k = omega arith

-- The remainder by p × 10 is the digit at p, times p, plus the remainder by p.
next_power : (m p : ℕ) → 0 < p → m % (p * 10) ≡ m / p % 10 * p + m % p
next_power m p h =
    let q = m / p in
    let r = m % p in
    let low : q % 10 * p + r < p * 10 =
    omega (arith, mul-le-mul_right {m = q % 10} {n = 9} p (omega arith), mod-lt m h, mul_comm 9 p) in
    let whole : m ≡ q / 10 * (p * 10) + (q % 10 * p + r) =
    sym (div-add-mod' m p)
    ∙ ap (λ (x : ℕ). x * p + r) (sym (div-add-mod' q 10))
    ∙ ap (λ (x : ℕ). x + r) (add-mul (q / 10 * 10) (q % 10) p ∙ ap (λ (x : ℕ). x + q % 10 * p) (mul_assoc (q / 10) 10 p))
    ∙ add_assoc (q / 10 * (10 * p)) (q % 10 * p) r
    ∙ ap (λ (x : ℕ). q / 10 * x + (q % 10 * p + r)) (mul_comm 10 p) in
    ap (λ (x : ℕ). x % (p * 10)) whole
    ∙ mul-add-mod_self_right (q / 10) (p * 10) (q % 10 * p + r)
    ∙ mod-eq_of_lt low

-- One digit is read, and k are left.
one_more : (v m k : ℕ) → (v * 10 + m / 10 ^ k % 10) * 10 ^ k + m % 10 ^ k ≡ v * 10 ^ suc k + m % 10 ^ suc k
one_more v m k =
    ap (λ (x : ℕ). x + m % 10 ^ k) (add-mul (v * 10) (m / 10 ^ k % 10) (10 ^ k))
    ∙ add_assoc (v * 10 * 10 ^ k) (m / 10 ^ k % 10 * 10 ^ k) (m % 10 ^ k)
    ∙ ap (λ (x : ℕ). v * 10 * 10 ^ k + x) (sym (next_power m (10 ^ k) (positive k)))
    ∙ ap (λ (x : ℕ). x + m % (10 ^ k * 10)) (mul_assoc v 10 (10 ^ k) ∙ ap (λ (x : ℕ). v * x) (mul_comm 10 (10 ^ k)))
    ∙ ap (λ (x : ℕ). v * x + m % x) (sym (pow-suc 10 k))

none_more : (v m : ℕ) → v * 10 ^ 0 + m % 10 ^ 0 ≡ v
none_more v m = omega (arith, mul-one v, mod-one m)

-- A digit is read.
whole_digit : (v b : ℕ) (bs : List ℕ) → is_digit b ≡ true → read_whole v (b ∷ bs) ≡ read_whole (with_digit v b) bs
unfolding read_whole
whole_digit v b bs e = simp (read_whole, e)

places_digit : (v d b : ℕ) (bs : List ℕ) → is_digit b ≡ true → read_places v d (b ∷ bs) ≡ read_places (with_digit v b) (d * 10) bs
unfolding read_places
places_digit v d b bs e = simp (read_places, e)

pub read_whole_lem : (k m v : ℕ) (rest : List ℕ) → read_whole v (last_digits k m ++ rest) ≡ read_whole (v * 10 ^ k + m % 10 ^ k) rest
unfolding last_digits
read_whole_lem zero m v rest = ap (λ (x : ℕ). read_whole x rest) (sym (none_more v m))
read_whole_lem (suc k) m v rest =
    whole_digit v (digit_at m k) (last_digits k m ++ rest) (is_digit_lem m k)
    ∙ ap (λ (x : ℕ). read_whole (v * 10 + x) (last_digits k m ++ rest)) (digit_back m k)
    ∙ read_whole_lem k m (v * 10 + m / 10 ^ k % 10) rest
    ∙ ap (λ (x : ℕ). read_whole x rest) (one_more v m k)

pub read_places_lem : (k m v d : ℕ) → read_places v d (last_digits k m) ≡ some (v * 10 ^ k + m % 10 ^ k, d * 10 ^ k)
unfolding last_digits read_places
read_places_lem zero m v d = rw (none_more v m, mul-one d)
read_places_lem (suc k) m v d =
    let e : d * 10 * 10 ^ k ≡ d * 10 ^ suc k = mul_assoc d 10 (10 ^ k) ∙ ap (λ (x : ℕ). d * x) (mul_comm 10 (10 ^ k) ∙ sym (pow-suc 10 k)) in
    places_digit v d (digit_at m k) (last_digits k m) (is_digit_lem m k)
    ∙ ap (λ (x : ℕ). read_places (v * 10 + x) (d * 10) (last_digits k m)) (digit_back m k)
    ∙ read_places_lem k m (v * 10 + m / 10 ^ k % 10) (d * 10)
    ∙ rw (one_more v m k, e)

-- A text that begins with a digit is read as a number without a sign.
from_digit : (b : ℕ) (bs : List ℕ) → is_digit b ≡ true → read_unsigned (b ∷ bs) ≡ read_whole 0 (b ∷ bs)
unfolding read_unsigned
from_digit b bs e = simp (read_unsigned, e)

begins : (c m : ℕ) (rest : List ℕ) → 1 ≤ c → read_unsigned (last_digits c m ++ rest) ≡ read_whole 0 (last_digits c m ++ rest)
unfolding last_digits
begins zero m rest h = absurd (omega arith)
begins (suc k) m rest h = from_digit (digit_at m k) (last_digits k m ++ rest) (is_digit_lem m k)

without_minus : (b : ℕ) (bs : List ℕ) → (b ≡ minus_sign → ⊥) → read_decimal (b ∷ bs) ≡ signed pos (read_unsigned (b ∷ bs))
unfolding read_decimal
without_minus b bs h = simp (read_decimal, ne_eqb b minus_sign h)

digit_first : (c m : ℕ) (rest : List ℕ) → 1 ≤ c → read_decimal (last_digits c m ++ rest) ≡ signed pos (read_unsigned (last_digits c m ++ rest))
unfolding last_digits
digit_first zero m rest h = absurd (omega arith)
digit_first (suc k) m rest h = without_minus (digit_at m k) (last_digits k m ++ rest) (λ q. omega (arith, q))

-- The text of n with p places is read as n / 10 ^ p.
pub read_unsigned_lem : (n p : ℕ) → read_unsigned (unsigned_text n p) ≡ some (n, 10 ^ p)
unfolding read_whole unsigned_text
read_unsigned_lem n p =
    let w = n / 10 ^ p in
    let e : 0 * 10 ^ digit_count w + w % 10 ^ digit_count w ≡ w = omega (arith, zero-mul (10 ^ digit_count w), mod-eq_of_lt (count w).enough) in
    begins (digit_count w) w (decimal_places p n) (count w).some
    ∙ read_whole_lem (digit_count w) w 0 (decimal_places p n)
    ∙ ap (λ (x : ℕ). read_whole x (decimal_places p n)) e
    ∙ ends p
  where
    ends : (q : ℕ) → read_whole (n / 10 ^ q) (decimal_places q n) ≡ some (n, 10 ^ q)
    ends zero = rw (div-one n)
    ends (suc q) = read_places_lem (suc q) n (n / 10 ^ suc q) 1 ∙ rw (div-add-mod' n (10 ^ suc q), one-mul (10 ^ suc q))

-- A text without a minus is read as a number without a sign.
pub no_minus : (n p : ℕ) → read_decimal (unsigned_text n p) ≡ signed pos (read_unsigned (unsigned_text n p))
unfolding unsigned_text
no_minus n p = let w = n / 10 ^ p in digit_first (digit_count w) w (decimal_places p n) (count w).some
