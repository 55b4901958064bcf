-- Laws of joining registers high first.
use mathlib.Core.Path.{◌≡◌, refl, sym, ap, ◌∙◌}
use mathlib.Core.List.{List, ◌∷◌}
use Prim.Native.Nat.{ℕ, zero, suc, ◌+◌, ◌-◌, ◌*◌, ◌^◌, ◌≤◌, ◌<◌, min}
use native.Mathlib.Nat.{pow-suc, mul_assoc, mul_comm, add-mul, add_assoc, mul-le-mul_right, pow-le-pow_right}
use native.Mathlib.Omega.{arith}
use native.Mathlib.Decide.{dec_le}
use borrow.Author.Tests.{le-leb, lt-leb, lt-ltb, le-ltb}
use lib.Dec.{leb, ltb}
use lib.Pow.{pow-add, pow_pos, pow_mono}
use lib.ListN.{length, get_or, take, drop, length-drop, drop_of_length-le}
use lib.Seq.{drop-cons, length-take-le}
use Rattle.registers.specs.Registers.{join, shown_raw, too_wide}

-- Joining one more register below the others.
pub lower_register : (raw p r j : ℕ) → raw * (p * 65536) + (r * p + j) ≡ (raw * 65536 + r) * p + j
lower_register raw p r j =
    let e : raw * (p * 65536) ≡ raw * 65536 * p = ap (λ (x : ℕ). raw * x) (mul_comm p 65536) ∙ sym (mul_assoc raw 65536 p) in
    rw (e, add-mul (raw * 65536) r p, add_assoc (raw * 65536 * p) (r * p) j)

pub join_cons : (r : ℕ) (rs : List ℕ) → join (r ∷ rs) ≡ r * 65536 ^ length rs + join rs
unfolding join
join_cons r rs = refl

-- A step of the loop: it joins the highest of the registers left.
pub join_step : (rs : List ℕ) (i raw : ℕ) → i < length rs
    → raw * 65536 ^ (length rs - i) + join (drop i rs)
    ≡ (raw * 65536 + get_or rs i 0) * 65536 ^ (length rs - (i + 1)) + join (drop (i + 1) rs)
join_step rs i raw h =
    let k = length rs - suc i in
    let n : length rs - i ≡ suc k = omega (arith, h) in
    let m : length (drop (suc i) rs) ≡ k = length-drop (suc i) rs ∙ omega arith in
    let r = get_or rs i 0 in
    let rest = drop (suc i) rs in
    let e : raw * 65536 ^ (length rs - i) + join (drop i rs) ≡ raw * (65536 ^ k * 65536) + (r * 65536 ^ k + join rest) =
    rw (drop-cons rs i 0 h, join_cons r rest, m, ← pow-suc 65536 k)
    (ap (λ (p : ℕ). raw * 65536 ^ p + (r * 65536 ^ k + join rest)) n) in
    let next : i + 1 ≡ suc i = omega arith in
    e ∙ rw next (lower_register raw (65536 ^ k) r (join rest))

-- At the end of the loop none is left.
pub join_end : (rs : List ℕ) (i raw : ℕ) → length rs ≤ i → raw * 65536 ^ (length rs - i) + join (drop i rs) ≡ raw
unfolding join
join_end rs i raw h =
    let e : length rs - i ≡ 0 = omega (arith, h) in
    rw (drop_of_length-le rs {i = i} h, e) (omega arith)

-- The raw value of k registers is below 65536 ^ k, and so it is with one more register.
pub one_more : (k raw r : ℕ) → raw < 65536 ^ k → r < 65536 → raw * 65536 + r < 65536 ^ (k + 1)
one_more k raw r h l =
    let e : k + 1 ≡ suc k = omega arith in
    rw (e, pow-suc 65536 k) (omega (arith, mul-le-mul_right 65536 h))

-- After up to three registers, a fourth still fits 64 bits.
pub fits_one_more : (k raw : ℕ) → k < 4 → raw < 65536 ^ k → raw < 281474976710656
fits_one_more k raw h l = omega (arith, pow-le-pow_right {n = 65536} (omega arith) {i = k} {j = 3} (omega arith))

-- A power of 65536 is positive, and k registers have 16 × k bits.
pub positive : (k : ℕ) → 0 < 65536 ^ k
positive zero = omega arith
positive (suc k) = rw (pow-suc 65536 k) (omega (arith, positive k))

pub sixteen_each : (k : ℕ) → 65536 ^ k ≡ 2 ^ (16 * k)
sixteen_each zero = refl
sixteen_each (suc k) =
    let e : 16 * suc k ≡ 16 * k + 16 = omega arith in
    rw (pow-suc 65536 k, sixteen_each k, e, pow-add 2 (16 * k) 16)

pub shown : (rs : List ℕ) → length rs ≤ 4 → shown_raw rs ≡ join rs
unfolding shown_raw
shown rs h = simp (shown_raw, le-leb _ _ h)

-- The raw value of more than four registers is shown as 0.
pub not_shown : (rs : List ℕ) → 4 < length rs → shown_raw rs ≡ 0
unfolding shown_raw
not_shown rs h = simp (shown_raw, lt-leb _ _ h)

-- The raw value of the first k registers is a pattern of k registers.
pub first_fit : (rs : List ℕ) (k raw : ℕ) → k ≤ length rs → raw < 65536 ^ length (take k rs) → raw < 2 ^ (16 * k)
first_fit rs k raw h l = rw (← sixteen_each k) (rw (length-take-le k rs h) at l)

-- The largest pattern of `count` registers in 64 bits: a raw value above it is too wide; up to four registers it is all ones.
pub above_ones : (count raw : ℕ) → raw < 2 ^ 64 → ltb (min (2 ^ (16 * count)) (2 ^ 64) - 1) raw ≡ too_wide count raw
unfolding too_wide
above_ones count raw h = go (dec_le (2 ^ (16 * count)) raw)
  where
    go : Dec (2 ^ (16 * count) ≤ raw) → ltb (min (2 ^ (16 * count)) (2 ^ 64) - 1) raw ≡ leb (2 ^ (16 * count)) raw
    go (yes w) = rw (le-leb _ _ w, lt-ltb (min (2 ^ (16 * count)) (2 ^ 64) - 1) raw (omega (arith, pow_pos (16 * count))))
    go (no w) = rw (lt-leb (2 ^ (16 * count)) raw (omega arith), le-ltb (min (2 ^ (16 * count)) (2 ^ 64) - 1) raw (omega arith))

pub four_ones : (count : ℕ) → count ≤ 4 → min (2 ^ (16 * count)) (2 ^ 64) - 1 ≡ 2 ^ (16 * count) - 1
four_ones count h = omega (arith, pow_mono {i = 16 * count} {j = 64} (omega arith))
