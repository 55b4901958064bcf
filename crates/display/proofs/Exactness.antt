-- A decimal text, read back as a number, is value × 10 ^ scale, and it takes at most 30 bytes.
use mathlib.Core.Path.{◌≡◌, refl, ap, ◌∙◌}
use mathlib.Core.Bool.{Bool, true, false}
use mathlib.Core.List.{List}
use mathlib.Core.Option.{some}
use Prim.Native.Nat.{ℕ, suc, ◌+◌, ◌-◌, ◌*◌, ◌/◌, ◌^◌, ◌≤◌, ◌<◌}
use native.Mathlib.Nat.{div-one, mul-lt-mul_of_pos_right, div-lt_iff_lt-mul}
use native.Mathlib.Omega.{arith}
use lib.Dec.{ltb}
use lib.IntN.{ℤ, pos, negsuc, neg_ℤ}
use lib.ListN.{length, length-append}
use lib.Pow.{pow-add}
use Rattle.point_types.specs.Presence.{Presence}
use Rattle.lists.proofs.TestOutcomes.{impossible}
use Rattle.values.specs.Unscaled.{Within64}
use Rattle.display.specs.Amounts.{Amount, amount, amount_of, fraction_of, zeros, places}
use Rattle.display.specs.Decimals.{digit_count, digits_of, decimal_places, unsigned_text, decimal_text, Decimal, text, decimal_of}
use Rattle.display.specs.InternalParts.{TenAtMost}
use Rattle.display.specs.Reading.{signed, read_decimal, Exact}
use Rattle.display.proofs.PowersOfTen.{positive}
use Rattle.display.proofs.DigitCount.{at_most}
use Rattle.display.proofs.DigitTexts.{digits_length, number_length}
use Rattle.display.proofs.AmountCases.{amount_of_lem, value_within, scale_within}
use Rattle.display.proofs.ReadingBack.{read_unsigned_lem, no_minus}

-- The text of any value and scale factor reads back as value × 10 ^ scale.
pub read_back : (value scale : ℤ) → read_decimal (decimal_text value scale) ≡ some (fraction_of value scale)
unfolding read_decimal
read_back (pos a) scale =
    let n = a * 10 ^ zeros scale in
    no_minus n (places scale) ∙ ap (signed pos) (read_unsigned_lem n (places scale))
read_back (negsuc a) scale = ap (signed (λ n. neg_ℤ (pos n))) (read_unsigned_lem (suc a * 10 ^ zeros scale) (places scale))

-- ---- The length

text_length : (n p : ℕ) → length (unsigned_text n p) ≡ digit_count (n / 10 ^ p) + length (decimal_places p n)
unfolding unsigned_text
text_length n p =
    length-append (digits_of (n / 10 ^ p)) (decimal_places p n)
    ∙ ap (λ (x : ℕ). x + length (decimal_places p n)) (number_length (n / 10 ^ p))

-- A number of at most d digits, with up to ten zeros or places.
module _ (m d : ℕ) (wide : 11 ≤ d) (small : m < 10 ^ d) where
  zeros_length : (k : ℕ) → digit_count (m * 10 ^ k / 10 ^ 0) ≤ d + k
  zeros_length k =
      let h : m * 10 ^ k < 10 ^ (d + k) = rw (pow-add 10 d k) (mul-lt-mul_of_pos_right small (positive k)) in
      at_most (m * 10 ^ k / 10 ^ 0) (d + k) (omega arith) (rw (div-one (m * 10 ^ k)) h)

  places_length : (p : ℕ) → p ≤ 9 → digit_count (m * 10 ^ 0 / 10 ^ suc p) + suc p ≤ d
  places_length p h =
      let e : d - suc p + suc p ≡ d = omega arith in
      let l : m * 10 ^ 0 < 10 ^ (d - suc p) * 10 ^ suc p = rw (← pow-add 10 (d - suc p) (suc p), e) (omega arith) in
      let q : m * 10 ^ 0 / 10 ^ suc p < 10 ^ (d - suc p) = (div-lt_iff_lt-mul {x = m * 10 ^ 0} {y = 10 ^ (d - suc p)} (positive (suc p))).1 l in
      omega (arith, at_most (m * 10 ^ 0 / 10 ^ suc p) (d - suc p) (omega arith) q)

  number_bound : (scale : ℤ) → TenAtMost scale → length (unsigned_text (m * 10 ^ zeros scale) (places scale)) ≤ d + 10
  number_bound (pos k) t = omega (arith, text_length (m * 10 ^ k) 0, zeros_length k, t.zeros_bound)
  number_bound (negsuc p) t =
      omega
      (arith, text_length (m * 10 ^ 0) (suc p), places_length p (omega (arith, t.places_bound)), digits_length (suc p) (m * 10 ^ 0))

text_bound : (value scale : ℤ) → Within64 value → TenAtMost scale → length (decimal_text value scale) ≤ 30
text_bound (pos a) scale w t = number_bound a 20 (omega arith) (omega arith) scale t
text_bound (negsuc a) scale w t = omega (arith, number_bound (suc a) 19 (omega arith) (omega arith) scale t)

-- The claim.
pub exactness : (code : ℕ) (presence : Presence) (raw : ℕ) (scale : ℤ) (capacity : ℕ) (t : List ℕ)
    → decimal_of code presence raw scale capacity ≡ text t → Exact code presence raw scale t
unfolding decimal_of
exactness code presence raw scale capacity t e = by_amount (amount_of code presence raw scale) refl e
  where
    by_capacity : (value s : ℤ) → amount_of code presence raw scale ≡ amount value s → (b : Bool)
        → ◌≡◌ {A = Decimal} (elim b [ true ↦ Decimal.refused 46 0 | false ↦ text (decimal_text value s) ]) (text t) → Exact code presence raw scale t
    by_capacity value s a true q = impossible (cc)
    by_capacity value s a false q =
        let o = amount_of_lem code presence raw scale value s a in
        let u : t ≡ decimal_text value scale = cc in
        record {
          value = value;
          is = o.is;
          reads_back = rw u (read_back value scale);
          thirty = rw (u, o.same_scale) (text_bound value s (value_within code presence raw scale value s a) (scale_within code presence raw scale value s a));
        }

    by_amount : (a : Amount) → amount_of code presence raw scale ≡ a
        → ◌≡◌ {A = Decimal}
        (elim a [
          | Amount.refused n place ↦ Decimal.refused n place
          | amount value s ↦ elim (ltb capacity 32) [ true ↦ Decimal.refused 46 0 | false ↦ text (decimal_text value s) ]
        ])
        (text t) → Exact code presence raw scale t
    by_amount (Amount.refused n place) a q = impossible (cc)
    by_amount (amount value s) a q = by_capacity value s a (ltb capacity 32) q
