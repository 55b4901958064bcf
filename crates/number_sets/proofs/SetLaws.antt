-- Laws of putting one number into a set and of taking it out, bit by bit; and of the empty set.
use mathlib.Core.Path.{◌≡◌, refl, ap}
use mathlib.Core.Logic.{◌≢◌}
use mathlib.Core.Bool.{Bool, true, false}
use mathlib.Core.List.{List}
use Prim.Native.Nat.{ℕ, ◌*◌, ◌/◌, ◌%◌, ◌^◌, ◌<◌}
use native.Mathlib.Nat.{zero-div}
use native.Mathlib.Omega.{arith}
use borrow.Author.Tests.{eqb-true, eqb-false, eq-eqb, ne_eqb}
use lib.Bits.{bit_and, bit_or, bit_xor}
use lib.Dec.{eqb}
use lib.ListN.{length, get_or, set, replicate, length-set, length-replicate, get_or-replicate}
use lib.Pow.{pow-lt}
use lib.Seq.{get_or-set_same, get_or-set_other}
use Rattle.std.specs.Int.{bit_at, bit_not}
use Rattle.std.proofs.lemmas.Nat.{and_le_l, or_lt, xor_lt}
use Rattle.std.proofs.lemmas.Nat.Bits.{bit_at-lt, bit_at-pow_same, bit_at-pow_other, bit_at_or, bit_at_xor}
use Rattle.std.proofs.lemmas.Nat.Bits.{bit_at_clear_same, bit_at_clear_other, same_from_bits_below}
use mir.Syntax.{w64}
use Rattle.number_sets.specs.NumberSets.{in_set, with_number, without_number, marked, Marks, Blank}

-- ---- Bits

-- Bit b of a word, set: it is 1, and the other bits stay.
module _ (w b : ℕ) where
  set_same : bit_at (bit_or w (2 ^ b)) b ≡ 1
  set_same = let x = bit_at-lt w b in rw (bit_at_or w (2 ^ b) b, bit_at-pow_same b) (omega arith)

  set_other : (j : ℕ) → j ≢ b → bit_at (bit_or w (2 ^ b)) j ≡ bit_at w j
  set_other j n = rw (bit_at_or w (2 ^ b) j, bit_at-pow_other b j n) (omega arith)

  -- Set and then flipped: it is 0, and the other bits stay.
  flipped_same : bit_at (bit_xor (bit_or w (2 ^ b)) (2 ^ b)) b ≡ 0
  flipped_same = rw (bit_at_xor (bit_or w (2 ^ b)) (2 ^ b) b, set_same, bit_at-pow_same b)

  flipped_other : (j : ℕ) → j ≢ b → bit_at (bit_xor (bit_or w (2 ^ b)) (2 ^ b)) j ≡ bit_at w j
  flipped_other j n =
      let x = bit_at-lt w j in
      rw (bit_at_xor (bit_or w (2 ^ b)) (2 ^ b) j, set_other j n, bit_at-pow_other b j n) (omega arith)

-- To clear a bit by "and" is to set it and then to flip it.
pub cleared : (w b : ℕ) → w < 2 ^ 64 → b < 64
    → bit_and w (bit_not w64 (1 * 2 ^ b % 2 ^ 64)) ≡ bit_xor (bit_or w (2 ^ b)) (2 ^ b)
cleared w b small within =
    let mask = pow-lt within in
    let l = and_le_l w (bit_not w64 (1 * 2 ^ b % 2 ^ 64)) in
    same_from_bits_below 64 _ _ (omega arith) (xor_lt 64 _ _ (or_lt 64 w (2 ^ b) small mask) mask) λ j h.
    go j h (eqb j b) refl
  where
    go : (j : ℕ) → j < 64 → (t : Bool) → eqb j b ≡ t
        → bit_at (bit_and w (bit_not w64 (1 * 2 ^ b % 2 ^ 64))) j ≡ bit_at (bit_xor (bit_or w (2 ^ b)) (2 ^ b)) j
    go j h true e = rw (eqb-true j b e, bit_at_clear_same w64 w b within, flipped_same w b)
    go j h false e =
        let n = eqb-false j b e in
        rw (bit_at_clear_other w64 w b within j h n, flipped_other w b j n)

-- ---- Sets

module _ (words : List ℕ) (m : ℕ) (u : m < 65536) where
  -- A store of the word of m that changes only the bit of m.
  stored : length words ≡ 1024 → (w b : ℕ) → w / 2 ^ (m % 64) % 2 ≡ b
      → ((j : ℕ) → j ≢ m % 64 → w / 2 ^ j % 2 ≡ get_or words (m / 64) 0 / 2 ^ j % 2) → (n : ℕ)
      → in_set (set words (m / 64) w) n ≡ elim (eqb n m) [ true ↦ eqb b 1 | false ↦ in_set words n ]
  unfolding in_set
  stored l w b own others n = go (eqb (n / 64) (m / 64)) refl (eqb (n % 64) (m % 64)) refl
    where
      here : get_or (set words (m / 64) w) (m / 64) 0 ≡ w
      here = get_or-set_same words (m / 64) w 0 (omega (arith, l, u))

      go : (a : Bool) → eqb (n / 64) (m / 64) ≡ a → (c : Bool) → eqb (n % 64) (m % 64) ≡ c
          → eqb (get_or (set words (m / 64) w) (n / 64) 0 / 2 ^ (n % 64) % 2) 1
          ≡ elim (eqb n m) [ true ↦ eqb b 1 | false ↦ eqb (get_or words (n / 64) 0 / 2 ^ (n % 64) % 2) 1 ]
      go false e c f =
          let apart = eqb-false (n / 64) (m / 64) e in
          let other : n ≡ m → ⊥ = λ q. apart (ap (λ (k : ℕ). k / 64) q) in
          rw (get_or-set_other words (m / 64) (n / 64) w 0 apart, ne_eqb n m other)
      go true e true f =
          let p = eqb-true (n / 64) (m / 64) e in
          let q = eqb-true (n % 64) (m % 64) f in
          let same : n ≡ m = omega (arith, p, q) in
          rw (eq-eqb n m same, p, q, here, own)
      go true e false f =
          let p = eqb-true (n / 64) (m / 64) e in
          let apart = eqb-false (n % 64) (m % 64) f in
          let other : n ≡ m → ⊥ = λ q. apart (ap (λ (k : ℕ). k % 64) q) in
          rw (ne_eqb n m other, p, here, others (n % 64) apart)

  -- Putting m in, and taking m out, marks m and no other number.
  marks_with : Marks words (with_number words m) (λ n. eqb n m) true
  unfolding with_number
  marks_with =
      let w = get_or words (m / 64) 0 in
      let b = m % 64 in
      record {
        words = length-set words (m / 64) (bit_or w (2 ^ b));
        has = λ l n h. stored l (bit_or w (2 ^ b)) 1 (set_same w b) (set_other w b) n;
      }

  marks_without : Marks words (without_number words m) (λ n. eqb n m) false
  unfolding without_number
  marks_without =
      let w = get_or words (m / 64) 0 in
      let b = m % 64 in
      let out = bit_xor (bit_or w (2 ^ b)) (2 ^ b) in
      record {
        words = length-set words (m / 64) out;
        has = λ l n h. stored l out 0 (flipped_same w b) (flipped_other w b) n;
      }

  pub marks_marked : (present : Bool) → Marks words (marked words m present) (λ n. eqb n m) present
  marks_marked true = marks_with
  marks_marked false = marks_without

-- No number is in a set of zeros.
pub blank : Blank (replicate 1024 0)
unfolding in_set
blank =
    record {
      size = length-replicate {A = ℕ} 1024 0;
      none = λ n h. rw (get_or-replicate {A = ℕ} 1024 (n / 64) 0 0 (omega arith), zero-div (2 ^ (n % 64)));
    }
