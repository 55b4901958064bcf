-- The machine's count of ones is the number of set positions, and its count of trailing zeros is the lowest of them.
use mathlib.Core.Path.{◌≡◌, refl, sym, ap, ◌∙◌}
use mathlib.Core.Bool.{Bool, true, false}
use mathlib.Core.List.{List, [], ◌∷◌, map}
use Prim.Native.Nat.{ℕ, zero, suc, ◌+◌, ◌/◌, ◌%◌, ◌^◌, ◌<◌}
use native.Mathlib.Nat.{div-one, div-div-eq-div-mul, pow-suc, pow-succ'}
use native.Mathlib.Omega.{arith}
use lib.Dec.{eqb}
use lib.Count.{ones, ones_in, count_trailing_zeros, ones_step, under}
use lib.ListN.{length}
use Rattle.event_fields.specs.Events.{is_set, set_among, first_or}

-- Position p of n / 2 is position p + 1 of n.
half_at : (n p : ℕ) → n / 2 / 2 ^ p ≡ n / 2 ^ suc p
half_at n p = rw (div-div-eq-div-mul, ← pow-succ' 2 p)

-- The set positions from first + 1 on are those of n / 2 from first on, each plus 1.
from_half : (count first n : ℕ) → set_among count (suc first) n ≡ map suc (set_among count first (n / 2))
unfolding set_among
from_half zero first n = refl
from_half (suc count) first n =
    rw (set_among, ← half_at n first) (go (is_set (n / 2) first) (from_half count (suc first) n))
  where
    go : (b : Bool) → set_among count (suc (suc first)) n ≡ map suc (set_among count (suc first) (n / 2))
        → elim b [ true ↦ suc first ∷ set_among count (suc (suc first)) n | false ↦ set_among count (suc (suc first)) n ]
        ≡ map suc (elim b [ true ↦ first ∷ set_among count (suc first) (n / 2) | false ↦ set_among count (suc first) (n / 2) ])
    go true ih = ap (λ (ps : List ℕ). suc first ∷ ps) ih
    go false ih = ih

length_map_suc : (xs : List ℕ) → length (map suc xs) ≡ length xs
length_map_suc [] = refl
length_map_suc (x ∷ xs) = ap suc (length_map_suc xs)

first_map_suc : (other : ℕ) (xs : List ℕ) → first_or (suc other) (map suc xs) ≡ suc (first_or other xs)
first_map_suc other [] = refl
first_map_suc other (x ∷ xs) = refl

-- Position 0 is set if the number is odd.
first_position : (count n : ℕ)
    → set_among (suc count) 0 n ≡ elim (eqb (n % 2) 1) [ true ↦ 0 ∷ set_among count 1 n | false ↦ set_among count 1 n ]
unfolding set_among
first_position count n =
    ap (λ (x : ℕ). elim (eqb (x % 2) 1) [ true ↦ 0 ∷ set_among count 1 n | false ↦ set_among count 1 n ]) (div-one n)

count_by_digit : (digit : ℕ) → digit < 2 → (positions : List ℕ)
    → digit + length positions ≡ length {A = ℕ} (elim (eqb digit 1) [ true ↦ 0 ∷ positions | false ↦ positions ])
count_by_digit zero h ps = omega arith
count_by_digit (suc zero) h ps = omega arith
count_by_digit (suc (suc d)) h ps = absurd (omega arith)

pub count_of_ones : (count n : ℕ) → n < 2 ^ count → ones n ≡ length (set_among count 0 n)
unfolding ones ones_in set_among
count_of_ones zero n h = let e : n ≡ 0 = omega arith in rw e
count_of_ones (suc count) n h =
    let b : n / 2 < 2 ^ count = omega (arith, pow-suc 2 count) in
    let l : length (set_among count 1 n) ≡ length (set_among count 0 (n / 2)) =
    ap length (from_half count 0 n) ∙ length_map_suc (set_among count 0 (n / 2)) in
    ones_step n
    ∙ ap (λ (x : ℕ). n % 2 + x) (count_of_ones count (n / 2) b ∙ sym l)
    ∙ count_by_digit (n % 2) (omega arith) (set_among count 1 n)
    ∙ ap length (sym (first_position count n))

lowest_by_digit : (digit : ℕ) → digit < 2 → (other : ℕ) (positions : List ℕ)
    → under digit (first_or other positions) ≡ first_or (suc other) (elim (eqb digit 1) [ true ↦ 0 ∷ map suc positions | false ↦ map suc positions ])
lowest_by_digit zero h other ps = sym (first_map_suc other ps)
lowest_by_digit (suc zero) h other ps = refl
lowest_by_digit (suc (suc d)) h other ps = absurd (omega arith)

pub lowest_position : (count n : ℕ) → count_trailing_zeros count n ≡ first_or count (set_among count 0 n)
unfolding count_trailing_zeros set_among
lowest_position zero n = refl
lowest_position (suc count) n =
    ap (under (n % 2)) (lowest_position count (n / 2))
    ∙ lowest_by_digit (n % 2) (omega arith) count (set_among count 0 (n / 2))
    ∙ ap (λ (ps : List ℕ). first_or (suc count) (elim (eqb (n % 2) 1) [ true ↦ 0 ∷ ps | false ↦ ps ])) (sym (from_half count 0 n))
    ∙ ap (first_or (suc count)) (sym (first_position count n))
