-- Laws of the table of type rows: look-up, and facts about each row, computed once over the whole table.
use mathlib.Core.Path.{◌≡◌, refl, sym, ap, subst, ◌∙◌}
use mathlib.Core.Bool.{Bool, true, false, not, ◌&&◌, ◌||◌, beq}
use mathlib.Core.List.{List, [], ◌∷◌}
use mathlib.Core.Logic.{◌↔◌, inl, inr}
use mathlib.Core.Option.{Option, none, some}
use Prim.Native.Nat.{ℕ, zero, suc, ◌+◌, ◌-◌, ◌*◌, ◌^◌, ◌≤◌, ◌<◌}
use native.Mathlib.Nat.{add-zero, add-suc, suc-add}
use native.Mathlib.Omega.{arith}
use borrow.Author.Tests.{eqb-true, lt-leb, eq-eqb, ne_eqb}
use lib.Dec.{T, eqb, leb, eqb→eq, leb→le}
use lib.IntN.{ℤ, pos, negsuc}
use lib.ListN.{length, get_or}
use lib.Ieee.{Format, top}
use lib.Ieee.Fits.{and_l, and_r}
use Rattle.lists.specs.Tests.{every}
use Rattle.lists.proofs.TestOutcomes.{impossible}
use Rattle.point_types.specs.Rows.{TypeRow, row, Kind, signed, unsigned, accumulator, float, Unimplemented, never, pattern, Range, whole, between, not_nan, rows, row_among, row_of, Listed, is_accumulator, AccumulatorCode}

-- The row found has the search code, and passes a test that every row of the list passes.
found_among : (test : TypeRow → Bool) (rs : List TypeRow) (c : ℕ) (r : TypeRow) → T (every test rs) → row_among rs c ≡ some r
    → (c ≡ r.code) × T (test r)
unfolding row_among
found_among test [] c r t e = impossible (cc)
found_among test (x ∷ rs) c r t e =
    go (eqb c x.code) refl e (λ q. found_among test rs c r (and_r (test x) (every test rs) t) q)
  where
    go : (b : Bool) → eqb c x.code ≡ b → elim b [ true ↦ some x | false ↦ row_among rs c ] ≡ some r
        → (row_among rs c ≡ some r → (c ≡ r.code) × T (test r)) → (c ≡ r.code) × T (test r)
    go true b q ih =
        let s : x ≡ r = cc in
        (eqb-true c x.code b ∙ ap (λ (y : TypeRow). y.code) s, subst (λ (y : TypeRow). T (test y)) s (and_l (test x) (every test rs) t))
    go false b q ih = ih q

-- A test that every row of the table passes is passed by a row found there.
found : (test : TypeRow → Bool) → T (every test rows) → (c : ℕ) (r : TypeRow) → row_of c ≡ some r → (c ≡ r.code) × T (test r)
found test t c r e = found_among test rows c r t e

-- The row found for a code has that code, and is a row of the table.
pub own_code : (c : ℕ) (r : TypeRow) → row_of c ≡ some r → c ≡ r.code
unfolding rows
own_code c r e = (found (λ x. true) tt c r e).0

pub listed : (c : ℕ) (r : TypeRow) → row_of c ≡ some r → Listed r
listed c r e = sym (ap row_of (own_code c r e)) ∙ e

-- Do the rows of a list have the codes c, c + 1, … in order?
abbrev numbered : ℕ → List TypeRow → Bool
numbered c [] = true
numbered c (r ∷ rs) = eqb r.code c && numbered (suc c) rs

-- The row with the i-th code is the i-th row.
by_place : (c : ℕ) (rs : List TypeRow) (d : TypeRow) (i : ℕ) → T (numbered c rs) → i < length rs
    → row_among rs (c + i) ≡ some (get_or rs i d)
unfolding row_among
by_place c [] d i t h = absurd (omega arith)
by_place c (r ∷ rs) d zero t h =
    let e = eqb→eq r.code c (and_l (eqb r.code c) (numbered (suc c) rs) t) in
    simp (row_among, eq-eqb (c + 0) r.code (add-zero c ∙ sym e))
by_place c (r ∷ rs) d (suc i) t h =
    let e = eqb→eq r.code c (and_l (eqb r.code c) (numbered (suc c) rs) t) in
    let n : c + suc i ≡ r.code → ⊥ = λ q. omega (arith, e, q) in
    simp (row_among, ne_eqb (c + suc i) r.code n)
    (rw (add-suc c i, ← suc-add c i) (by_place (suc c) rs d i (and_r (eqb r.code c) (numbered (suc c) rs) t) (omega arith)))

-- The row in an option, for a code whose row is computed; a row of no type if there is none.
abbrev pub row_in : Option TypeRow → TypeRow
row_in none = row 0 0 0 false unsigned never whole
row_in (some r) = r

-- Each code from 1 to 22 has a row.
pub row_at : (c : ℕ) → 1 ≤ c → c ≤ 22 → (r : TypeRow) × (row_of c ≡ some r)
unfolding rows
row_at c l h =
    let n : 1 + (c - 1) ≡ c = omega arith in
    (get_or rows (c - 1) (row_in none), sym (ap row_of n) ∙ by_place 1 rows (row_in none) (c - 1) tt (omega arith))

-- No row has a code below 1 or above 22.
none_outside : (rs : List TypeRow) (c : ℕ) → T (every (λ r. leb 1 r.code && leb r.code 22) rs) → (1 ≤ c → c ≤ 22 → ⊥)
    → row_among rs c ≡ none
unfolding row_among
none_outside [] c t n = refl
none_outside (r ∷ rs) c t n =
    let test : TypeRow → Bool = λ x. leb 1 x.code && leb x.code 22 in
    let here = and_l (test r) (every test rs) t in
    let low = leb→le 1 r.code (and_l (leb 1 r.code) (leb r.code 22) here) in
    let high = leb→le r.code 22 (and_r (leb 1 r.code) (leb r.code 22) here) in
    simp (row_among, ne_eqb c r.code (λ q. n (rw q low) (rw q high))) (none_outside rs c (and_r (test r) (every test rs) t) n)

pub no_row_outside : (c : ℕ) → (1 ≤ c → c ≤ 22 → ⊥) → row_of c ≡ none
unfolding rows
no_row_outside c n = none_outside rows c tt n

-- ---- Facts about each row

-- Every type takes 1 to 64 registers.
pub one_to_64 : (c : ℕ) (r : TypeRow) → row_of c ≡ some r → (1 ≤ r.fewest) × (r.most ≤ 64)
unfolding rows
one_to_64 c r e =
    let t = (found (λ x. leb 1 x.fewest && leb x.most 64) tt c r e).1 in
    let low = and_l (leb 1 r.fewest) (leb r.most 64) t in
    let high = and_r (leb 1 r.fewest) (leb r.most 64) t in
    (leb→le 1 r.fewest low, leb→le r.most 64 high)

-- Two tests that agree have one outcome.
same_outcome : (a b : Bool) → T (beq a b) → a ≡ b
same_outcome a b t = grind arith

-- The codes that `decode` takes, 1–18, 21 and 22, are those of at most four registers.
abbrev four_test : TypeRow → Bool
four_test r = beq (leb r.most 4) (leb r.code 18 || leb 21 r.code)

pub four_registers : (c : ℕ) (r : TypeRow) → row_of c ≡ some r → leb r.most 4 ≡ (leb c 18 || leb 21 c)
unfolding rows
four_registers c r e =
    let f = found four_test tt c r e in
    same_outcome (leb r.most 4) (leb r.code 18 || leb 21 r.code) f.1 ∙ ap (λ (k : ℕ). leb k 18 || leb 21 k) (sym f.0)

-- A type of more than four registers is unimplemented if all are 0, and any other pattern is in range.
abbrev wide_test : Unimplemented → Range → Bool
wide_test never r = false
wide_test (pattern p) whole = eqb p 0
wide_test (pattern p) (between low high) = false
wide_test (pattern p) not_nan = false

pub wide_row : (c : ℕ) (r : TypeRow) → row_of c ≡ some r → 4 < r.most → (r.unimplemented ≡ pattern 0) × (r.range ≡ whole)
unfolding rows
wide_row c r e w =
    let t = (found (λ x. leb x.most 4 || wide_test x.unimplemented x.range) tt c r e).1 in
    go r.unimplemented refl r.range refl (rw (lt-leb r.most 4 w) at t)
  where
    go : (u : Unimplemented) → r.unimplemented ≡ u → (x : Range) → r.range ≡ x → T (wide_test u x)
        → (r.unimplemented ≡ pattern 0) × (r.range ≡ whole)
    go never a x b t = absurd t
    go (pattern p) a whole b t = (a ∙ ap pattern (eqb→eq p 0 t), b)
    go (pattern p) a (between low high) b t = absurd t
    go (pattern p) a not_nan b t = absurd t

-- A type that may carry a scale takes at most four registers.
pub scalable_width : (r : TypeRow) → Listed r → r.scalable ≡ true → r.most ≤ 4
unfolding rows
scalable_width r l s =
    let t = (found (λ x. not x.scalable || leb x.most 4) tt r.code r l).1 in
    leb→le r.most 4 (rw s at t)

-- A signed type takes one to four registers; a float has the width of its format, and no NaN is in its range.
abbrev kind_test : Kind → ℕ → Range → Bool
kind_test signed m r = leb 1 m && leb m 4
kind_test unsigned m r = true
kind_test accumulator m r = true
kind_test (float f) m whole = false
kind_test (float f) m (between low high) = false
kind_test (float f) m not_nan = eqb (2 ^ (16 * m)) (2 * top f)

module _ (r : TypeRow) (l : Listed r) where
  kinds : T (kind_test r.kind r.most r.range)
  unfolding rows
  kinds = (found (λ x. kind_test x.kind x.most x.range) tt r.code r l).1

  pub signed_width : r.kind ≡ signed → (1 ≤ r.most) × (r.most ≤ 4)
  signed_width k =
      let t = rw k at kinds in
      (leb→le 1 r.most (and_l (leb 1 r.most) (leb r.most 4) t), leb→le r.most 4 (and_r (leb 1 r.most) (leb r.most 4) t))

  pub float_row : (f : Format) → r.kind ≡ float f → (2 ^ (16 * r.most) ≡ 2 * top f) × (r.range ≡ not_nan)
  float_row f k = go r.range refl (rw k at kinds)
    where
      go : (x : Range) → r.range ≡ x → T (kind_test (float f) r.most x) → (2 ^ (16 * r.most) ≡ 2 * top f) × (r.range ≡ not_nan)
      go whole e t = absurd t
      go (between low high) e t = absurd t
      go not_nan e t = (eqb→eq (2 ^ (16 * r.most)) (2 * top f) t, e)

-- A type whose range begins below 0 is signed and has one register; a type whose range begins at 0 or above is not signed.
abbrev range_test : Range → Kind → ℕ → Bool
range_test whole k m = true
range_test not_nan k m = true
range_test (between (pos low) high) signed m = false
range_test (between (pos low) high) unsigned m = true
range_test (between (pos low) high) accumulator m = true
range_test (between (pos low) high) (float f) m = true
range_test (between (negsuc low) high) signed m = eqb m 1
range_test (between (negsuc low) high) unsigned m = false
range_test (between (negsuc low) high) accumulator m = false
range_test (between (negsuc low) high) (float f) m = false

module _ (r : TypeRow) (l : Listed r) where
  ranges : T (range_test r.range r.kind r.most)
  unfolding rows
  ranges = (found (λ x. range_test x.range x.kind x.most) tt r.code r l).1

  pub counts_from_zero : (low : ℕ) (high : ℤ) → r.range ≡ between (pos low) high → r.kind ≡ signed → ⊥
  counts_from_zero low high e k = rw (e, k) at ranges

  pub signed_range : (low : ℕ) (high : ℤ) → r.range ≡ between (negsuc low) high → (r.kind ≡ signed) × (r.most ≡ 1)
  signed_range low high e = go r.kind refl (rw e at ranges)
    where
      go : (k : Kind) → r.kind ≡ k → T (range_test (between (negsuc low) high) k r.most) → (r.kind ≡ signed) × (r.most ≡ 1)
      go signed q t = (q, eqb→eq r.most 1 t)
      go unsigned q t = absurd t
      go accumulator q t = absurd t
      go (float f) q t = absurd t

-- Only a float type has the range of floats.
abbrev float_test : Range → Kind → Bool
float_test whole k = true
float_test (between low high) k = true
float_test not_nan signed = false
float_test not_nan unsigned = false
float_test not_nan accumulator = false
float_test not_nan (float f) = true

pub only_float : (r : TypeRow) → Listed r → r.range ≡ not_nan → (f : Format) × (r.kind ≡ float f)
unfolding rows
only_float r l e = go r.kind refl (rw e at (found (λ x. float_test x.range x.kind) tt r.code r l).1)
  where
    go : (k : Kind) → r.kind ≡ k → T (float_test not_nan k) → (f : Format) × (r.kind ≡ float f)
    go signed q t = absurd t
    go unsigned q t = absurd t
    go accumulator q t = absurd t
    go (float f) q t = (f, q)

-- The rows of the accumulators are those with the codes 3, 11 and 18, and an optional one is unimplemented at 0.
abbrev is_accumulator_code : ℕ → Bool
is_accumulator_code c = eqb c 3 || (eqb c 11 || eqb c 18)

accumulator_code : (c : ℕ) → (is_accumulator_code c ≡ true) ↔ AccumulatorCode c
accumulator_code c = (listing (eqb c 3) refl (eqb c 11) refl, unlisting)
  where
    listing : (a : Bool) → eqb c 3 ≡ a → (b : Bool) → eqb c 11 ≡ b → (a || (b || eqb c 18)) ≡ true → AccumulatorCode c
    listing true p b q e = inl (eqb-true c 3 p)
    listing false p true q e = inr (inl (eqb-true c 11 q))
    listing false p false q e = inr (inr (eqb-true c 18 e))

    unlisting : AccumulatorCode c → is_accumulator_code c ≡ true
    unlisting (inl e) = rw e
    unlisting (inr (inl e)) = rw e
    unlisting (inr (inr e)) = rw e

abbrev accumulator_test : Kind → Unimplemented → Bool
accumulator_test signed u = true
accumulator_test unsigned u = true
accumulator_test (float f) u = true
accumulator_test accumulator never = false
accumulator_test accumulator (pattern p) = eqb p 0

module _ (c : ℕ) (r : TypeRow) (e : row_of c ≡ some r) where
  pub accumulator_codes : (is_accumulator r.kind ≡ true) ↔ AccumulatorCode c
  unfolding rows
  accumulator_codes =
      let f = found (λ x. beq (is_accumulator x.kind) (is_accumulator_code x.code)) tt c r e in
      let q : is_accumulator r.kind ≡ is_accumulator_code c =
      same_outcome (is_accumulator r.kind) (is_accumulator_code r.code) f.1 ∙ ap is_accumulator_code (sym f.0) in
      (λ a. (accumulator_code c).0 (sym q ∙ a), λ a. q ∙ (accumulator_code c).1 a)

  pub accumulator_at_0 : is_accumulator r.kind ≡ true → r.unimplemented ≡ pattern 0
  unfolding rows
  accumulator_at_0 a = go r.kind a r.unimplemented refl (found (λ x. accumulator_test x.kind x.unimplemented) tt c r e).1
    where
      go : (k : Kind) → is_accumulator k ≡ true → (u : Unimplemented) → r.unimplemented ≡ u → T (accumulator_test k u) → r.unimplemented ≡ pattern 0
      go signed a u q t = impossible (cc)
      go unsigned a u q t = impossible (cc)
      go (float f) a u q t = impossible (cc)
      go accumulator a never q t = absurd t
      go accumulator a (pattern p) q t = q ∙ ap pattern (eqb→eq p 0 t)
