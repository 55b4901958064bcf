-- The bits that `event_bits` counts are below the highest bit of the type: positions up to 14, 30 and 62.
use mathlib.Core.Path.{◌≡◌, refl, sym, ap, subst, ◌∙◌}
use mathlib.Core.Logic.{◌⊎◌, inl, inr}
use mathlib.Core.Bool.{Bool, true, false, ◌||◌}
use mathlib.Core.List.{List, [], ◌∷◌}
use mathlib.Core.Option.{some}
use Prim.Native.Nat.{ℕ, zero, suc, ◌-◌, ◌/◌, ◌%◌, ◌^◌, ◌≤◌, ◌<◌}
use native.Mathlib.Nat.{div-eq_of_lt}
use native.Mathlib.Omega.{arith}
use native.Mathlib.Decide.{dec_le}
use borrow.Author.Tests.{eqb-true, lt-leb, leb-true}
use lib.Dec.{eqb}
use lib.IntN.{pos}
use lib.Pow.{pow_mono}
use Rattle.lists.specs.Each.{Each}
use Rattle.lists.proofs.EachLaws.{each_implied}
use Rattle.lists.proofs.TestOutcomes.{impossible}
use Rattle.registers.specs.Registers.{too_wide}
use Rattle.point_types.specs.Rows.{TypeRow, between, rows, row_among, row_of}
use Rattle.point_types.proofs.Table.{row_in, listed}
use Rattle.point_types.specs.Presence.{optional}
use Rattle.values.specs.Classes.{width, value, class_of, PatternOf, is_value, classified}
use Rattle.values.proofs.ClassCases.{value_class, of_class_lem}
use Rattle.values.proofs.Ranges.{in_up_to}
use Rattle.values.proofs.ThreeClasses.{class_is_its_tests}
use Rattle.values.proofs.UnscaledCases.{value_fits}
use Rattle.event_fields.specs.Events.{is_set, set_among, set_positions, first_or, is_bitfield, bits, event_bits}

-- A bit that is set in a number below 2 ^ width is at a position below the width.
set_below : (n position width : ℕ) → is_set n position ≡ true → n < 2 ^ width → position < width
set_below n position width e h =
    elim (dec_le width position) [
      | yes l ↦
          let small : n < 2 ^ position = omega (arith, pow_mono {i = width} {j = position} l) in
          let z : n / 2 ^ position ≡ 0 = div-eq_of_lt small in
          let one = eqb-true ((n / 2 ^ position) % 2) 1 e in
          absurd (omega (arith, z, one))
      | no l ↦ omega arith
    ]

all_below : (count first n width : ℕ) → n < 2 ^ width → Each (λ p. p < width) (set_among count first n)
unfolding set_among
all_below zero first n width h = tt
all_below (suc count) first n width h = go (is_set n first) refl (all_below count (suc first) n width h)
  where
    go : (b : Bool) → is_set n first ≡ b → Each (λ p. p < width) (set_among count (suc first) n)
        → Each (λ p. p < width) (elim b [ true ↦ first ∷ set_among count (suc first) n | false ↦ set_among count (suc first) n ])
    go true e rest = (set_below n first width e h, rest)
    go false e rest = rest

module _ (code raw : ℕ) (row : TypeRow) (is : row_of code ≡ some row) where
  -- A value of a type with a range from 0 to `high` is at most `high`.
  value_below : (high : ℕ) → row.range ≡ between (pos 0) (pos high) → is_value (classified code optional raw) ≡ true → raw ≤ high
  unfolding too_wide
  value_below high e v =
      let fits = value_fits code optional raw row is v in
      let p : PatternOf row raw = record { listed = listed code row is; fits = fits } in
      let c = of_class_lem code optional raw row is (lt-leb (2 ^ width row) raw fits) in
      let d = value_class (classified code optional raw) v in
      let class : class_of row optional raw ≡ value = cc in
      leb-true raw high (sym (in_up_to row raw p high e) ∙ ((class_is_its_tests row optional raw value).0 class).1)

  -- What `event_bits` accepts is a bitfield's code and a value; the lowest position is the first one.
  accepted : (count lowest : ℕ) → event_bits code raw ≡ bits count lowest
      → (is_bitfield code ≡ true) × (is_value (classified code optional raw) ≡ true) × (first_or 64 (set_positions raw) ≡ lowest)
  unfolding event_bits
  accepted count lowest q = grind (arith, event_bits)

  by_code : {A : Type 0} → is_bitfield code ≡ true → (code ≡ 5 → A) → (code ≡ 13 → A) → (code ≡ 21 → A) → A
  by_code {A} = go (eqb code 5) refl (eqb code 13) refl (eqb code 21) refl
    where
      go : (a : Bool) → eqb code 5 ≡ a → (b : Bool) → eqb code 13 ≡ b → (c : Bool) → eqb code 21 ≡ c → (a || (b || c)) ≡ true
          → (code ≡ 5 → A) → (code ≡ 13 → A) → (code ≡ 21 → A) → A
      go true a b b' c c' t f g h = f (eqb-true code 5 a)
      go false a true b c c' t f g h = g (eqb-true code 13 b)
      go false a false b true c t f g h = h (eqb-true code 21 c)
      go false a false b false c t f g h = impossible (cc)

  -- The claim, of every position,
  pub positions_below_top : (count lowest : ℕ) → event_bits code raw ≡ bits count lowest → Each (λ p. suc p < width row) (set_positions raw)
  unfolding rows row_among
  positions_below_top count lowest q =
      let a = accepted count lowest q in
      by_code a.0 (at 5 0x7FFF refl refl refl a.1) (at 13 0x7FFFFFFF refl refl refl a.1) (at 21 0x7FFFFFFFFFFFFFFF refl refl refl a.1)
    where
      at : (k high : ℕ) → row_of k ≡ some (row_in (row_of k)) → (row_in (row_of k)).range ≡ between (pos 0) (pos high)
          → 2 ^ (width (row_in (row_of k)) - 1) ≡ suc high → is_value (classified code optional raw) ≡ true → code ≡ k
          → Each (λ p. suc p < width row) (set_positions raw)
      at k high found range half v e =
          let s : row ≡ row_in (row_of k) = cc in
          let l = value_below high (ap (λ (r : TypeRow). r.range) s ∙ range) v in
          let h : 2 ^ (width row - 1) ≡ suc high = ap (λ (r : TypeRow). 2 ^ (width r - 1)) s ∙ half in
          each_implied (λ p. p < width row - 1) (λ p. suc p < width row) (λ p b. omega arith) (set_positions raw)
          (all_below 64 0 raw (width row - 1) (omega arith))

  -- and of the lowest, which is 64 if no bit is set.
  pub lowest_below_top : (count lowest : ℕ) → event_bits code raw ≡ bits count lowest → (lowest ≡ 64) ⊎ (suc lowest < width row)
  lowest_below_top count lowest q = go (set_positions raw) (accepted count lowest q).2 (positions_below_top count lowest q)
    where
      go : (ps : List ℕ) → first_or 64 ps ≡ lowest → Each (λ p. suc p < width row) ps → (lowest ≡ 64) ⊎ (suc lowest < width row)
      go [] e all = inl (sym e)
      go (p ∷ ps) e all = inr (subst (λ (n : ℕ). suc n < width row) e all.0)
