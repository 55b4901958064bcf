-- The values of a type are the integers of the table `printed`, of a mandatory or an optional point: no other integer is decoded, and
-- each of them is.
use mathlib.Core.Path.{◌≡◌, refl, sym, ap, subst, ◌∙◌}
use mathlib.Core.Bool.{Bool, true, false, not, ◌&&◌, ◌||◌}
use mathlib.Core.List.{List, [], ◌∷◌}
use mathlib.Core.Logic.{◌↔◌}
use mathlib.Core.Option.{Option, none, some}
use Prim.Native.Nat.{ℕ, suc, ◌-◌, ◌^◌, ◌≤◌, ◌<◌}
use native.Mathlib.Omega.{arith}
use borrow.Author.Tests.{eqb-false, ne_eqb}
use lib.Dec.{T, ltb, le→leb, leb→le, ltb→lt}
use lib.IntN.{ℤ, pos, negsuc, neg_ℤ, suc_ℤ}
use lib.Pow.{pow_pos}
use lib.ListN.{length}
use lib.Ieee.{Format}
use lib.Ieee.Fits.{and_l, and_r}
use lib.Signed.{le_z}
use Rattle.lists.specs.Each.{Each}
use Rattle.lists.specs.Tests.{every}
use Rattle.lists.proofs.EachLaws.{each_implied}
use Rattle.lists.proofs.EveryLaws.{every_each}
use Rattle.lists.proofs.TestOutcomes.{impossible, clash}
use Rattle.registers.specs.Registers.{AreRegisters}
use Rattle.point_types.specs.Presence.{Presence, mandatory, optional}
use Rattle.point_types.specs.Rows.{TypeRow, Kind, signed, unsigned, accumulator, float, Unimplemented, unimplemented_for, never, pattern, Range, whole, between, not_nan, rows, row_among, Listed}
use Rattle.point_types.proofs.Table.{listed, signed_width, only_float}
use Rattle.values.specs.Classes as classes
use Rattle.values.specs.Classes.{width, twos_complement, integer, is_unimplemented, is_between, in_range, class_of, PatternOf}
use Rattle.values.specs.Decoding as decoding
use Rattle.values.specs.Decoding.{Decoded, pattern_in, number_of, decodable, decoded}
use Rattle.values.specs.Encoding.{twos_pattern}
use Rattle.values.specs.Printed.{PrintedRange, printed, InPrinted, Within, decoded_integer, DecodedFrom, DecodedAsPrinted}
use Rattle.values.proofs.IntegerOrder.{le_le, le_both, le_next, next_le, le_last, negative_le, negative_le_negative, negative_below}
use Rattle.values.proofs.ThreeClasses.{class_is_its_tests}
use Rattle.values.proofs.Ranges.{is_unsigned, in_whole, in_between, signed_integer, unsigned_integer}
use Rattle.values.proofs.TwosComplement.{by_half, lower_half, upper_half, pattern_back}
use Rattle.values.proofs.MachineIntegers.{halves}
use Rattle.values.proofs.ClassCases.{row_of_decodable}
use Rattle.values.proofs.DecodedCases.{ResultOf, as_signed, as_unsigned, as_float, as_unimplemented, as_out_of_range, result_by}
use Rattle.values.proofs.DecodedPatterns.{from_pattern}
use Rattle.values.proofs.RoundTrip.{holds_pattern}

-- ---- A row's range by its ends

-- The least and the greatest integer of a range; of a whole range, those of the patterns of `bits` bits.
abbrev lowest : Range → Kind → ℕ → ℤ
lowest (between low high) k bits = low
lowest whole signed bits = neg_ℤ (pos (2 ^ (bits - 1)))
lowest whole unsigned bits = pos 0
lowest whole accumulator bits = pos 0
lowest whole (float f) bits = pos 0
lowest not_nan k bits = pos 0

abbrev highest : Range → Kind → ℕ → ℤ
highest (between low high) k bits = high
highest whole signed bits = pos (2 ^ (bits - 1) - 1)
highest whole unsigned bits = pos (2 ^ bits - 1)
highest whole accumulator bits = pos (2 ^ bits - 1)
highest whole (float f) bits = pos 0
highest not_nan k bits = pos 0

-- The kinds that are read as unsigned.
by_unsigned : {A : Type 0} (k : Kind) → is_unsigned k ≡ true → (k ≡ unsigned → A) → (k ≡ accumulator → A) → A
by_unsigned signed u f g = clash (sym u)
by_unsigned unsigned u f g = f refl
by_unsigned accumulator u f g = g refl
by_unsigned (float x) u f g = clash (sym u)

-- An unsigned type, also an accumulator, has the patterns of its width from 0 on.
unsigned_ends : (k : Kind) (bits : ℕ) → is_unsigned k ≡ true → (lowest whole k bits ≡ pos 0) × (highest whole k bits ≡ pos (2 ^ bits - 1))
unsigned_ends k bits u = by_unsigned k u (λ e. rw e (refl, refl)) (λ e. rw e (refl, refl))

-- A type is signed or unsigned if it is no float.
by_sign : {A : Type 0} (k : Kind) → ((f : Format) → k ≡ float f → ⊥) → (k ≡ signed → A) → (is_unsigned k ≡ true → A) → A
by_sign signed n s u = s refl
by_sign unsigned n s u = u refl
by_sign accumulator n s u = u refl
by_sign (float f) n s u = absurd (n f refl)

abbrev Between : ℤ → ℤ → ℤ → Type 0
Between low high z = T (le_z low z) × T (le_z z high)

between_test : (low high z : ℤ) → (is_between low high z ≡ true) ↔ Between low high z
between_test low high z = (
  λ e. let t = subst T (sym e) tt in (and_l (le_z low z) (le_z z high) t, and_r (le_z low z) (le_z z high) t),
  λ b. both (le_z low z) (le_z z high) b.0 b.1,
)
  where
    both : (a b : Bool) → T a → T b → (a && b) ≡ true
    both true true s t = refl
    both true false s t = absurd t
    both false b s t = absurd s

module _ (row : TypeRow) (raw : ℕ) (p : PatternOf row raw) where
  -- The integer of a pattern lies between the ends of its width.
  of_width : ((f : Format) → row.kind ≡ float f → ⊥) → Between (lowest whole row.kind (width row)) (highest whole row.kind (width row)) (integer row raw)
  of_width n =
      by_sign row.kind n
      (λ k.
      let half = 2 ^ (width row - 1) in
      let h = halves (width row) (omega (arith, signed_width row p.listed k)) in
      rw (signed_integer row raw k, k)
      (by_half (width row) raw (Between (neg_ℤ (pos half)) (pos (half - 1))) p.fits
      (λ l. (negative_le half raw, le→leb raw (half - 1) (omega arith)))
      (λ u. (negative_le_negative half (2 ^ width row - suc raw) (omega (arith, h, p.fits)), tt))))
      (λ k.
      let e = unsigned_ends row.kind (width row) k in
      rw (unsigned_integer row raw k, e.0, e.1)
      (le→leb 0 raw (omega arith), le→leb raw (2 ^ width row - 1) (omega (arith, p.fits))))

  -- A pattern is in its type's range if and only if its integer is between the ends.
  range_ends : ((f : Format) → row.kind ≡ float f → ⊥)
      → (in_range row raw ≡ true)
      ↔ Between (lowest row.range row.kind (width row)) (highest row.range row.kind (width row)) (integer row raw)
  range_ends n = go row.range refl
    where
      go : (r : Range) → row.range ≡ r
          → (in_range row raw ≡ true) ↔ Between (lowest r row.kind (width row)) (highest r row.kind (width row)) (integer row raw)
      go whole e = (λ q. of_width n, λ b. in_whole row raw e)
      go (between low high) e =
          let t = between_test low high (integer row raw) in
          let q = in_between row raw low high e in
          (λ i. t.0 (sym q ∙ i), λ b. q ∙ t.1 b)
      go not_nan e = let k = only_float row p.listed e in absurd (n k.0 k.1)

-- ---- A printed range against its row

abbrev is_same_number : ℤ → ℤ → Bool
is_same_number a b = le_z a b && le_z b a

is_same : (a b : ℤ) → T (is_same_number a b) → a ≡ b
is_same a b t = le_both a b (and_l (le_z a b) (le_z b a) t) (and_r (le_z a b) (le_z b a) t)

by_either : {A : Type 0} (a b : Bool) → T (a || b) → (T a → A) → (T b → A) → A
by_either true b t f g = f tt
by_either false b t f g = g t

-- Does a printed end agree with the row's? It is the same; or, if the row's end is unimplemented (`marked`), the next one inside.
abbrev low_test : ℤ → ℤ → Bool → Bool
low_test end least marked = is_same_number least end || (marked && is_same_number least (suc_ℤ end))

abbrev high_test : ℤ → ℤ → Bool → Bool
high_test end greatest marked = is_same_number greatest end || (marked && is_same_number (suc_ℤ greatest) end)

-- Then the printed end lies within the row's, and an integer within the row's end lies within the printed end, unless it is marked.
low_end : (end least : ℤ) (marked : Bool) → T (low_test end least marked)
    → T (le_z end least) × ((z : ℤ) → (T marked → z ≡ end → ⊥) → T (le_z end z) → T (le_z least z))
low_end end least marked t =
    by_either (is_same_number least end) (marked && is_same_number least (suc_ℤ end)) t
    (λ s. (and_r (le_z least end) (le_z end least) s, λ z n l. rw (is_same least end s) l))
    (λ s.
    let e = is_same least (suc_ℤ end) (and_r marked (is_same_number least (suc_ℤ end)) s) in
    (rw e (le_next end), λ z n l. rw e (next_le end z l (n (and_l marked (is_same_number least (suc_ℤ end)) s)))))

high_end : (end greatest : ℤ) (marked : Bool) → T (high_test end greatest marked)
    → T (le_z greatest end) × ((z : ℤ) → (T marked → z ≡ end → ⊥) → T (le_z z end) → T (le_z z greatest))
high_end end greatest marked t =
    by_either (is_same_number greatest end) (marked && is_same_number (suc_ℤ greatest) end) t
    (λ s. (and_l (le_z greatest end) (le_z end greatest) s, λ z n l. rw (is_same greatest end s) l))
    (λ s.
    let m = and_l marked (is_same_number (suc_ℤ greatest) end) s in
    let e = is_same (suc_ℤ greatest) end (and_r marked (is_same_number (suc_ℤ greatest) end) s) in
    (rw (← e) (le_next greatest), λ z n l. le_last greatest z (rw e l) (λ q. n m (q ∙ e))))

-- Is z the integer of the unimplemented pattern?
abbrev marks : TypeRow → Unimplemented → ℤ → Bool
marks row never z = false
marks row (pattern p) z = is_same_number (integer row p) z

-- Does the unimplemented pattern fit the width, and does its integer lie outside the printed range?
abbrev is_outside : PrintedRange → TypeRow → Unimplemented → Bool
is_outside r row never = true
is_outside r row (pattern p) = ltb p (2 ^ width row) && not (is_between r.least r.greatest (integer row p))

abbrev is_integral : Kind → Bool
is_integral signed = true
is_integral unsigned = true
is_integral accumulator = true
is_integral (float f) = false

-- The tests of a printed range: its ends agree with those of the row's range, and fit the row's width.
abbrev end_tests : Presence → PrintedRange → TypeRow → List Bool
end_tests presence r row =
    let low = lowest row.range row.kind (width row) in
    let high = highest row.range row.kind (width row) in
    is_integral row.kind
    ∷ is_outside r row (unimplemented_for row presence)
    ∷ low_test low r.least (marks row (unimplemented_for row presence) low)
    ∷ high_test high r.greatest (marks row (unimplemented_for row presence) high)
    ∷ le_z (lowest whole row.kind (width row)) r.least
    ∷ le_z r.greatest (highest whole row.kind (width row))
    ∷ []

abbrev agrees : Presence → PrintedRange → Option TypeRow → Bool
agrees presence r none = false
agrees presence r (some row) = every (λ t. t) (end_tests presence r row)

-- Computed for the whole printed table, by the presence.
all_agree : (presence : Presence) → T (every (λ r. agrees presence r (decodable r.code)) (printed presence))
unfolding printed rows row_among decodable integer twos_complement
all_agree mandatory = tt
all_agree optional = tt

-- The pattern of an integer.
abbrev raw_of : TypeRow → ℤ → ℕ
raw_of row z = twos_pattern (width row) z

module _ (presence : Presence) (r : PrintedRange) (row : TypeRow) (l : Listed row) (tests : Each T (end_tests presence r row)) where
  abbrev low : ℤ
  low = lowest row.range row.kind (width row)

  abbrev high : ℤ
  high = highest row.range row.kind (width row)

  not_float : (f : Format) → row.kind ≡ float f → ⊥
  not_float f k = rw k at tests.0

  -- The type is signed or unsigned.
  by_kind : {A : Type 0} → (row.kind ≡ signed → A) → (is_unsigned row.kind ≡ true → A) → A
  by_kind s u = by_sign row.kind not_float s u

  -- Patterns with the same integer are the same.
  same_pattern : (x y : ℕ) → x < 2 ^ width row → y < 2 ^ width row → integer row x ≡ integer row y → x ≡ y
  same_pattern x y h k e =
      by_kind
      (λ s.
      sym (pattern_back (width row) x h)
      ∙ ap (twos_pattern (width row)) (sym (signed_integer row x s) ∙ e ∙ signed_integer row y s)
      ∙ pattern_back (width row) y k)
      (λ u. let q : pos x ≡ pos y = sym (unsigned_integer row x u) ∙ e ∙ unsigned_integer row y u in cc)

  module _ (raw : ℕ) (fits : raw < 2 ^ width row) where
    abbrev z : ℤ
    z = integer row raw

    -- A pattern that is not the unimplemented one has another integer than it.
    apart : (m : Unimplemented) → is_unimplemented m raw ≡ false → T (is_outside r row m) → (y : ℤ) → T (marks row m y) → z ≡ y → ⊥
    apart never i o y t e = t
    apart (pattern p) i o y t e =
        let small = ltb→lt p (2 ^ width row) (and_l (ltb p (2 ^ width row)) (not (is_between r.least r.greatest (integer row p))) o) in
        eqb-false raw p i (same_pattern raw p fits small (e ∙ sym (is_same (integer row p) y t)))

    -- A pattern whose integer is in the printed range is not the unimplemented one.
    implemented : (m : Unimplemented) → T (is_outside r row m) → Between r.least r.greatest z → is_unimplemented m raw ≡ false
    implemented never o b = refl
    implemented (pattern p) o b =
        ne_eqb raw p
        (λ e.
        let inside = (between_test r.least r.greatest (integer row raw)).1 b in
        rw (← e, inside) at (and_r (ltb p (2 ^ width row)) (not (is_between r.least r.greatest (integer row p))) o))

    -- The law: a pattern is a value if and only if its integer is in the printed range.
    value_printed : (class_of row presence raw ≡ classes.value) ↔ Between r.least r.greatest z
    value_printed =
        let c = class_is_its_tests row presence raw classes.value in
        let b = range_ends row raw (record { listed = l; fits = fits }) not_float in
        let start = low_end low r.least (marks row (unimplemented_for row presence) low) tests.1.1.0 in
        let end = high_end high r.greatest (marks row (unimplemented_for row presence) high) tests.1.1.1.0 in (
          λ v.
              let t = c.0 v in
              let e = b.0 t.1 in
              let other = apart (unimplemented_for row presence) t.0 tests.1.0 in
              (start.1 z (other low) e.0, end.1 z (other high) e.1),
          λ p.
              c.1 (
                implemented (unimplemented_for row presence) tests.1.0 p,
                b.1 (le_le low r.least z start.0 p.0, le_le z r.greatest high p.1 end.0),
              ),
        )

  -- ---- From an integer to its pattern

  module _ (y : ℤ) (b : Between r.least r.greatest y) where
    in_width : Between (lowest whole row.kind (width row)) (highest whole row.kind (width row)) y
    in_width = (
      le_le (lowest whole row.kind (width row)) r.least y tests.1.1.1.1.0 b.0,
      le_le y r.greatest (highest whole row.kind (width row)) b.1 tests.1.1.1.1.1.0,
    )

    -- The pattern of such an integer fits the width, and has that integer.
    pattern_there : (raw_of row y < 2 ^ width row) × (integer row (raw_of row y) ≡ y)
    pattern_there =
        by_kind
        (λ s.
        let p = signed_pattern (width row) (omega (arith, signed_width row l s)) y (rw s at in_width) in
        (p.0, signed_integer row (raw_of row y) s ∙ p.1))
        (λ u.
        let e = unsigned_ends row.kind (width row) u in
        let p = unsigned_pattern y (rw (e.0, e.1) at in_width) in
        (p.0, unsigned_integer row (raw_of row y) u ∙ p.1))
      where
        signed_pattern : (bits : ℕ) → 1 ≤ bits → (x : ℤ) → Between (neg_ℤ (pos (2 ^ (bits - 1)))) (pos (2 ^ (bits - 1) - 1)) x
            → (twos_pattern bits x < 2 ^ bits) × (twos_complement bits (twos_pattern bits x) ≡ x)
        signed_pattern bits w (pos n) c =
            let h = leb→le n (2 ^ (bits - 1) - 1) c.1 in
            let e = halves bits w in
            let k = pow_pos (bits - 1) in
            (omega (arith, h, e, k), lower_half bits n (omega (arith, h, k)))
        signed_pattern bits w (negsuc n) c =
            let h = negative_below (2 ^ (bits - 1)) n c.0 in
            let e = halves bits w in
            let x = 2 ^ bits - suc n in
            let back : 2 ^ bits - suc x ≡ n = omega (arith, h, e) in
            (omega (arith, h, e), upper_half bits x (omega (arith, h, e)) (omega (arith, h, e)) ∙ ap negsuc back)

        unsigned_pattern : (x : ℤ) → Between (pos 0) (pos (2 ^ width row - 1)) x
            → (twos_pattern (width row) x < 2 ^ width row) × (pos (twos_pattern (width row) x) ≡ x)
        unsigned_pattern (pos n) c = (omega (arith, leb→le n (2 ^ width row - 1) c.1, pow_pos (width row)), refl)
        unsigned_pattern (negsuc n) c = absurd c.0

-- ---- The claims

in_order : (r : PrintedRange) (z : ℤ) → Between r.least r.greatest z ↔ InPrinted r z
in_order r z = (λ b. (record { le = b.0 }, record { le = b.1 }), λ b. (b.0.le, b.1.le))

-- If a result within the range is an integer, that integer is in the range.
decoded_within : (r : PrintedRange) (d : Decoded) (z : ℤ) → Within r d → decoded_integer d ≡ some z → InPrinted r z
decoded_within r (decoding.signed y) z w e = let q : y ≡ z = cc in subst (InPrinted r) q w
decoded_within r (decoding.unsigned n) z w e = let q : pos n ≡ z = cc in subst (InPrinted r) q w
decoded_within r (decoding.float f x) z w e = absurd w
decoded_within r decoding.unimplemented z w e = impossible (cc)
decoded_within r decoding.out_of_range z w e = impossible (cc)
decoded_within r (decoding.refused n place) z w e = absurd w

module _ (presence : Presence) (r : PrintedRange) (row : TypeRow) (is : decodable r.code ≡ some row)
    (t : T (agrees presence r (some row))) where
  tests : Each T (end_tests presence r row)
  tests = every_each (λ b. b) (end_tests presence r row) t

  is_listed_lem : Listed row
  is_listed_lem = listed r.code row (row_of_decodable r.code row is)

  -- Any registers are decoded as a printed integer or as none.
  within : (registers : List ℕ) → length registers ≡ 4 → AreRegisters registers → Within r (decoded r.code presence registers)
  within registers four all = by_result (result_by r.code presence registers row is)
    where
      at : (raw : ℕ) → PatternOf row raw → class_of row presence raw ≡ classes.value → (z : ℤ) → integer row raw ≡ z → InPrinted r z
      at raw p v z e = subst (InPrinted r) e ((in_order r (integer row raw)).0 ((value_printed presence r row is_listed_lem tests raw p.fits).0 v))

      by_result : {d : Decoded} → ResultOf row presence (pattern_in row registers) d → Within r d
      by_result (as_signed k v) =
          let raw = pattern_in row registers in
          at raw (holds_pattern r.code registers four all row is) v (twos_complement (width row) raw) (signed_integer row raw k)
      by_result (as_unsigned k v) =
          let raw = pattern_in row registers in
          at raw (holds_pattern r.code registers four all row is) v (pos raw) (unsigned_integer row raw k)
      by_result (as_float f k v) = absurd (not_float presence r row is_listed_lem tests f k)
      by_result (as_unimplemented v) = tt
      by_result (as_out_of_range v) = tt

  -- A printed integer is decoded from the registers of its pattern.
  module _ (z : ℤ) (b : InPrinted r z) where
    there : (raw_of row z < 2 ^ width row) × (integer row (raw_of row z) ≡ z)
    there = pattern_there presence r row is_listed_lem tests z ((in_order r z).1 b)

    is_value : class_of row presence (raw_of row z) ≡ classes.value
    is_value =
        (value_printed presence r row is_listed_lem tests (raw_of row z) there.0).1
        (subst (Between r.least r.greatest) (sym there.1) ((in_order r z).1 b))

    -- The decoded number is the pattern's integer, for every kind.
    integer_of : decoded_integer (number_of row (raw_of row z)) ≡ some (integer row (raw_of row z))
    unfolding number_of integer
    integer_of =
        by_kind presence r row is_listed_lem tests (λ k. rw k) (λ u. by_unsigned row.kind u (λ k. rw k) (λ k. rw k))

    decoded_there : DecodedFrom r.code presence (λ d. decoded_integer d ≡ some z)
    decoded_there =
        from_pattern r.code presence row is (raw_of row z) there.0 (λ d. decoded_integer d ≡ some z) is_value (integer_of ∙ ap some there.1)

module _ (presence : Presence) (r : PrintedRange) where
  by_agreement : (o : Option TypeRow) → decodable r.code ≡ o → T (agrees presence r o)
      → DecodedAsPrinted presence r
      × ((registers : List ℕ) → length registers ≡ 4 → AreRegisters registers → Within r (decoded r.code presence registers))
  by_agreement none e t = absurd t
  by_agreement (some row) e t = (
    λ z. (
      λ d. decoded_within r (decoded r.code presence d.registers) z (within presence r row e t d.registers d.four d.all) d.is,
      decoded_there presence r row e t z,
    ),
    within presence r row e t,
  )

each_agrees : (presence : Presence) → Each (λ r. T (agrees presence r (decodable r.code))) (printed presence)
each_agrees presence = every_each (λ r. agrees presence r (decodable r.code)) (printed presence) (all_agree presence)

-- An integer is decoded from some registers if and only if it is in the type's range: for every type of the table.
pub decoded_as_printed : (presence : Presence) → Each (DecodedAsPrinted presence) (printed presence)
decoded_as_printed presence =
    each_implied (λ r. T (agrees presence r (decodable r.code))) (DecodedAsPrinted presence)
    (λ r t. (by_agreement presence r (decodable r.code) refl t).0) (printed presence) (each_agrees presence)

-- Any four registers are decoded as a printed integer, or as unimplemented or out of range.
pub within_printed : (presence : Presence) (registers : List ℕ) → length registers ≡ 4 → AreRegisters registers
    → Each (λ r. Within r (decoded r.code presence registers)) (printed presence)
within_printed presence registers four all =
    each_implied (λ r. T (agrees presence r (decodable r.code))) (λ r. Within r (decoded r.code presence registers))
    (λ r t. (by_agreement presence r (decodable r.code) refl t).1 registers four all) (printed presence) (each_agrees presence)
