-- The values of a float type are the numbers of its format of IEEE 754: no other float is decoded, and each of them is, of a
-- mandatory or an optional point.
use mathlib.Core.Path.{◌≡◌, refl, sym, ap, subst, ◌∙◌}
use mathlib.Core.Bool.{Bool, true, false, not}
use mathlib.Core.List.{List}
use mathlib.Core.Option.{some}
use Prim.Native.Nat.{ℕ, ◌^◌, ◌<◌}
use borrow.Author.Tests.{ne_eqb}
use lib.Dec.{T}
use lib.Ieee.{Format, binary32, binary64, Float, is_nan, nan_bits, of_bits, to_bits}
use lib.Ieee.Bits.{is_false, of_bits-fits, of_bits-to_bits, to_bits-lt, nan_bits_is}
use Rattle.lists.specs.Each.{Each}
use Rattle.lists.proofs.EachLaws.{each_implied}
use Rattle.lists.proofs.TestOutcomes.{impossible, clash}
use Rattle.point_types.specs.Presence.{Presence, mandatory, optional}
use Rattle.point_types.specs.Rows.{TypeRow, Listed, float, unimplemented_for, Unimplemented, never, pattern, rows, row_among}
use Rattle.point_types.proofs.Table.{row_in, listed, float_row}
use Rattle.values.specs.Classes.{Class, width, is_unimplemented, in_range, class_of}
use Rattle.values.specs.Decoding as decoding
use Rattle.values.specs.Decoding.{Decoded, pattern_in, number_of, decodable, decoded}
use Rattle.values.specs.Printed.{PrintedFormat, printed_formats, NumberIn, WithinFormat, DecodedFrom, DecodedAsFormat}
use Rattle.values.proofs.ThreeClasses.{class_is_its_tests}
use Rattle.values.proofs.ClassCases.{row_of_decodable}
use Rattle.values.proofs.DecodedCases.{ResultOf, as_signed, as_unsigned, as_float, as_unimplemented, as_out_of_range, result_by}
use Rattle.values.proofs.DecodedPatterns.{from_pattern}
use Rattle.values.proofs.Ranges.{is_unsigned}
use Rattle.values.proofs.NoNaN.{float_in_range, no_nan}

-- Is the unimplemented pattern, if there is one, a NaN's?
abbrev mark_is_nan : Format → Unimplemented → Bool
mark_is_nan f never = true
mark_is_nan f (pattern p) = nan_bits f p

-- The row of a printed format: `decode` takes it, it is a float of the format, and its unimplemented pattern is a NaN's.
record FormatRow (r : PrintedFormat) : Type 0 where
  pub row : TypeRow
  pub is : decodable r.code ≡ some row
  pub kind : row.kind ≡ float r.format
  pub mark : (presence : Presence) → T (mark_is_nan r.format (unimplemented_for row presence))

-- A fact about both presences holds of any.
by_presence : (P : Presence → Type 0) → P mandatory → P optional → (presence : Presence) → P presence
by_presence P m o mandatory = m
by_presence P m o optional = o

-- Computed for both types.
format_rows : Each FormatRow printed_formats
unfolding printed_formats rows row_among decodable nan_bits
format_rows =
    let Marked : Format → TypeRow → Presence → Type 0 = λ f row presence. T (mark_is_nan f (unimplemented_for row presence)) in (
      record { row = row_in (decodable 14); is = refl; kind = refl; mark = by_presence (Marked binary32 (row_in (decodable 14))) tt tt },
      (record { row = row_in (decodable 22); is = refl; kind = refl; mark = by_presence (Marked binary64 (row_in (decodable 22))) tt tt }, tt),
    )

module _ (presence : Presence) (r : PrintedFormat) (found : FormatRow r) where
  abbrev f : Format
  f = r.format

  -- Any registers are decoded as a number of the format or as none.
  within : (registers : List ℕ) → WithinFormat r (decoded r.code presence registers)
  within registers = by_result refl (result_by r.code presence registers found.row found.is)
    where
      by_result : {d : Decoded} → decoded r.code presence registers ≡ d → ResultOf found.row presence (pattern_in found.row registers) d
          → WithinFormat r d
      by_result q (as_signed k v) = let e = found.kind in impossible (cc)
      by_result q (as_unsigned k v) = clash (sym k ∙ ap is_unsigned found.kind)
      by_result q (as_float g k v) =
          let e = found.kind in
          let same : g ≡ r.format = cc in
          (same, (of_bits-fits g (pattern_in found.row registers), no_nan r.code presence registers g _ q))
      by_result q (as_unimplemented v) = tt
      by_result q (as_out_of_range v) = tt

  decoded_number : (x : Float) (d : Decoded) → WithinFormat r d → d ≡ decoding.float f x → NumberIn f x
  decoded_number x d w e = (subst (WithinFormat r) e w).1

  -- A number of the format is decoded from the registers of its pattern.
  module _ (x : Float) (n : NumberIn f x) where
    abbrev raw : ℕ
    raw = to_bits f x

    is_listed_lem : Listed found.row
    is_listed_lem = listed r.code found.row (row_of_decodable r.code found.row found.is)

    raw_fits : raw < 2 ^ width found.row
    raw_fits = rw (float_row found.row is_listed_lem f found.kind).0 (to_bits-lt f x n.0)

    back : of_bits f raw ≡ x
    back = of_bits-to_bits f x n.0

    no_nan_bits : nan_bits f raw ≡ false
    no_nan_bits = nan_bits_is f raw ∙ ap is_nan back ∙ is_false (is_nan x) n.1

    implemented : (m : Unimplemented) → T (mark_is_nan f m) → is_unimplemented m raw ≡ false
    implemented never t = refl
    implemented (pattern p) t = ne_eqb raw p (λ e. rw (← e, no_nan_bits) at t)

    is_value : class_of found.row presence raw ≡ Class.value
    is_value =
        let range : in_range found.row raw ≡ true = float_in_range found.row raw f is_listed_lem found.kind ∙ ap not no_nan_bits in
        (class_is_its_tests found.row presence raw Class.value).1 (implemented (unimplemented_for found.row presence) (found.mark presence), range)

    decoded_there : DecodedFrom r.code presence (λ d. d ≡ decoding.float f x)
    unfolding number_of
    decoded_there =
        let number : number_of found.row raw ≡ decoding.float f x = simp (number_of, found.kind) (ap (decoding.float f) back) in
        from_pattern r.code presence found.row found.is raw raw_fits (λ d. d ≡ decoding.float f x) is_value number

-- ---- The claims

-- A float is decoded from some registers if and only if it is a number of the format: for both types.
pub decoded_as_format : (presence : Presence) → Each (DecodedAsFormat presence) printed_formats
decoded_as_format presence =
    each_implied FormatRow (DecodedAsFormat presence)
    (λ r found x. (
      λ d. decoded_number presence r found x (decoded r.code presence d.registers) (within presence r found d.registers) d.is,
      decoded_there presence r found x,
    ))
    printed_formats format_rows

-- Any registers are decoded as a number of the format, or as unimplemented or out of range.
pub within_formats : (presence : Presence) (registers : List ℕ) → Each (λ r. WithinFormat r (decoded r.code presence registers)) printed_formats
within_formats presence registers =
    each_implied FormatRow (λ r. WithinFormat r (decoded r.code presence registers)) (λ r found. within presence r found registers)
    printed_formats format_rows
