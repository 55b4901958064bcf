-- Document 01, "Cases and mistakes": the twelve cases for the proved table, in the document's order, for optional points; and after
-- them the mandatory accumulators at 0 of change request 2. One equation over each list compares it with the definitions that the
-- contracts cite; the checker computes it. Values and scale factors are registers, as the calls take them: FFFF for −1.
use mathlib.Core.Path.{◌≡◌, refl}
use mathlib.Core.List.{List, [], ◌∷◌, map}
use Prim.Native.Nat.{ℕ}
use Prim.Native.String.{String}
use lib.IntN.{ℤ, pos, neg_ℤ}
use lib.Ieee.{nan_bits}
use lib.ListN.{length, replicate}
use Rattle.lists.specs.Ascii.{ascii}
use Rattle.registers.specs.Registers.{join, too_wide}
use Rattle.point_types.specs.Presence.{Presence, mandatory, optional}
use Rattle.point_types.specs.Rows.{rows, row_among}
use Rattle.point_types.specs.declared.Presence as declared
use Rattle.values.specs.Classes.{twos_complement, integer, in_range, class_of, classified}
use Rattle.values.specs.Decoding.{Decoded, signed, unsigned, unimplemented, out_of_range, number_of, value_of, decodable, decoded}
use Rattle.values.specs.Unscaled.{unscaled}
use Rattle.display.specs.Amounts.{amount_of}
use Rattle.display.specs.Decimals.{Decimal, text, decimal_of, last_digits, digit_count_within, unsigned_text}
use Rattle.display.specs.Equality.{Equality, equal, equality}
use Rattle.display.specs.CodeTypes.{quantity_amount, decimal_into}
use Rattle.display.specs.declared.Quantity.{Quantity}

-- What a case is about: a decoded value, a decimal text, a comparison.
pub data Result : Type 0 where
  value : Decoded → Result
  shown : Decimal → Result
  compared : Equality → Result

-- What the definitions give, and what the document says. A case has one such line or two.
abbrev pub Line : Type 0
Line = Result × Result

abbrev pub Case : Type 0
Case = List Line

abbrev int16 : ℕ
int16 = 1

abbrev acc16 : ℕ
acc16 = 3

abbrev acc32 : ℕ
acc32 = 11

abbrev acc64 : ℕ
acc64 = 18

abbrev bitfield16 : ℕ
bitfield16 = 5

abbrev sunssf : ℕ
sunssf = 8

abbrev float32 : ℕ
float32 = 14

-- The value of a type whose first registers are these two, for a point of this presence; and for an optional one.
abbrev decodes_for : Presence → ℕ → ℕ → ℕ → Decoded → Line
decodes_for presence type first second result = (value (decoded type presence (first ∷ second ∷ 0 ∷ 0 ∷ [])), value result)

abbrev decodes : ℕ → ℕ → ℕ → Decoded → Line
decodes = decodes_for optional

-- The text of an int16 with a scale factor, both as registers, in a buffer of 32 bytes.
abbrev reads : ℕ → ℕ → String → Line
reads raw scale t = (shown (decimal_into int16 optional raw scale (replicate 32 0)), shown (text (ascii t)))

-- An int16 with a scale factor, both as registers.
abbrev quantity : ℕ → ℕ → Quantity
quantity raw scale = record { type_code = int16; presence = declared.Presence.Optional; raw = raw; scale = scale }

abbrev equals : Quantity → Quantity → Line
equals a b = (compared (equality (quantity_amount a) (quantity_amount b)), compared equal)

abbrev minus : ℕ → ℤ
minus n = neg_ℤ (pos n)

unfoldable pub cases : List Case
cases =
    (decodes int16 0x8000 0 unimplemented ∷ [])
    ∷ (decodes int16 0xFFFF 0 (signed (minus 1)) ∷ [])
    ∷ (decodes acc16 0xFFFF 0 (unsigned 65535) ∷ [])
    ∷ (decodes acc16 0 0 unimplemented ∷ [])
    ∷ (decodes bitfield16 0x8000 0 out_of_range ∷ [])
    ∷ (decodes sunssf 0xFFF6 0 (signed (minus 10)) ∷ decodes sunssf 0x000B 0 out_of_range ∷ [])
    ∷ (decodes float32 0x7FC0 0x0001 out_of_range ∷ [])
    ∷ (reads 230 0xFFFF "23.0" ∷ [])  -- scale −1
    ∷ (reads 0xFFFB 0xFFFE "-0.05" ∷ [])  -- −5, scale −2
    ∷ (reads 0 0xFFFE "0.00" ∷ [])  -- scale −2
    ∷ (reads 15 2 "1500" ∷ [])
    ∷ (equals (quantity 230 0) (quantity 2300 0xFFFF) ∷ [])  -- scales 0 and −1
    ∷ []

pub there_are_twelve : length cases ≡ 12
unfolding cases
there_are_twelve = refl

-- The test: all that the definitions give is all that the document says.
pub twelve_cases : map (map (λ (l : Line). l.0)) cases ≡ map (map (λ (l : Line). l.1)) cases
unfolding cases rows row_among join too_wide twos_complement integer in_range class_of classified number_of value_of decodable decoded unscaled amount_of decimal_of last_digits digit_count_within unsigned_text equality nan_bits
twelve_cases = refl

-- Change request 2: a mandatory acc16, acc32 or acc64 at 0 is a value like any other, also as a decimal and compared with an int16's 0.
unfoldable pub mandatory_cases : List Case
mandatory_cases =
    (decodes_for mandatory acc16 0 0 (unsigned 0) ∷ [])
    ∷ (decodes_for mandatory acc32 0 0 (unsigned 0) ∷ [])
    ∷ (decodes_for mandatory acc64 0 0 (unsigned 0) ∷ [])
    ∷ (map zero_reads (acc16 ∷ acc32 ∷ acc64 ∷ []))
    ∷ (map zero_equals (acc16 ∷ acc32 ∷ acc64 ∷ []))
    ∷ []
  where
    -- The text of a mandatory point at 0 with the scale factor −2.
    zero_reads : ℕ → Line
    zero_reads type = (shown (decimal_into type mandatory 0 0xFFFE (replicate 32 0)), shown (text (ascii "0.00")))

    -- The same quantity against an int16 of 0.
    zero_equals : ℕ → Line
    zero_equals type =
        equals (record { type_code = type; presence = declared.Presence.Mandatory; raw = 0; scale = 0xFFFE }) (quantity 0 0)

pub mandatory_cases_lem : map (map (λ (l : Line). l.0)) mandatory_cases ≡ map (map (λ (l : Line). l.1)) mandatory_cases
unfolding mandatory_cases rows row_among join too_wide twos_complement integer in_range class_of classified number_of value_of decodable decoded unscaled amount_of decimal_of last_digits digit_count_within unsigned_text equality nan_bits
mandatory_cases_lem = refl
