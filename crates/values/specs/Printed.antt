-- The values of the types as document 000 prints them (6.4.1 to 6.4.3 and 6.4.6 to 6.4.8).
-- Integers: the type's range without the value printed as not implemented or not accumulated. The range includes that value for
-- acc16, acc32 and acc64 (0; a value of a mandatory one, by change request 2) and for uint64 (its upper end; document 01: "not given
-- wins"). One misprint is corrected: a digit is missing from bitfield32's upper end. bitfield64 has no printed range: change request
-- 1 gives it that of the narrower bitfields.
-- Floats: the numbers of the type's format of IEEE 754. raw16 and ipaddr are in neither table: no range is printed for them.
use Rattle.std.specs.Prelude.{◌≡◌, not, ◌↔◌, List, [], ◌∷◌, ℕ, T, Float, ℤ, pos, neg_ℤ, length, ◌≤ℤ◌}
use Rattle.std.proofs.Math.Option.{Option, none, some}
use Rattle.std.specs.Float.{Format, binary32, binary64}
use Rattle.std.specs.Float.Ieee.{fits, is_nan}
use Rattle.registers.specs.Registers.{AreRegisters}
use Rattle.point_types.specs.Presence.{Presence, mandatory, optional}
use Rattle.values.specs.Decoding.{Decoded, signed, unsigned, float, unimplemented, out_of_range, refused, decoded}

-- A type's code, and the least and the greatest of its values.
pub record PrintedRange : Type 0 where
  pub code : ℕ
  pub least : ℤ
  pub greatest : ℤ

-- From m to n, and from -n to n.
abbrev from_to : ℕ → ℕ → ℕ → PrintedRange
from_to c m n = record { code = c; least = pos m; greatest = pos n }

abbrev around : ℕ → ℕ → PrintedRange
around c n = record { code = c; least = neg_ℤ (pos n); greatest = pos n }

-- The least count of an accumulator. 000 prints 0, and 0 as not accumulated: a value of a mandatory one only (change request 2).
abbrev pub least_count : Presence → ℕ
least_count mandatory = 0
least_count optional = 1

-- The types by code, with their printed values for a point of this presence.
unfoldable pub printed : Presence → List PrintedRange
printed presence =
    around 1 32767
    ∷ from_to 2 0 65534
    ∷ from_to 3 (least_count presence) 65535
    ∷ from_to 4 0 65534
    ∷ from_to 5 0 0x7FFF
    ∷ from_to 6 0x8000 0x8000
    ∷ around 8 10
    ∷ around 9 2147483647
    ∷ from_to 10 0 4294967294
    ∷ from_to 11 (least_count presence) 4294967295
    ∷ from_to 12 0 4294967294
    ∷ from_to 13 0 0x7FFFFFFF  -- printed: 0x7FFFFFF
    ∷ around 16 9223372036854775807
    ∷ from_to 17 0 18446744073709551614  -- printed: 18,446,744,073,709,551,615, the not-implemented value
    ∷ from_to 18 (least_count presence) 9223372036854775807
    ∷ from_to 21 0 0x7FFFFFFFFFFFFFFF  -- not printed: change request 1
    ∷ []

-- An integer from the least to the greatest.
abbrev pub InPrinted : PrintedRange → ℤ → Type 0
InPrinted r z = (r.least ≤ℤ z) × (z ≤ℤ r.greatest)

-- What was decoded is an integer in the range, or there is no value. None of these types is a float or refused.
abbrev pub Within : PrintedRange → Decoded → Type 0
Within r (signed z) = InPrinted r z
Within r (unsigned n) = InPrinted r (pos n)
Within r (float f x) = ⊥
Within r unimplemented = Unit {0}
Within r out_of_range = Unit {0}
Within r (refused n place) = ⊥

-- The integer that was decoded, if it is one.
abbrev pub decoded_integer : Decoded → Option ℤ
decoded_integer (signed z) = some z
decoded_integer (unsigned n) = some (pos n)
decoded_integer (float f x) = none
decoded_integer unimplemented = none
decoded_integer out_of_range = none
decoded_integer (refused n place) = none

-- Four registers whose result under a type code and a presence satisfies `Is`.
pub record DecodedFrom (code : ℕ) (presence : Presence) (Is : Decoded → Type 0) : Type 0 where
  pub registers : List ℕ
  pub four : length registers ≡ 4
  pub all : AreRegisters registers
  pub is : Is (decoded code presence registers)

-- The values of a type are the printed integers: z is decoded from some registers if and only if it is in the range.
abbrev pub DecodedAsPrinted : Presence → PrintedRange → Type 0
DecodedAsPrinted presence r = (z : ℤ) → DecodedFrom r.code presence (λ d. decoded_integer d ≡ some z) ↔ InPrinted r z

-- ---- Floats

-- A float type's code and its format of IEEE 754.
pub record PrintedFormat : Type 0 where
  pub code : ℕ
  pub format : Format

unfoldable pub printed_formats : List PrintedFormat
printed_formats = record { code = 14; format = binary32 } ∷ record { code = 22; format = binary64 } ∷ []

-- A number of a format: an infinity, or a finite number that the format holds, with either sign.
abbrev pub NumberIn : Format → Float → Type 0
NumberIn f x = T (fits f x) × T (not (is_nan x))

-- What was decoded is a number of the format, or there is no value. None of these types is an integer or refused.
abbrev pub WithinFormat : PrintedFormat → Decoded → Type 0
WithinFormat r (signed z) = ⊥
WithinFormat r (unsigned n) = ⊥
WithinFormat r (float f x) = (f ≡ r.format) × NumberIn f x
WithinFormat r unimplemented = Unit {0}
WithinFormat r out_of_range = Unit {0}
WithinFormat r (refused n place) = ⊥

-- The values of a float type are the numbers of its format: x is decoded from some registers if and only if it is one.
abbrev pub DecodedAsFormat : Presence → PrintedFormat → Type 0
DecodedAsFormat presence r = (x : Float) → DecodedFrom r.code presence (λ d. d ≡ float r.format x) ↔ NumberIn r.format x
