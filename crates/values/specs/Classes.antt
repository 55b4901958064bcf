-- The class of a raw value under its type (document 01, "The value rows"), for a point that is mandatory or optional (change request
-- 2): a value, unimplemented or out of range.
use Rattle.std.specs.Prelude.{Bool, true, false, not, ◌&&◌, ℕ, ◌-◌, ◌*◌, ◌^◌, ◌<◌, eqb, ltb, ℤ, pos, neg_ℤ, ◌-ℤ◌}
use Rattle.std.proofs.Math.Option.{none, some}
use Rattle.std.specs.Int.Signed.{le_z}
use Rattle.std.specs.Float.Ieee.{nan_bits}
use Rattle.registers.specs.Registers as registers
use Rattle.point_types.specs.Presence.{Presence}
use Rattle.point_types.specs.Rows.{TypeRow, row_of, Listed, Kind, signed, unsigned, accumulator, float, Unimplemented, never, pattern, unimplemented_for, whole, between, not_nan}

-- The number of a pattern of `bits` bits in two's complement (document 000, 6.4).
unfoldable pub twos_complement : ℕ → ℕ → ℤ
twos_complement bits raw =
    elim (ltb raw (2 ^ (bits - 1))) [ true ↦ pos raw | false ↦ pos raw -ℤ pos (2 ^ bits) ]

-- The number of bits of a type, of a string at its longest: 16 a register.
abbrev pub width : TypeRow → ℕ
width row = 16 * row.most

-- The integer of a pattern by its type's kind. (For a float the value here does not matter: its range is not one of integers.)
unfoldable pub integer : TypeRow → ℕ → ℤ
integer row raw =
    elim row.kind [ signed ↦ twos_complement (width row) raw | unsigned ↦ pos raw | accumulator ↦ pos raw | float f ↦ pos raw ]

-- Is the raw value the unimplemented pattern (document 01: "not given")?
abbrev pub is_unimplemented : Unimplemented → ℕ → Bool
is_unimplemented never raw = false
is_unimplemented (pattern p) raw = eqb raw p

-- Is z from low to high?
abbrev pub is_between : ℤ → ℤ → ℤ → Bool
is_between low high z = le_z low z && le_z z high

-- Is an integer a scale factor (document 01, row 8): from −10 to 10?
abbrev pub is_scale_factor : ℤ → Bool
is_scale_factor z = is_between (neg_ℤ (pos 10)) (pos 10) z

-- Is the raw value the pattern of a NaN, of any sign and payload, in the format of its type's kind? Integers have none.
abbrev pub holds_nan : Kind → ℕ → Bool
holds_nan signed raw = false
holds_nan unsigned raw = false
holds_nan accumulator raw = false
holds_nan (float f) raw = nan_bits f raw

-- Is the raw value in its type's range? For a float: every pattern but a NaN's, so infinities, negative zero and subnormals too.
unfoldable pub in_range : TypeRow → ℕ → Bool
in_range row raw =
    elim row.range [
      | whole ↦ true
      | between low high ↦ is_between low high (integer row raw)
      | not_nan ↦ not (holds_nan row.kind raw)
    ]

-- Document 01's three kinds of pattern: a value, not given, out of range.
pub data Class : Type 0 where
  value unimplemented out_of_range : Class

-- The class of a raw value under a type, for a point of this presence: unimplemented wins over out of range.
unfoldable pub class_of : TypeRow → Presence → ℕ → Class
class_of row presence raw =
    elim (is_unimplemented (unimplemented_for row presence) raw) [
      | true ↦ unimplemented
      | false ↦ elim (in_range row raw) [ true ↦ value | false ↦ out_of_range ]
    ]

-- The raw value is a pattern of the width of a type of the table.
pub record PatternOf (row : TypeRow) (raw : ℕ) : Type 0 where
  pub listed : Listed row
  pub fits : raw < 2 ^ width row

-- The results of `classify`: the class of the raw value; or it is too wide to be a pattern of the type (document 01, "Events":
-- 2 ^ (16 × registers) or more; a string at its longest); or the type is unknown.
pub data Classified : Type 0 where
  of_class : Class → Classified
  too_wide : Classified
  unknown_type : Classified

unfoldable pub classified : ℕ → Presence → ℕ → Classified
classified code presence raw =
    elim (row_of code) [
      | none ↦ unknown_type
      | some row ↦ elim (registers.too_wide row.most raw) [ true ↦ too_wide | false ↦ of_class (class_of row presence raw) ]
    ]

-- Is a raw value a value of its type? It is not if it is unimplemented, out of range or too wide, or if the type is unknown.
abbrev pub is_value : Classified → Bool
is_value (of_class value) = true
is_value (of_class unimplemented) = false
is_value (of_class out_of_range) = false
is_value too_wide = false
is_value unknown_type = false

-- Is a raw value classified as unimplemented (document 01, "Writing", 34)? It is not if it is a value, out of range or too wide, or if
-- the type is unknown.
abbrev pub is_unimplemented_class : Classified → Bool
is_unimplemented_class (of_class unimplemented) = true
is_unimplemented_class (of_class value) = false
is_unimplemented_class (of_class out_of_range) = false
is_unimplemented_class too_wide = false
is_unimplemented_class unknown_type = false
