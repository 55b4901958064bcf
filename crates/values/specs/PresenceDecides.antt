-- The claims of change request 2 on one value: where the presence of a point decides, and that optional points are as before.
-- Proof: `proofs/PresenceDecides.antt`.
use Rattle.std.specs.Prelude.{◌≡◌, true, false, List, ℕ, pos}
use Rattle.std.proofs.Math.Option.{none, some}
use Rattle.registers.specs.Registers as registers
use Rattle.point_types.specs.Presence.{mandatory, optional}
use Rattle.point_types.specs.Rows.{TypeRow, row_of, AccumulatorCode}
use Rattle.values.specs.Classes.{is_unimplemented, in_range, Class, value, unimplemented, out_of_range, Classified, of_class, too_wide, unknown_type, classified}
use Rattle.values.specs.Decoding as decoding
use Rattle.values.specs.Decoding.{Decoded, value_by, pattern_in, decodable, decoded}
use Rattle.values.specs.Unscaled.{Unscaled, number, no_value, unscaled_by, unscaled}

-- ---- Where the presence decides

-- An accumulator (type 3, 11 or 18) at 0.
abbrev pub CountsZero : ℕ → ℕ → Type 0
CountsZero code raw = AccumulatorCode code × (raw ≡ 0)

-- The class of a raw value under a type code by the presence. At an accumulator's 0 a mandatory point has a value, and an optional one
-- is unimplemented; everywhere else the class is the same for both.
pub record PresenceDecides (code raw : ℕ) : Type 0 where
  pub mandatory_zero : CountsZero code raw → classified code mandatory raw ≡ of_class value
  pub optional_zero : CountsZero code raw → classified code optional raw ≡ of_class unimplemented
  pub elsewhere : (CountsZero code raw → ⊥) → classified code mandatory raw ≡ classified code optional raw

-- The registers of an accumulator hold 0.
abbrev pub HoldsZero : ℕ → List ℕ → Type 0
HoldsZero code registers = (row : TypeRow) × (decodable code ≡ some row) × CountsZero code (pattern_in row registers)

-- The same for what registers are decoded as.
pub record PresenceDecodes (code : ℕ) (registers : List ℕ) : Type 0 where
  pub mandatory_zero : HoldsZero code registers → decoded code mandatory registers ≡ decoding.unsigned 0
  pub optional_zero : HoldsZero code registers → decoded code optional registers ≡ decoding.unimplemented
  pub elsewhere : (HoldsZero code registers → ⊥) → decoded code mandatory registers ≡ decoded code optional registers

-- The same for the integer that a scale factor multiplies.
pub record PresenceUnscales (code raw : ℕ) : Type 0 where
  pub mandatory_zero : CountsZero code raw → unscaled code mandatory raw ≡ number (pos 0)
  pub optional_zero : CountsZero code raw → unscaled code optional raw ≡ no_value
  pub elsewhere : (CountsZero code raw → ⊥) → unscaled code mandatory raw ≡ unscaled code optional raw

-- ---- Optional points: the definitions as they were before change request 2, without a presence, over the same table of types

-- The class of a raw value under a type (document 01, "The value rows").
unfoldable pub class_before : TypeRow → ℕ → Class
class_before row raw =
    elim (is_unimplemented row.unimplemented raw) [
      | true ↦ unimplemented
      | false ↦ elim (in_range row raw) [ true ↦ value | false ↦ out_of_range ]
    ]

-- The class under a type code, too wide, or unknown.
unfoldable pub classified_before : ℕ → ℕ → Classified
classified_before code raw =
    elim (row_of code) [
      | none ↦ unknown_type
      | some row ↦ elim (registers.too_wide row.most raw) [ true ↦ too_wide | false ↦ of_class (class_before row raw) ]
    ]

-- Document 01, "One value", with the types of change request 1.
unfoldable pub decoded_before : ℕ → List ℕ → Decoded
decoded_before code registers =
    elim (decodable code) [
      | none ↦ decoding.refused 40 0
      | some row ↦ value_by row (class_before row (pattern_in row registers)) (pattern_in row registers)
    ]

-- The number that a scale factor multiplies (document 01, "Decimal" and "Worth").
unfoldable pub unscaled_before : ℕ → ℕ → Unscaled
unscaled_before code raw = unscaled_by code (classified_before code raw) raw

-- What an optional point gives is what any point of its type gave before.
pub record OptionalAsBefore (code raw : ℕ) (registers : List ℕ) : Type 0 where
  pub class : classified code optional raw ≡ classified_before code raw
  pub decodes : decoded code optional registers ≡ decoded_before code registers
  pub unscales : unscaled code optional raw ≡ unscaled_before code raw
