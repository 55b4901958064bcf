-- Document 01, "One value", with the types of change request 1 and the presence of change request 2: a type code, whether the point
-- is mandatory, and four registers give one result with data, or refusal 40.
use Rattle.std.specs.Prelude.{true, false, List, ◌⊎◌, ◌≡◌, ℕ, ◌≤◌, leb, ℤ, Float, take}
use Rattle.std.proofs.Math.Option.{Option, none, some}
use Rattle.std.specs.Float.{Format}
use Rattle.std.specs.Float.Ieee.{of_bits}
use Rattle.registers.specs.Registers.{join}
use Rattle.point_types.specs.Presence.{Presence}
use Rattle.point_types.specs.Rows.{TypeRow, Kind, row_of}
use Rattle.values.specs.Classes.{Class, width, twos_complement, class_of}

-- The results with their data, a float with its format; a refusal by its number and place (document 01: place 0 where none is
-- named).
pub data Decoded : Type 0 where
  signed : ℤ → Decoded
  unsigned : ℕ → Decoded
  float : Format → Float → Decoded
  unimplemented : Decoded
  out_of_range : Decoded
  refused : (number place : ℕ) → Decoded

-- The number of a pattern that is a value, read by the type's kind.
unfoldable pub number_of : TypeRow → ℕ → Decoded
number_of row raw =
    elim row.kind [
      | Kind.signed ↦ signed (twos_complement (width row) raw)
      | Kind.unsigned ↦ unsigned raw
      | Kind.accumulator ↦ unsigned raw
      | Kind.float f ↦ float f (of_bits f raw)
    ]

-- The result for a raw value of this class.
abbrev pub value_by : TypeRow → Class → ℕ → Decoded
value_by row Class.value raw = number_of row raw
value_by row Class.unimplemented raw = unimplemented
value_by row Class.out_of_range raw = out_of_range

-- The result for a raw value under a type, for a point of this presence.
unfoldable pub value_of : TypeRow → Presence → ℕ → Decoded
value_of row presence raw = value_by row (class_of row presence raw) raw

-- The pattern in the first `row.most` registers.
abbrev pub pattern_in : TypeRow → List ℕ → ℕ
pattern_in row registers = join (take row.most registers)

-- The codes that `decode` takes: document 01 has 1–18, change request 1 adds 21 and 22. (RefusedCodes proves that `decodable` has
-- exactly these.)
abbrev pub DecodedCode : ℕ → Type 0
DecodedCode code = ((1 ≤ code) × (code ≤ 18)) ⊎ ((code ≡ 21) ⊎ (code ≡ 22))

-- The row that decodes a code: the table's, if the type takes at most four registers.
unfoldable pub decodable : ℕ → Option TypeRow
decodable code =
    elim (row_of code) [ none ↦ none | some row ↦ elim (leb row.most 4) [ true ↦ some row | false ↦ none ] ]

-- One value from four registers, the first ones used. 40 at place 0: the code is not 1–18, 21 or 22.
unfoldable pub decoded : ℕ → Presence → List ℕ → Decoded
decoded code presence registers =
    elim (decodable code) [ none ↦ refused 40 0 | some row ↦ value_of row presence (pattern_in row registers) ]
