-- The number that a scale factor multiplies (document 01, "Decimal" and "Worth"), from a type code, a presence and a raw value.
use Rattle.std.specs.Prelude.{true, false, ℕ, ◌^◌, ◌<◌, ℤ, pos, negsuc}
use Rattle.std.proofs.Math.Option.{none, some}
use Rattle.point_types.specs.Presence.{Presence}
use Rattle.point_types.specs.Rows.{row_of}
use Rattle.values.specs.Classes.{integer, Classified, is_value, classified}

-- An integer; or `no_value`: unimplemented, out of range or too wide; or `not_scalable`: a type without s, or an unknown one.
pub data Unscaled : Type 0 where
  number : ℤ → Unscaled
  no_value not_scalable : Unscaled

-- By the class of the raw value. The type is tested before it.
abbrev pub unscaled_by : ℕ → Classified → ℕ → Unscaled
unscaled_by code class raw =
    elim (row_of code) [
      | none ↦ not_scalable
      | some row ↦ elim row.scalable [
        | false ↦ not_scalable
        | true ↦ elim (is_value class) [ true ↦ number (integer row raw) | false ↦ no_value ]
      ]
    ]

-- The number of a raw value under a type code, for a point of this presence.
unfoldable pub unscaled : ℕ → Presence → ℕ → Unscaled
unscaled code presence raw = unscaled_by code (classified code presence raw) raw

-- The integer fits 64 bits, signed or unsigned: from -2 ^ 63 to 2 ^ 64 - 1.
abbrev pub Within64 : ℤ → Type 0
Within64 (pos n) = n < 2 ^ 64
Within64 (negsuc n) = n < 2 ^ 63
