-- The headers of a register map (document 01, "The map"): 5375 6E53, models (id, length L, L registers), end marker FFFF 0000.
use Rattle.std.specs.Prelude.{Bool, true, false, not, ◌&&◌, List, [], ◌∷◌, ℕ, eqb, ltb, length, get_or}
use Rattle.std.proofs.Math.Option.{Option, none, some}

-- The id of the end marker.
abbrev pub end_id : ℕ
end_id = 0xFFFF

-- Does the map begin with the registers 5375 6E53 ("SunS")? (A map of fewer than two registers does not.)
abbrev pub begins_with_sun_s : List ℕ → Bool
begins_with_sun_s map = eqb (get_or map 0 0) 0x5375 && eqb (get_or map 1 0) 0x6E53

-- The refusals of a map as a whole. 20: over 65,536 registers. 21: the map does not begin with 5375 6E53.
unfoldable pub opening : List ℕ → Option ℕ
opening map =
    elim (ltb 65536 (length map)) [
      | true ↦ some 20
      | false ↦ elim (begins_with_sun_s map) [ true ↦ none | false ↦ some 21 ]
    ]

-- What is found at a header: a model with its id and length, the end marker, or the number of a refusal.
pub data Header : Type 0 where
  model : ℕ → ℕ → Header
  end_marker : Header
  refused : ℕ → Header

-- The header with this id and length, with `remaining` registers after them. `first`: it is the first header of the map. 23: the
-- first id is not 1. 24: id 0. 25: the marker's length is not 0, or a model's is. 26: the length runs past the map.
abbrev pub header_of : Bool → ℕ → ℕ → ℕ → Header
header_of first id len remaining =
    elim (first && not (eqb id 1)) [
      | true ↦ refused 23
      | false ↦ elim (eqb id 0) [
        | true ↦ refused 24
        | false ↦ elim (eqb id end_id) [
          | true ↦ elim (eqb len 0) [ true ↦ end_marker | false ↦ refused 25 ]
          | false ↦ elim (eqb len 0) [
            | true ↦ refused 25
            | false ↦ elim (ltb remaining len) [ true ↦ refused 26 | false ↦ model id len ]
          ]
        ]
      ]
    ]

-- The header at the start of these registers, which run to the end of the map. 22: under two registers are left.
abbrev pub header_at : Bool → List ℕ → Header
header_at first [] = refused 22
header_at first (id ∷ []) = refused 22
header_at first (id ∷ len ∷ remaining) = header_of first id len (length remaining)
