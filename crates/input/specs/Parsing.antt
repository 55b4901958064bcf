-- Document 01, "The program": the lines of standard input as a catalog and a register map (refusals 50 to 52).
use Rattle.std.specs.Prelude.{Bool, true, false, ◌&&◌, List, [], ◌∷◌, ◌++◌, ℕ, ◌+◌, ◌-◌, ◌%◌, eqb, leb, ltb, length, drop}
use Rattle.input.specs.Lines.{lines}
use Rattle.input.specs.Digits.{are_digits, words_of}

-- A line of the catalog, one frame: 32 digits.
abbrev pub is_catalog_line : List ℕ → Bool
is_catalog_line l = eqb (length l) 32 && are_digits l

-- A line of the map: 4 to 64 digits, in fours. An empty line is not one.
abbrev pub is_map_line : List ℕ → Bool
is_map_line l = leb 4 (length l) && leb (length l) 64 && eqb (length l % 4) 0 && are_digits l

-- What a text gives: the words of the catalog and the registers of the map; or the number of a refusal and its place, a line counted
-- from 1.
pub data Input : Type 0 where
  refused : ℕ → ℕ → Input
  words : List ℕ → List ℕ → Input

-- The input with a frame added before the catalog.
abbrev pub with_frame : List ℕ → Input → Input
with_frame frame (refused number place) = refused number place
with_frame frame (words catalog map) = words (frame ++ catalog) map

-- The input with registers added before the map.
abbrev pub with_registers : List ℕ → Input → Input
with_registers registers (refused number place) = refused number place
with_registers registers (words catalog map) = words catalog (registers ++ map)

-- The map's lines, numbered from `place`; `capacity` is the most registers. 50: a bad line; 52: too many registers.
unfoldable pub map_from : ℕ → ℕ → List (List ℕ) → Input
map_from place capacity [] = words [] []
map_from place capacity (l ∷ ls) =
    elim (is_map_line l) [
      | false ↦ refused 50 place
      | true ↦
          elim (ltb capacity (length (words_of l))) [
            | true ↦ refused 52 place
            | false ↦ with_registers (words_of l) (map_from (place + 1) (capacity - length (words_of l)) ls)
          ]
    ]

-- The catalog's lines, numbered from `place`, up to the first empty line, and then the map's; with a capacity of `frames` and
-- `registers`. 50: a bad line; 51: no empty line (its place is one after the last line); 52: too many frames.
unfoldable pub catalog_from : ℕ → ℕ → ℕ → List (List ℕ) → Input
catalog_from place frames registers [] = refused 51 place
catalog_from place frames registers (l ∷ ls) =
    elim (eqb (length l) 0) [
      | true ↦ map_from (place + 1) registers ls
      | false ↦
          elim (is_catalog_line l) [
            | false ↦ refused 50 place
            | true ↦
                elim (eqb frames 0) [
                  | true ↦ refused 52 place
                  | false ↦ with_frame (words_of l) (catalog_from (place + 1) (frames - 1) registers ls)
                ]
          ]
    ]

-- A text, with a capacity of `frames` and `registers`. The first faulty line decides.
abbrev pub parsed : List ℕ → ℕ → ℕ → Input
parsed text frames registers = catalog_from 1 frames registers (lines text)

-- A list after the call: the words at its start, and the rest unchanged.
abbrev pub stored : List ℕ → List ℕ → List ℕ
stored ws old = ws ++ drop (length ws) old

-- The catalog's list and the map's list after the call. A refusal changes neither.
abbrev pub stored_catalog : Input → List ℕ → List ℕ
stored_catalog (refused number place) old = old
stored_catalog (words catalog map) old = stored catalog old

abbrev pub stored_map : Input → List ℕ → List ℕ
stored_map (refused number place) old = old
stored_map (words catalog map) old = stored map old
