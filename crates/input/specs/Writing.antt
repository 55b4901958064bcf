-- A catalog and a register map written as a text. (No code writes such texts; they show that every catalog and map has one.)
use Rattle.std.specs.Prelude.{true, false, List, [], ◌∷◌, ◌++◌, ℕ, zero, suc, ◌+◌, ◌-◌, ◌/◌, ◌%◌, ltb, length, take, drop}
use Prim.Native.Char.{code}
use Rattle.input.specs.Lines.{line_feed}

-- The digit of a value from 0 to 15.
abbrev pub hex_digit : ℕ → ℕ
hex_digit v = elim (ltb v 10) [ true ↦ v + code "0" | false ↦ v - 10 + code "A" ]

-- The digits of words, four a word, the highest first.
abbrev pub hex_digits : List ℕ → List ℕ
hex_digits [] = []
hex_digits (w ∷ ws) =
    hex_digit (w / 4096) ∷ hex_digit (w / 256 % 16) ∷ hex_digit (w / 16 % 16) ∷ hex_digit (w % 16) ∷ hex_digits ws

-- The words as `count` lines of `width` words each; the last line may be shorter.
unfoldable pub lines_of_words : ℕ → ℕ → List ℕ → List ℕ
lines_of_words zero width ws = []
lines_of_words (suc count) width ws = hex_digits (take width ws) ++ line_feed ∷ lines_of_words count width (drop width ws)

-- The text: the catalog, one frame of 8 words a line; an empty line; the map, 16 registers a line.
abbrev pub written : List ℕ → List ℕ → List ℕ
written catalog map = lines_of_words (length catalog / 8) 8 catalog ++ line_feed ∷ lines_of_words ((length map + 15) / 16) 16 map
