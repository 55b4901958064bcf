-- Document 01, "The program", clause by clause: texts for each clause of the input and what they give, computed together. The capacity
-- is 2 frames and 5 registers.
use mathlib.Core.Path.{◌≡◌, refl}
use mathlib.Core.List.{List, [], ◌∷◌, ◌++◌, map}
use Prim.Native.Nat.{ℕ}
use lib.ListN.{replicate}
use Rattle.lists.specs.Ascii.{ascii}
use Rattle.input.specs.Lines.{lines}
use Rattle.input.specs.Digits.{digit_value, is_digit, digit_or0, words_of}
use Rattle.input.specs.Parsing.{Input, refused, words, map_from, catalog_from, parsed}

-- A frame's line, and its words.
abbrev pub frame : List ℕ
frame = ascii "0001038400000000000000000000abCD\n"

abbrev pub frame_words : List ℕ
frame_words = 1 ∷ 900 ∷ 0 ∷ 0 ∷ 0 ∷ 0 ∷ 0 ∷ 0xABCD ∷ []

-- n digits 0.
abbrev pub digits : ℕ → List ℕ
digits n = replicate n 48

-- A text, and what it gives.
abbrev pub Case : Type 0
Case = List ℕ × Input

unfoldable pub cases : List Case
cases =
    -- The lines: LF and the end of the text end one, and none follows an LF at the very end.
    (ascii "", refused 51 1)
    ∷ (ascii "\n", words [] [])
    ∷ (ascii "\n\n", refused 50 2)
    ∷ (ascii "\n0000", words [] (0 ∷ []))
    ∷ (ascii "\n0000\n", words [] (0 ∷ []))
    ∷ (ascii "\n0000\n\n", refused 50 3)
    ∷ (ascii "\n\r\n", refused 50 2)
    -- The catalog: 32 digits a line, of any case, and then an empty line.
    ∷ (frame ++ ascii "\n", words frame_words [])
    ∷ (frame ++ frame ++ ascii "\n0000", words (frame_words ++ frame_words) (0 ∷ []))
    ∷ (digits 31 ++ ascii "\n\n", refused 50 1)
    ∷ (digits 33 ++ ascii "\n\n", refused 50 1)
    ∷ (digits 28 ++ ascii "\n\n", refused 50 1)
    ∷ (digits 64 ++ ascii "\n\n", refused 50 1)
    ∷ (digits 31 ++ ascii "g\n\n", refused 50 1)
    ∷ (digits 31 ++ ascii "\r\n\n", refused 50 1)
    ∷ (digits 32 ++ ascii "\r\n\n", refused 50 1)
    ∷ (frame ++ ascii "\r\n", refused 50 2)
    ∷ (frame ++ ascii " \n", refused 50 2)
    -- The map: 4 to 64 digits a line, in fours, of any case.
    ∷ (ascii "\n12aBfF09", words [] (0x12AB ∷ 0xFF09 ∷ []))
    ∷ (ascii "\n0001\n00020003\n0004", words [] (1 ∷ 2 ∷ 3 ∷ 4 ∷ []))
    ∷ (ascii "\n000", refused 50 2)
    ∷ (ascii "\n00000", refused 50 2)
    ∷ (ascii "\n0000\n000G", refused 50 3)
    ∷ (ascii "\n0000 0000", refused 50 2)
    ∷ (ascii "\n" ++ digits 64, refused 52 2)
    ∷ (ascii "\n" ++ digits 65, refused 50 2)
    ∷ (ascii "\n" ++ digits 68, refused 50 2)
    ∷ (ascii "\n" ++ 0 ∷ 48 ∷ 48 ∷ 48 ∷ [], refused 50 2)
    -- The bytes next to the ranges of digits are not digits.
    ∷ (ascii "\n/000", refused 50 2)
    ∷ (ascii "\n0:00", refused 50 2)
    ∷ (ascii "\n00@0", refused 50 2)
    ∷ (ascii "\n000`", refused 50 2)
    -- 51: no empty line; the place is one after the last line.
    ∷ (frame, refused 51 2)
    ∷ (digits 32, refused 51 2)
    ∷ (frame ++ frame, refused 51 3)
    -- 52: too many frames or registers. After a full catalog the empty line may follow.
    ∷ (frame ++ frame ++ ascii "\n", words (frame_words ++ frame_words) [])
    ∷ (frame ++ frame ++ frame ++ ascii "\n", refused 52 3)
    ∷ (ascii "\n" ++ digits 20, words [] (replicate 5 0))
    ∷ (ascii "\n" ++ digits 24, refused 52 2)
    ∷ (ascii "\n" ++ digits 16 ++ ascii "\n0000", words [] (replicate 5 0))
    ∷ (ascii "\n" ++ digits 16 ++ ascii "\n00000000\n", refused 52 3)
    -- The first faulty line decides, and 50 comes before 52 on one line.
    ∷ (frame ++ frame ++ digits 31 ++ ascii "\n", refused 50 3)
    ∷ (frame ++ frame ++ frame ++ ascii "x\n", refused 52 3)
    ∷ (frame ++ frame ++ frame, refused 52 3)
    ∷ (ascii "x\n" ++ frame ++ frame ++ frame, refused 50 1)
    ∷ (ascii "\n" ++ digits 20 ++ ascii "\n000", refused 50 3)
    ∷ (ascii "\n" ++ digits 24 ++ ascii "\n\n", refused 52 2)
    ∷ []

-- Every text gives what its case says.
pub clause_by_clause : map (λ (c : Case). parsed c.0 2 5) cases ≡ map (λ (c : Case). c.1) cases
unfolding cases lines digit_value is_digit digit_or0 words_of map_from catalog_from
clause_by_clause = refl
