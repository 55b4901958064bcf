-- Document 01, "The program": the text of a listing and of a refusal. Text is a list of ASCII codes.
use Rattle.std.specs.Prelude.{List, [], ◌∷◌, ◌++◌, ℕ, length}
use Prim.Native.Char.{code}
use Rattle.lists.specs.Ascii.{ascii}
use Rattle.display.specs.Decimals.{digits_of}
use Rattle.listing.specs.Listing.{Record, record_numbers}
use Rattle.input.specs.Lines.{line_feed}

-- Numbers as a line: one space between them, and LF after the last.
unfoldable pub numbers_line : List ℕ → List ℕ
numbers_line [] = line_feed ∷ []
numbers_line (n ∷ []) = digits_of n ++ line_feed ∷ []
numbers_line (n ∷ m ∷ ns) = digits_of n ++ code " " ∷ numbers_line (m ∷ ns)

-- A line for each record, with its ten numbers.
unfoldable pub record_lines : List Record → List ℕ
record_lines [] = []
record_lines (r ∷ rs) = numbers_line (record_numbers r) ++ record_lines rs

-- A listing: `points`, their count, `headers`, their count; then a line for each record.
unfoldable pub listing_text : List Record → ℕ → List ℕ
listing_text rs headers =
    ascii "points " ++ digits_of (length rs) ++ ascii " headers " ++ digits_of headers ++ line_feed ∷ record_lines rs

-- The word that opens a refusal's line, with its space.
abbrev pub refused_word : List ℕ
refused_word = ascii "refused "

-- The rest of the line: `N at P` and LF, for the refusal's number and its place.
unfoldable pub refusal_text : ℕ → ℕ → List ℕ
refusal_text number place = digits_of number ++ ascii " at " ++ digits_of place ++ line_feed ∷ []
