-- Document 01, "The program": a text as lines of bytes.
use Rattle.std.specs.Prelude.{true, false, List, [], ◌∷◌, ℕ, eqb}
use Prim.Native.Char.{code}

-- LF, the byte that ends a line.
abbrev pub line_feed : ℕ
line_feed = code "\n"

-- The lines with a byte added at the start of the first one. If there is no line, the byte begins one.
abbrev pub with_byte : ℕ → List (List ℕ) → List (List ℕ)
with_byte b [] = (b ∷ []) ∷ []
with_byte b (l ∷ ls) = (b ∷ l) ∷ ls

-- The lines of a text: LF ends a line, and so does the end of the text. After an LF at the very end there is no line.
unfoldable pub lines : List ℕ → List (List ℕ)
lines [] = []
lines (b ∷ bs) = elim (eqb b line_feed) [ true ↦ [] ∷ lines bs | false ↦ with_byte b (lines bs) ]
