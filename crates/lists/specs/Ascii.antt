-- Texts as lists of bytes.
use Rattle.std.specs.Prelude.{List, [], ◌∷◌, ℕ}
use Prim.Native.Char.{code}
use Prim.Native.String.{String, [] as no_characters, ◌∷◌ as ◌then◌}

-- The bytes of a text of ASCII characters.
abbrev pub ascii : String → List ℕ
ascii no_characters = []
ascii (c then cs) = code c ∷ ascii cs
