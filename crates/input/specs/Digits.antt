-- Document 01, "The program": hexadecimal digits of any case, four a word.
use Rattle.std.specs.Prelude.{Bool, true, false, ◌&&◌, List, [], ◌∷◌, ℕ, ◌+◌, ◌-◌, ◌*◌, leb}
use Rattle.std.proofs.Math.Option.{Option, none, some}
use Prim.Native.Char.{Char, code}
use Rattle.lists.specs.Tests.{every}

-- Is byte b one of the characters from `first` to `last`?
abbrev pub is_between : Char → Char → ℕ → Bool
is_between first last b = leb (code first) b && leb b (code last)

-- The value of a digit; other bytes have none.
unfoldable pub digit_value : ℕ → Option ℕ
digit_value b =
    elim (is_between "0" "9" b) [
      | true ↦ some (b - code "0")
      | false ↦
          elim (is_between "A" "F" b) [
            | true ↦ some (b - code "A" + 10)
            | false ↦ elim (is_between "a" "f" b) [ true ↦ some (b - code "a" + 10) | false ↦ none ]
          ]
    ]

-- Is the byte a digit?
unfoldable pub is_digit : ℕ → Bool
is_digit b = elim (digit_value b) [ some v ↦ true | none ↦ false ]

-- Are all these bytes digits?
abbrev pub are_digits : List ℕ → Bool
are_digits bs = every is_digit bs

-- The value of a digit, and 0 for any other byte.
unfoldable pub digit_or0 : ℕ → ℕ
digit_or0 b = elim (digit_value b) [ some v ↦ v | none ↦ 0 ]

-- The word of four digits, the first the highest.
abbrev pub word : ℕ → ℕ → ℕ → ℕ → ℕ
word a b c d = ((digit_or0 a * 16 + digit_or0 b) * 16 + digit_or0 c) * 16 + digit_or0 d

-- The words of a line, four digits a word. (It is used only for lines of digits in fours.)
unfoldable pub words_of : List ℕ → List ℕ
words_of (a ∷ b ∷ c ∷ d ∷ bs) = word a b c d ∷ words_of bs
words_of (a ∷ b ∷ c ∷ []) = []
words_of (a ∷ b ∷ []) = []
words_of (a ∷ []) = []
words_of [] = []
