-- Internal: contracts of private functions; no public contract cites this file.
use Rattle.std.specs.Prelude.{◌≡◌, Bool, true, false, List, [], ◌∷◌, ℕ, zero, suc, ◌+◌, ◌*◌, ◌≤◌, ◌<◌, eqb, length}
use Rattle.refusals.specs.declared.Refused.{Refused}
use Rattle.refusals.specs.Refusals.{number}
use Rattle.input.specs.Lines.{lines, line_feed}
use Rattle.input.specs.Digits.{word}
use Rattle.input.specs.Parsing.{Input, refused, with_frame, with_registers, map_from, parsed}

-- The input that a refusal makes.
abbrev pub to_spec_refused : Refused → Input
to_spec_refused r = refused (number r.refusal) r.place

-- A text that has a line: `line` is its first line, and `after` the text after that line.
pub record SplitsInto (text line after : List ℕ) : Type 0 where
  pub same_lines : lines text ≡ line ∷ lines after
  pub shorter : length after < length text

-- A text without the LF that it may begin with.
abbrev pub without_feed : List ℕ → List ℕ
without_feed [] = []
without_feed (b ∷ bs) = elim (eqb b line_feed) [ true ↦ bs | false ↦ b ∷ bs ]

-- The word of the first four digits, and then what `next` gives for the text after them; nothing for fewer than four.
unfoldable pub word_then : (List ℕ → List ℕ) → List ℕ → List ℕ
word_then next (a ∷ b ∷ c ∷ d ∷ bs) = word a b c d ∷ next bs
word_then next (a ∷ b ∷ c ∷ []) = []
word_then next (a ∷ b ∷ []) = []
word_then next (a ∷ []) = []
word_then next [] = []

-- The first n words of the digits of a text, or all if it has fewer. A line feed before a word is skipped.
unfoldable pub words_from : ℕ → List ℕ → List ℕ
words_from zero text = []
words_from (suc n) text = word_then (words_from n) (without_feed text)

-- A line of `amount` frames or registers, where there is room for `room`.
pub record GoodLine (is_good : Bool) (amount room : ℕ) : Type 0 where
  pub good : is_good ≡ true
  pub fits : amount ≤ room

-- Why line `place` is refused: 50 if it is bad; else 52 if there is no room for it.
pub data BadLine (is_good : Bool) (amount room place : ℕ) : Input → Type 0 where
  bad : is_good ≡ false → BadLine is_good amount room place (refused 50 place)
  full : is_good ≡ true → room < amount → BadLine is_good amount room place (refused 52 place)

-- `count` frames were found before the lines that are left. The text gives these frames and what `left`, the rest of the lines, gives.
pub record FramesFound (text : List ℕ) (capacity count : ℕ) (left : ℕ → Input) : Type 0 where
  pub catalog : List ℕ
  pub full : length catalog ≡ count * 8
  pub fits : count ≤ capacity
  pub rest : (registers : ℕ) → parsed text capacity registers ≡ with_frame catalog (left registers)

-- `count` frames were found before the empty line, and `map` is the text after it.
abbrev pub CatalogFound : List ℕ → ℕ → ℕ → List ℕ → Type 0
CatalogFound text capacity count map =
    FramesFound text capacity count (λ registers. map_from (count + 2) registers (lines map)) × (count + length map < length text)

-- The text is refused, whatever the capacity for registers.
abbrev pub CatalogRefused : List ℕ → ℕ → Refused → Type 0
CatalogRefused text capacity r = (registers : ℕ) → parsed text capacity registers ≡ to_spec_refused r

-- `count` registers were found before the lines that are left.
pub record RegistersFound (all : Input) (capacity count : ℕ) (left : Input) : Type 0 where
  pub map : List ℕ
  pub full : length map ≡ count
  pub fits : count ≤ capacity
  pub rest : all ≡ with_registers map left
