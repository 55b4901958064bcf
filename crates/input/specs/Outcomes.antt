-- Document 01, "The program": all that a text can give.
use Rattle.std.specs.Prelude.{◌≡◌, List, ℕ, ◌+◌, ◌*◌, ◌≤◌, length}
use Rattle.input.specs.Parsing.{Input, refused, words}

-- The outcomes for a text of `count` lines and a capacity of `frames` and `registers`. The place of 50 and 52 is one of the lines, that
-- of 51 is one more than the number of lines. The catalog is k frames of eight words.
pub data Outcome (count frames registers : ℕ) : Input → Type 0 where
  bad_line : (place : ℕ) → 1 ≤ place → place ≤ count → Outcome count frames registers (refused 50 place)
  no_empty_line : (place : ℕ) → place ≡ count + 1 → Outcome count frames registers (refused 51 place)
  too_many : (place : ℕ) → 1 ≤ place → place ≤ count → Outcome count frames registers (refused 52 place)
  given : (catalog map : List ℕ) (k : ℕ) → length catalog ≡ 8 * k → k ≤ frames → length map ≤ registers
      → Outcome count frames registers (words catalog map)
