-- Document 01, "The program": an input that breaks off.
use Rattle.std.specs.Prelude.{ℕ}
use Rattle.listing.specs.Listing.{Answer, refused}

-- The answer is the refusal of a line: a bad line (50), or too many frames or registers (52).
pub data RefusedAtLine : Answer → Type 0 where
  bad_line : (place : ℕ) → RefusedAtLine (refused 50 place 0)
  too_many : (place : ℕ) → RefusedAtLine (refused 52 place 0)
