-- Document 01, "The program": an input that breaks off. What its first bytes give, against what the whole input gives.
use Rattle.std.specs.Prelude.{List, ◌++◌, ℕ}
use Rattle.input.specs.Parsing.{Input, refused, words}

-- `Continued part whole`: the part is refused; or the whole is refused, for a bad line (50) or for too many frames or registers (52);
-- or both give the same catalog, and the whole gives the part's map with `more` registers after it.
pub data Continued : Input → Input → Type 0 where
  part_refused : {number place : ℕ} {x : Input} → Continued (refused number place) x
  bad_line : (place : ℕ) {x : Input} → Continued x (refused 50 place)
  too_many : (place : ℕ) {x : Input} → Continued x (refused 52 place)
  further : (catalog map more : List ℕ) → Continued (words catalog map) (words catalog (map ++ more))
