-- Writes made one after the other by one catalog (change request 3): the map after them, and what each of them returns.
use Rattle.std.specs.Prelude.{Bool, ◌&&◌, List, ℕ, eqb, get_or}
use Rattle.lists.specs.Runs.{state_after, Handled, handled}
use Rattle.writing.specs.Writing.{Answer, writing, map_after, Result, result}

-- A write: the index of the model, the number and the instance path of the point, and the raw value.
pub record Write : Type 0 where
  pub index : ℕ
  pub number : ℕ
  pub path : List ℕ
  pub raw : ℕ

-- Are two writes to the same point? Their model index, point number and three instance numbers agree. There may be no such point.
abbrev pub same_point : Write → Write → Bool
same_point u v =
    eqb u.index v.index
    && (eqb u.number v.number
    && (eqb (get_or u.path 0 0) (get_or v.path 0 0)
    && (eqb (get_or u.path 1 0) (get_or v.path 1 0)
    && eqb (get_or u.path 2 0) (get_or v.path 2 0))))

-- ---- One write

-- What it results in: a refusal, or the new map.
abbrev pub write_answer : List ℕ → List ℕ → Write → Answer
write_answer catalog map w = writing catalog map w.index w.number w.path w.raw

-- What it returns: the refusal, or that the point is written.
abbrev pub write_result : List ℕ → List ℕ → Write → Result
write_result catalog map w = result (write_answer catalog map w)

-- The map after it: the new map, or the same map if it is refused.
abbrev pub map_after_write : List ℕ → List ℕ → Write → List ℕ
map_after_write catalog map w = map_after (write_answer catalog map w) map

-- ---- A list of writes, the first of which is made to `map`

-- The map after all of them. Refused writes are members of the list like any other.
abbrev pub map_after_writes : List ℕ → List ℕ → List Write → List ℕ
map_after_writes catalog = state_after (map_after_write catalog)

-- Each write with what it returns, by the map that the writes before it left.
abbrev pub write_results : List ℕ → List ℕ → List Write → List (Handled Write Result)
write_results catalog = handled (map_after_write catalog) (write_result catalog)
