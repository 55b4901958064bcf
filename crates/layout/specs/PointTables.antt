-- The table of the points in scope: the first register of each point, by the point's number.
use Rattle.std.specs.Prelude.{true, false, List, [], ◌∷◌, ℕ, ◌+◌, ltb, get_or, set}
use Rattle.catalog_frames.specs.Frames.{Point}
use Rattle.layout.specs.Points.{Scope}

-- The scope that is recorded in `table`: the entry of each number, 0 where the table lacks it.
abbrev pub scope_in : List ℕ → Scope
scope_in table n = get_or table n 0

-- The table after recording the first registers of the points placed from `offset` in `body`. A number that the table lacks is
-- skipped.
unfoldable pub table_with : List ℕ → ℕ → List Point → List ℕ → List ℕ
table_with body offset [] table = table
table_with body offset (p ∷ ps) table = table_with body (offset + p.size) ps (set table p.number (get_or body offset 0))

-- The points, placed from `offset`, that begin before the end of a body of `len` registers. (Of a model that is read: all of
-- its top points, or all but a pad that is left out.)
unfoldable pub present_within : ℕ → ℕ → List Point → List Point
present_within len offset [] = []
present_within len offset (p ∷ ps) = elim (ltb offset len) [ true ↦ p ∷ present_within len (offset + p.size) ps | false ↦ [] ]
