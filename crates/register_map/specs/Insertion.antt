-- Models inserted into a map (document 01, "The map", on models put in): a gap is right after a model and may take several.
use Rattle.std.specs.Prelude.{true, false, List, [], ◌∷◌, ◌++◌, ℕ, zero, suc, ◌+◌, leb, take, drop}
use Rattle.register_map.specs.Scan.{Model, size_of, total_size, scan, model_registers}

-- A model of the lengthened map: it was there before, or it is inserted.
pub data Placed : Type 0 where
  kept : Model → Placed
  inserted : Model → Placed

-- The models of the lengthened map.
abbrev pub all_models : List Placed → List Model
all_models [] = []
all_models (kept m ∷ ps) = m ∷ all_models ps
all_models (inserted m ∷ ps) = m ∷ all_models ps

-- The models of a gap, followed by the models after it.
abbrev pub with_inserted : List Model → List Placed → List Placed
with_inserted [] ps = ps
with_inserted (m ∷ ms) ps = inserted m ∷ with_inserted ms ps

-- Each model followed by the models of its gap, in order. Gaps past the last model are ignored; if there are fewer gaps than
-- models, nothing is inserted after the last models.
unfoldable pub placed : List Model → List (List Model) → List Placed
placed [] gaps = []
placed (m ∷ ms) [] = kept m ∷ placed ms []
placed (m ∷ ms) (gap ∷ gaps) = kept m ∷ with_inserted gap (placed ms gaps)

-- The map with the models of the gaps inserted: its first two registers, all the models, and what followed its last model.
unfoldable pub lengthened : List ℕ → List (List Model) → List ℕ
lengthened map gaps =
    take 2 map
    ++ model_registers (all_models (placed (scan map).models gaps))
    ++ drop (total_size (scan map).models) (drop 2 map)

-- The inserted models among `ps`, which begin at address `at` of the lengthened map, whose addresses are lower than `address`
-- (what document 01 means by an inserted model before a point or a header).
unfoldable pub before : ℕ → List Placed → ℕ → List Model
before at [] address = []
before at (kept m ∷ ps) address = before (at + size_of m) ps address
before at (inserted m ∷ ps) address =
    elim (leb (at + size_of m) address) [
      | true ↦ m ∷ before (at + size_of m) ps address
      | false ↦ before (at + size_of m) ps address
    ]

-- The models of all gaps before model n, counted from 0: the first n gaps.
unfoldable pub gaps_before : ℕ → List (List Model) → List Model
gaps_before zero gaps = []
gaps_before (suc n) [] = []
gaps_before (suc n) (gap ∷ gaps) = gap ++ gaps_before n gaps
