-- The reading of a model by the remaining definitions: the same as by all of them if its definition is kept, else unknown.
use mathlib.Core.Path.{◌≡◌, refl, sym, ap, ◌∙◌}
use mathlib.Core.Bool.{Bool, true, false}
use mathlib.Core.List.{List, [], ◌∷◌}
use borrow.Author.Tests.{eqb-true}
use lib.Dec.{eqb}
use Rattle.lists.specs.Members.{Distinct}
use Rattle.lists.specs.Tests.{kept_by}
use Rattle.model_definitions.specs.Definitions.{Definition}
use Rattle.model_definitions.specs.Soundness.{ids_of}
use Rattle.register_map.specs.Scan.{Model}
use Rattle.layout.specs.Reading.{Reading, unknown, read_by, reading}
use Rattle.layout.proofs.ReadingSteps.{reading_first, unknown_left}
use Rattle.stability.specs.Removed.{keeps_id}

-- A reading if the definition is kept, else unknown.
abbrev pub reading_if : Bool → Reading → Reading
reading_if true r = r
reading_if false r = unknown

-- The remaining definitions read a model as all of them do if the definition of its id is kept; else it is unknown.
pub reading_after_removal : (choice : List Bool) (ds : List Definition) (m : Model) → Distinct (ids_of ds)
    → reading (kept_by choice ds) m ≡ reading_if (keeps_id choice ds m.id) (reading ds m)
unfolding keeps_id
reading_after_removal [] ds m distinct = refl
reading_after_removal (c ∷ choice) [] m distinct = refl
reading_after_removal (true ∷ choice) (d ∷ ds) m distinct =
    reading_first d (kept_by choice ds) m
    ∙ go (eqb d.id m.id) (reading_after_removal choice ds m distinct.1)
    ∙ sym (ap (reading_if (keeps_id (true ∷ choice) (d ∷ ds) m.id)) (reading_first d ds m))
  where
    go : (b : Bool) → reading (kept_by choice ds) m ≡ reading_if (keeps_id choice ds m.id) (reading ds m)
        → elim b [ true ↦ read_by m.id d.top m.body | false ↦ reading (kept_by choice ds) m ]
        ≡ reading_if (elim b [ true ↦ true | false ↦ keeps_id choice ds m.id ])
        (elim b [ true ↦ read_by m.id d.top m.body | false ↦ reading ds m ])
    go true h = refl
    go false h = h
reading_after_removal (false ∷ choice) (d ∷ ds) m distinct =
    go (eqb d.id m.id) refl (reading_after_removal choice ds m distinct.1)
    ∙ sym (ap (reading_if (keeps_id (false ∷ choice) (d ∷ ds) m.id)) (reading_first d ds m))
  where
    go : (b : Bool) → eqb d.id m.id ≡ b
        → reading (kept_by choice ds) m ≡ reading_if (keeps_id choice ds m.id) (reading ds m)
        → reading (kept_by choice ds) m
        ≡ reading_if (elim b [ true ↦ false | false ↦ keeps_id choice ds m.id ])
        (elim b [ true ↦ read_by m.id d.top m.body | false ↦ reading ds m ])
    go true e h =
        let same = eqb-true d.id m.id e in
        unknown_left choice ds m (rw (sym same) distinct.0)
    go false e h = h
