-- A model is read by the first definition with its id.
use mathlib.Core.Path.{◌≡◌, refl, sym, ap, ◌∙◌}
use mathlib.Core.Bool.{Bool, true, false}
use mathlib.Core.List.{List, [], ◌∷◌}
use mathlib.Core.Option.{Option, none, some}
use Prim.Native.Nat.{ℕ}
use borrow.Author.Tests.{eqb-false, ne_eqb}
use lib.Dec.{eqb}
use Rattle.lists.specs.Members.{among}
use Rattle.lists.specs.Tests.{kept_by}
use Rattle.lists.proofs.TestLaws.{neither}
use Rattle.model_definitions.specs.Definitions.{Content, Definition}
use Rattle.model_definitions.specs.Soundness.{ids_of}
use Rattle.register_map.specs.Scan.{Model}
use Rattle.layout.specs.Reading.{Reading, unknown, read_by, top_of, reading}

-- Without definitions, a model is unknown.
pub reading_none : (m : Model) → reading [] m ≡ unknown
unfolding top_of reading
reading_none m = refl

-- The first definition reads the model if it has the id, else the others do.
pub reading_first : (d : Definition) (ds : List Definition) (m : Model) → reading (d ∷ ds) m
    ≡ elim (eqb d.id m.id) [ true ↦ read_by m.id d.top m.body | false ↦ reading ds m ]
unfolding top_of reading
reading_first d ds m = go (eqb d.id m.id)
  where
    by : Option Content → Reading
    by o = elim o [ none ↦ unknown | some c ↦ read_by m.id c m.body ]

    go : (b : Bool) → by (elim b [ true ↦ some d.top | false ↦ top_of m.id ds ])
        ≡ elim b [ true ↦ read_by m.id d.top m.body | false ↦ by (top_of m.id ds) ]
    go true = refl
    go false = refl

-- The first definition has the id.
pub reading_here : (d : Definition) (ds : List Definition) (m : Model) → eqb d.id m.id ≡ true
    → reading (d ∷ ds) m ≡ read_by m.id d.top m.body
reading_here d ds m e =
    reading_first d ds m ∙ ap (λ b. elim b [ true ↦ read_by m.id d.top m.body | false ↦ reading ds m ]) e

-- The first definition does not have the id.
pub reading_later : (d : Definition) (ds : List Definition) (m : Model) → eqb d.id m.id ≡ false
    → reading (d ∷ ds) m ≡ reading ds m
reading_later d ds m e =
    reading_first d ds m ∙ ap (λ b. elim b [ true ↦ read_by m.id d.top m.body | false ↦ reading ds m ]) e

-- A test that two numbers are equal is symmetric.
other_way : (a b : ℕ) → eqb a b ≡ false → eqb b a ≡ false
other_way a b e = ne_eqb b a (λ q. eqb-false a b e (sym q))

-- A model whose id no definition has is unknown, whichever definitions are kept.
pub unknown_left : (choice : List Bool) (ds : List Definition) (m : Model) → among m.id (ids_of ds) ≡ false
    → reading (kept_by choice ds) m ≡ unknown
unknown_left [] [] m e = reading_none m
unknown_left [] (d ∷ ds) m e =
    let h = (neither (eqb m.id d.id) (among m.id (ids_of ds))).0 e in
    reading_later d ds m (other_way m.id d.id h.0) ∙ unknown_left [] ds m h.1
unknown_left (c ∷ choice) [] m e = reading_none m
unknown_left (true ∷ choice) (d ∷ ds) m e =
    let h = (neither (eqb m.id d.id) (among m.id (ids_of ds))).0 e in
    reading_later d (kept_by choice ds) m (other_way m.id d.id h.0) ∙ unknown_left choice ds m h.1
unknown_left (false ∷ choice) (d ∷ ds) m e =
    unknown_left choice ds m ((neither (eqb m.id d.id) (among m.id (ids_of ds))).0 e).1
