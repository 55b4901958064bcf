-- The points of a model, as an accepted catalog reads them, are in the model, and there are no more of them than registers.
use mathlib.Core.Path.{◌≡◌, sym, ◌∙◌}
use mathlib.Core.List.{List, [], ◌∷◌}
use Prim.Native.Nat.{ℕ, ◌≤◌}
use native.Mathlib.Omega.{arith}
use lib.Dec.{eqb}
use lib.ListN.{length}
use Rattle.lists.specs.Each.{Each}
use Rattle.lists.proofs.TestOutcomes.{impossible, by_test}
use Rattle.lists.proofs.EachLaws.{each_any}
use Rattle.catalog.specs.Checking.{accepted, checked}
use Rattle.model_definitions.specs.Definitions.{Definition, definitions}
use Rattle.model_definitions.specs.Soundness.{SoundDefinition}
use Rattle.model_definitions.proofs.AcceptedIsSound.{accepted_is_sound}
use Rattle.register_map.specs.Scan.{Model}
use Rattle.layout.specs.Points.{ModelPoint}
use Rattle.layout.specs.Reading.{Reading, points, reading}
use Rattle.layout.specs.InternalWalks.{Accepted}
use Rattle.layout.specs.Tiling.{BodyTiled}
use Rattle.layout.proofs.ReadingSteps.{reading_none, reading_first}
use Rattle.layout.proofs.BodyTiling.{read_tiled}
use Rattle.layout.proofs.TiledApart.{few, inside}

-- The points that sound definitions read fill the body, by one of the definitions.
reading_tiled : (ds : List Definition) → Each SoundDefinition ds → (m : Model) (ps : List ModelPoint)
    → reading ds m ≡ points ps → (d : Definition) × BodyTiled d (length m.body) ps
reading_tiled [] s m ps e = let n = sym (reading_none m) ∙ e in impossible (cc)
reading_tiled (d ∷ ds) s m ps e =
    by_test (λ r. r ≡ points ps → (d : Definition) × BodyTiled d (length m.body) ps) (eqb d.id m.id)
    (λ t e. (d, read_tiled d s.0 m.id m.body ps e)) (λ t. reading_tiled ds s.1 m ps) (sym (reading_first d ds m) ∙ e)

-- So do the points that an accepted catalog reads.
pub accepted_tiled : (catalog : List ℕ) (n : ℕ) → checked catalog ≡ accepted n → (m : Model) (ps : List ModelPoint)
    → reading (definitions catalog) m ≡ points ps → (d : Definition) × BodyTiled d (length m.body) ps
accepted_tiled catalog n e = reading_tiled (definitions catalog) (accepted_is_sound catalog n e).0.each

-- The points of a reading are in the model: none begins past the model's end.
abbrev pub Inside : (Model → Reading) → Type 0
Inside read = (m : Model) (ps : List ModelPoint) → read m ≡ points ps → Each (λ p. p.offset ≤ length m.body) ps

pub accepted_inside : (catalog : List ℕ) (n : ℕ) → checked catalog ≡ accepted n → Inside (reading (definitions catalog))
accepted_inside catalog n e m ps r =
    let b = (accepted_tiled catalog n e m ps r).1 in
    each_any (λ p. p.offset ≤ length m.body) ps (λ p i.
    let k = inside (λ p. p.offset) (λ p. p.definition.size) 0 (length m.body) ps b.tiles p i in omega (arith, k.2))

-- A model has no more points than registers.
pub points_few : (ws : List ℕ) → Accepted ws → (m : Model) (ps : List ModelPoint) → reading (definitions ws) m ≡ points ps
    → length ps ≤ length m.body
points_few ws a m ps r =
    let b = (accepted_tiled ws a.0 a.1 m ps r).1 in
    omega (arith, few (λ p. p.offset) (λ p. p.definition.size) 0 (length m.body) ps b.tiles)
