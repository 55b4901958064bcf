-- The models of an accepted catalog, looked up by their ids.
use mathlib.Core.Path.{◌≡◌, refl, ap, subst, ◌∙◌}
use mathlib.Core.Bool.{Bool, true, false}
use mathlib.Core.List.{List, [], ◌∷◌}
use mathlib.Core.Option.{none, some}
use Prim.Native.Nat.{ℕ, ◌/◌, ◌≤◌}
use borrow.Author.Tests.{eqb-true}
use lib.Dec.{eqb}
use lib.ListN.{length}
use Rattle.lists.specs.Each.{Each}
use Rattle.lists.proofs.TestOutcomes.{impossible}
use Rattle.model_definitions.specs.Definitions.{Content, Definition, definitions}
use Rattle.model_definitions.specs.Soundness.{SoundPoint, SoundGroups, SoundDefinition}
use Rattle.model_definitions.proofs.AcceptedSteps.{accepted_start}
use Rattle.model_definitions.proofs.AcceptedIsSound.{accepted_is_sound}
use Rattle.register_map.specs.Scan.{Model}
use Rattle.layout.specs.Reading.{unknown, read_by, reading, top_of}
use Rattle.layout.specs.InternalWalks.{Accepted}

-- An accepted catalog has at most 4,096 frames.
pub accepted_few : (ws : List ℕ) → Accepted ws → length ws / 8 ≤ 4096
accepted_few ws a = ((accepted_start ws a.0).0 a.1).1

-- A definition that is found by its id is one of these.
found : (P : Definition → Type 0) (ds : List Definition) (id : ℕ) (c : Content) → Each P ds → top_of id ds ≡ some c
    → (d : Definition) × P d × (d.id ≡ id) × (d.top ≡ c)
unfolding top_of
found P [] id c s e = impossible (cc)
found P (d ∷ ds) id c s e = go (eqb d.id id) refl (found P ds id c s.1) e
  where
    go : (b : Bool) → eqb d.id id ≡ b → (top_of id ds ≡ some c → (d : Definition) × P d × (d.id ≡ id) × (d.top ≡ c))
        → elim b [ true ↦ some d.top | false ↦ top_of id ds ] ≡ some c
        → (d : Definition) × P d × (d.id ≡ id) × (d.top ≡ c)
    go true q rest f = (d, s.0, eqb-true d.id id q, cc)
    go false q rest f = rest f

-- A definition of an accepted catalog that is found by its id is sound.
pub top_sound : (ws : List ℕ) (id : ℕ) (c : Content) → Accepted ws → top_of id (definitions ws) ≡ some c
    → (d : Definition) × SoundDefinition d × (d.id ≡ id) × (d.top ≡ c)
top_sound ws id c a e = found SoundDefinition (definitions ws) id c (accepted_is_sound ws a.0 a.1).0.each e

-- So are its points and its groups.
pub top_points_sound : (ws : List ℕ) (id : ℕ) (c : Content) → Accepted ws → top_of id (definitions ws) ≡ some c
    → Each (SoundPoint c.points) c.points
top_points_sound ws id c a e =
    let d = top_sound ws id c a e in subst (λ t. Each (SoundPoint t.points) t.points) d.3 d.1.points

pub top_groups_sound : (ws : List ℕ) (id : ℕ) (c : Content) → Accepted ws → top_of id (definitions ws) ≡ some c
    → SoundGroups c.points c.points 2 c.groups
top_groups_sound ws id c a e =
    let d = top_sound ws id c a e in subst (λ t. SoundGroups t.points t.points 2 t.groups) d.3 d.1.groups

-- The reading of a model, by the definition that is found by its id.
reading_top : (ds : List Definition) (m : Model)
    → reading ds m ≡ elim (top_of m.id ds) [ none ↦ unknown | some c ↦ read_by m.id c m.body ]
unfolding reading
reading_top ds m = refl

-- A model is read by the definition that is found by its id,
pub read_known : (ds : List Definition) (id : ℕ) (body : List ℕ) (c : Content) → top_of id ds ≡ some c
    → reading ds (record { id = id; body = body }) ≡ read_by id c body
read_known ds id body c e =
    reading_top ds (record { id = id; body = body }) ∙ ap (λ o. elim o [ none ↦ unknown | some t ↦ read_by id t body ]) e

-- and is unknown if none is found.
pub read_unknown : (ds : List Definition) (id : ℕ) (body : List ℕ) → top_of id ds ≡ none
    → reading ds (record { id = id; body = body }) ≡ unknown
read_unknown ds id body e =
    reading_top ds (record { id = id; body = body }) ∙ ap (λ o. elim o [ none ↦ unknown | some t ↦ read_by id t body ]) e
