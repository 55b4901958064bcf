-- The points of one model, as its definition places them, fill its body.
use mathlib.Core.Path.{◌≡◌, refl, subst}
use mathlib.Core.List.{List, [], ◌∷◌, ◌++◌}
use Prim.Native.Nat.{ℕ, ◌+◌, ◌≤◌}
use native.Mathlib.Nat.{zero-add}
use native.Mathlib.Omega.{arith}
use lib.ListN.{length}
use Rattle.lists.specs.Each.{Each}
use Rattle.lists.specs.Members.{In}
use Rattle.lists.proofs.EachLaws.{each_parts}
use Rattle.lists.proofs.InLaws.{all_in}
use Rattle.catalog_frames.specs.Frames.{Point, Head}
use Rattle.model_definitions.specs.Definitions.{Groups, Definition, points_size}
use Rattle.model_definitions.specs.Soundness.{SoundDefinition}
use Rattle.model_definitions.proofs.GroupSizes.{point_size}
use Rattle.layout.specs.Points.{ModelPoint, Instance, point_at}
use Rattle.layout.specs.Layout.{groups_size, counts_of, top_instance, points_at, Entering, groups_by, groups_at, entered, content_at}
use Rattle.layout.specs.Reading.{points, all_but_last, read_by}
use Rattle.layout.specs.Tiling.{lower_points, defined_points, Tiles, PointsTile, BodyTiled}
use Rattle.layout.proofs.InstanceLaws.{of_groups}
use Rattle.layout.proofs.LeftOutPad.{without_pad, each_but_last, left_out}
use Rattle.layout.proofs.ListedPoints.{all_sound, listed_by}
use Rattle.layout.proofs.Readings.{by_reading}
use Rattle.layout.proofs.Sizes.{full_size}

-- Two tilings, one after the other, are a tiling.
pub tiles_append : {A : Type 0} (at size : A → ℕ) (from mid to : ℕ) (xs ys : List A)
    → Tiles at size from mid xs → Tiles at size mid to ys → Tiles at size from to (xs ++ ys)
tiles_append at size from mid to [] ys t u = rw t u
tiles_append at size from mid to (x ∷ xs) ys t u = (t.0, t.1, tiles_append at size (from + size x) mid to xs ys t.2 u)

-- A point takes at least one register.
abbrev Sized : Point → Type 0
Sized p = 1 ≤ p.size

-- The points of any instance tile its own registers.
points_tile : (body : List ℕ) (i : Instance) (offset : ℕ) (ps : List Point) → Each Sized ps
    → PointsTile offset (offset + points_size ps) (points_at body i offset ps)
unfolding points_at point_at
points_tile body i offset [] e = omega arith
points_tile body i offset (p ∷ ps) e =
    let q : offset + p.size + points_size ps ≡ offset + (p.size + points_size ps) = omega arith in (
      refl,
      e.0,
      subst (λ to. PointsTile (offset + p.size) to (points_at body i (offset + p.size) ps)) q
          (points_tile body i (offset + p.size) ps e.1),
    )

-- The points of groups tile the registers of the groups.
groups_tile : (enter : Entering) (body : List ℕ) (count : Head → ℕ) (level : ℕ) (i : Instance) (offset : ℕ) (g : Groups)
    → Each Sized (lower_points g) → PointsTile offset (offset + groups_size count g) (groups_by enter body count level i offset g)
groups_tile enter body count =
    of_groups PointsTile (λ a. refl) (tiles_append (λ p. p.offset) (λ p. p.definition.size)) enter body count Sized
    (points_tile body)

-- The points of the top group tile its registers.
top_tile : (body : List ℕ) (i : Instance) (ps : List Point) → Each Sized ps → PointsTile 0 (points_size ps) (points_at body i 0 ps)
top_tile body i ps e =
    subst (λ to. PointsTile 0 to (points_at body i 0 ps)) (zero-add (points_size ps)) (points_tile body i 0 ps e)

-- The points of a model that a sound definition reads fill its body.
pub read_tiled : (d : Definition) → SoundDefinition d → (id : ℕ) (body : List ℕ) (ps : List ModelPoint)
    → read_by id d.top body ≡ points ps → BodyTiled d (length body) ps
unfolding content_at
read_tiled d s id body ps e =
    let c = d.top in
    let L = all_but_last c.points in
    let sized = all_sound Sized (λ around p q. (point_size around p q).0) d s in
    let parts = each_parts Sized c.points (lower_points c.groups) sized in
    let count = counts_of c body in
    let top = top_instance c.points body in
    let own = points_at body top 0 c.points in
    let lower = groups_at body count 2 top (points_size c.points) c.groups in
    let size = points_size c.points + groups_size count c.groups in
    record {
      defined = listed_by (λ p. In p (defined_points d)) body d (all_in (defined_points d)) id ps e;
      tiles = by_reading id c body (PointsTile 0 (length body)) (λ t.
          let l = left_out id c (length body) t in
          let w = without_pad c.points c.points s.points l.1 in
          let same : points_size L ≡ length body = omega (arith, w, l.2) in
          subst (λ to. PointsTile 0 to (points_at body (top_instance L body) 0 L)) same
          (top_tile body (top_instance L body) L (each_but_last Sized c.points parts.0)))
          (λ t f.
          subst (λ to. PointsTile 0 to (own ++ lower)) (full_size c.points c.points c body s.groups f.fitting)
          (tiles_append (λ p. p.offset) (λ p. p.definition.size) 0 (points_size c.points) size own lower
          (top_tile body top c.points parts.0)
          (groups_tile (entered body) body count 2 top (points_size c.points) c.groups parts.1))) ps e;
    }
