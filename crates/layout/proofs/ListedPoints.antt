-- Each point of a model has its definition in the catalog, so what holds of the definition's points holds of these.
use mathlib.Core.Path.{◌≡◌}
use mathlib.Core.Bool.{true}
use mathlib.Core.List.{List, [], ◌∷◌, ◌++◌}
use Prim.Native.Nat.{ℕ, suc, ◌+◌}
use Rattle.lists.specs.Each.{Each}
use Rattle.lists.proofs.EachLaws.{each_implied, each_append, each_parts}
use Rattle.catalog_frames.specs.Frames.{Point, Head}
use Rattle.frame_rules.specs.FrameTests.{is_size_of}
use Rattle.model_definitions.specs.Definitions.{Groups, no_group, group, Definition, points_size}
use Rattle.model_definitions.specs.Soundness.{SoundPoint, SoundGroups, SoundDefinition}
use Rattle.layout.specs.Points.{ModelPoint, Instance, point_at}
use Rattle.layout.specs.Layout.{counts_of, top_instance, points_at, Entering, groups_by, groups_at, entered, content_at}
use Rattle.layout.specs.Reading.{points, all_but_last, read_by}
use Rattle.layout.specs.Tiling.{lower_points, defined_points}
use Rattle.layout.proofs.InstanceLaws.{of_groups}
use Rattle.layout.proofs.LeftOutPad.{each_but_last}
use Rattle.layout.proofs.Readings.{by_reading}

-- ---- The points of the definition

module _ (P : Point → Type 0) (body : List ℕ) where
  -- What holds of an instance's points in the definition holds of the definition of each listed point,
  points_by : (i : Instance) (a : ℕ) (ps : List Point) → Each P ps → Each (λ q. P q.definition) (points_at body i a ps)
  unfolding points_at point_at
  points_by i a [] e = tt
  points_by i a (p ∷ ps) e = (e.0, points_by i (a + p.size) ps e.1)

  -- and the same for groups,
  groups_by_lem : (enter : Entering) (count : Head → ℕ) (level : ℕ) (i : Instance) (offset : ℕ) (g : Groups) → Each P (lower_points g)
      → Each (λ q. P q.definition) (groups_by enter body count level i offset g)
  groups_by_lem enter count =
      of_groups (λ a b xs. Each (λ q. P q.definition) xs) (λ a. tt) (λ a b c xs ys. each_append (λ q. P q.definition) xs ys)
      enter body count P points_by

  -- and for a whole definition.
  pub listed_by : (d : Definition) → Each P (defined_points d) → (id : ℕ) (ps : List ModelPoint)
      → read_by id d.top body ≡ points ps → Each (λ q. P q.definition) ps
  unfolding content_at
  listed_by d e id =
      let c = d.top in
      let parts = each_parts P c.points (lower_points c.groups) e in
      let L = all_but_last c.points in
      let top = top_instance c.points body in
      by_reading id c body (λ ps. Each (λ q. P q.definition) ps)
      (λ t. points_by (top_instance L body) 0 L (each_but_last P c.points parts.0)) (λ t f.
      each_append (λ q. P q.definition) (points_at body top 0 c.points)
      (groups_at body (counts_of c body) 2 top (points_size c.points) c.groups) (points_by top 0 c.points parts.0)
      (groups_by_lem (entered body) (counts_of c body) 2 top (points_size c.points) c.groups parts.1))

-- ---- Sound points

-- What holds of sound points holds of each point of sound groups,
module _ (P : Point → Type 0) (of : (in_scope : List Point) (p : Point) → SoundPoint in_scope p → P p) where
  lower_sound : (top enclosing : List Point) (level : ℕ) (g : Groups) → SoundGroups top enclosing level g → Each P (lower_points g)
  lower_sound top enclosing level no_group s = tt
  lower_sound top enclosing level (group h ps inside following) s =
      each_append P ps (lower_points inside ++ lower_points following)
      (each_implied (SoundPoint (ps ++ enclosing)) P (of (ps ++ enclosing)) ps s.2)
      (each_append P (lower_points inside) (lower_points following) (lower_sound top (ps ++ enclosing) (suc level) inside s.3)
      (lower_sound top enclosing level following s.4))

  -- and of a sound definition.
  pub all_sound : (d : Definition) → SoundDefinition d → Each P (defined_points d)
  all_sound d s =
      each_append P d.top.points (lower_points d.top.groups)
      (each_implied (SoundPoint d.top.points) P (of d.top.points) d.top.points s.points)
      (lower_sound d.top.points d.top.points 2 d.top.groups s.groups)

-- So the points of a sound definition have sizes of their types.
pub all_sized : (d : Definition) → SoundDefinition d → Each (λ p. is_size_of p.type_code p.size ≡ true) (defined_points d)
all_sized = all_sound (λ p. is_size_of p.type_code p.size ≡ true) (λ in_scope p s. s.sized)
