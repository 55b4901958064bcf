-- A walk over the points of a model in two bodies, with the same counts: a relation between the two points at each place holds of
-- all points. `S` is what is known of the two scopes at a place, `P` what is known of each point of the first body.
use mathlib.Core.List.{List, [], ◌∷◌, ◌++◌}
use Prim.Native.Nat.{ℕ, suc, ◌+◌, ◌*◌, ◌-◌, ◌≤◌}
use native.Mathlib.Omega.{arith}
use lib.ListN.{set}
use Rattle.lists.specs.Each.{Each, Pairwise}
use Rattle.lists.specs.Members.{In}
use Rattle.lists.proofs.InLaws.{in_append_left, in_append_right, in_either}
use Rattle.lists.proofs.EachLaws.{each_parts}
use Rattle.lists.proofs.PairwiseLaws.{pairwise_append}
use Rattle.catalog_frames.specs.Frames.{Point, Head}
use Rattle.model_definitions.specs.Definitions.{Groups, no_group, group, Content, Definition, points_size}
use Rattle.model_definitions.specs.Soundness.{SoundPoint, SoundDefinition, ScaleResolves}
use Rattle.model_definitions.proofs.References.{points_resolve}
use Rattle.model_definitions.proofs.GroupNumbers.{point_among}
use Rattle.layout.specs.Points.{ModelPoint, Scope, Instance, point_at}
use Rattle.layout.specs.Layout.{within, groups_size, no_instance, points_at, instances, entered, groups_by, groups_at}
use Rattle.layout.specs.Tiling.{lower_points, defined_points}
use Rattle.layout.specs.Paths.{depth_in}
use Rattle.layout.proofs.InstanceLaws.{pairwise_instances}
use Rattle.layout.proofs.GroupDescent.{SoundBelow, below, beside, definition_below}
use Rattle.layout.proofs.Depths.{absent_depth, Deep, own_depth, inside_deep, following_deep}

-- The instance with a scope and a path.
abbrev pub in_scope : Scope → List ℕ → Instance
in_scope scope path = record { scope = scope; path = path }

-- `S` is kept on entering an instance: its own points, placed from a, come into both scopes.
abbrev pub Enters : List ℕ → List ℕ → (ModelPoint → Type 0) → (List Point → List ℕ → Scope → Scope → Type 0) → Type 0
Enters body new P S =
    (path : List ℕ) (a : ℕ) (around ps enclosing : List Point) → Each (SoundPoint around) ps → (s t : Scope)
    → Each P (points_at body (in_scope (within body a ps s) path) a ps) → S enclosing path s t
    → S (ps ++ enclosing) path (within body a ps s) (within new a ps t)

-- `S` is kept at one more instance number, past those that lead to the points in scope.
abbrev pub Deeper : Content → (List Point → List ℕ → Scope → Scope → Type 0) → Type 0
Deeper top S =
    (enclosing : List Point) (path : List ℕ) (at j : ℕ) (s t : Scope)
    → ((p : Point) → In p enclosing → depth_in p.number top.groups ≤ at)
    → S enclosing path s t → S enclosing (set path at j) s t

-- The relation `R` holds of the two points at a place, if `S` holds of the scopes there.
abbrev pub Related : List Point → List ℕ → List ℕ → (ModelPoint → Type 0) → (ModelPoint → ModelPoint → Type 0)
    → (List Point → List ℕ → Scope → Scope → Type 0) → Type 0
Related defined body new P R S =
    (s t : Scope) (path : List ℕ) (a : ℕ) (around visible : List Point) (p : Point) → SoundPoint around p
    → ScaleResolves visible p → ((f : Point) → In f visible → In f defined) → S visible path s t
    → P (point_at body (in_scope s path) a p) → R (point_at body (in_scope s path) a p) (point_at new (in_scope t path) a p)

module _ (top : Content) (defined : List Point) (body new : List ℕ) (P : ModelPoint → Type 0)
    (R : ModelPoint → ModelPoint → Type 0) (S : List Point → List ℕ → Scope → Scope → Type 0)
    (enters : Enters body new P S) (deeper : Deeper top S) (point : Related defined body new P R S) where
  -- The points of an instance.
  pub points_paired : (path : List ℕ) (a : ℕ) (around visible ps : List Point) → Each (SoundPoint around) ps
      → Each (ScaleResolves visible) ps → ((f : Point) → In f visible → In f defined) → (s t : Scope) → S visible path s t
      → Each P (points_at body (in_scope s path) a ps)
      → Pairwise R (points_at body (in_scope s path) a ps) (points_at new (in_scope t path) a ps)
  unfolding points_at
  points_paired path a around visible [] sound resolve known s t h each = tt
  points_paired path a around visible (p ∷ ps) sound resolve known s t h each = (
    point s t path a around visible p sound.0 resolve.0 known h each.0,
    points_paired path (a + p.size) around visible ps sound.1 resolve.1 known s t h each.1,
  )

  -- The points of groups, by one count of each group.
  groups_paired : (count : Head → ℕ) (tops enclosing : List Point) (level : ℕ) (path : List ℕ) (offset : ℕ) (g : Groups)
      → SoundBelow tops enclosing level g → 2 ≤ level → ((n : ℕ) → Deep n (depth_in n top.groups) level g)
      → ((p : Point) → In p enclosing → depth_in p.number top.groups ≤ level - 2)
      → ((p : Point) → In p enclosing → In p defined) → ((p : Point) → In p (lower_points g) → In p defined)
      → (s t : Scope) → S enclosing path s t → Each P (groups_at body count level (in_scope s path) offset g)
      → Pairwise R (groups_at body count level (in_scope s path) offset g) (groups_at new count level (in_scope t path) offset g)
  unfolding groups_by entered
  groups_paired count tops enclosing level path offset no_group sound low deep shallow around with_model s t h each = tt
  groups_paired count tops enclosing level path offset (group hd ps inside following) sound low deep shallow around with_model s t h
      each =
      let size = points_size ps + groups_size count inside in
      let visible = ps ++ enclosing in
      let L = lower_points inside in
      let B = lower_points following in
      let D : (ℕ → ℕ) = λ n. depth_in n top.groups in
      let distinct = sound.distinct in
      let scope_known : (p : Point) → In p visible → In p defined = λ p i.
      in_either p ps enclosing i (λ j. with_model p (in_append_left p ps (L ++ B) j)) (around p) in
      let lower : (p : Point) → In p visible → D p.number ≤ suc level - 2 = λ p i.
      in_either p ps enclosing i (λ j.
      let n = p.number in
      omega (arith, own_depth n (D n) level hd ps inside following distinct low (deep n) (point_among p ps j)))
      (λ j. omega (arith, shallow p j)) in
      let old : (ℕ → ℕ → List ModelPoint) = λ j at.
      points_at body (entered body level j at ps (in_scope s path)) at ps
      ++ groups_at body count (suc level) (entered body level j at ps (in_scope s path)) (at + points_size ps) inside in
      let after : (ℕ → ℕ → List ModelPoint) = λ j at.
      points_at new (entered new level j at ps (in_scope t path)) at ps
      ++ groups_at new count (suc level) (entered new level j at ps (in_scope t path)) (at + points_size ps) inside in
      let one : (j at : ℕ) → Each P (old j at) → Pairwise R (old j at) (after j at) = λ j at e.
      let path' = set path (level - 2) j in
      let s' = within body at ps s in
      let t' = within new at ps t in
      let own = points_at body (in_scope s' path') at ps in
      let rest = groups_at body count (suc level) (in_scope s' path') (at + points_size ps) inside in
      let parts = each_parts P own rest e in
      let scopes = enters path' at visible ps enclosing sound.sound.2 s t parts.0
      (deeper enclosing path (level - 2) j s t shallow h) in
      pairwise_append R own (points_at new (in_scope t' path') at ps) rest
      (groups_at new count (suc level) (in_scope t' path') (at + points_size ps) inside)
      (points_paired path' at visible visible ps sound.sound.2 (points_resolve visible ps sound.sound.2) scope_known s' t'
      scopes parts.0)
      (groups_paired count tops visible (suc level) path' (at + points_size ps) inside
      (below tops enclosing level hd ps inside following sound) (omega arith)
      (λ n. inside_deep n (D n) level hd ps inside following distinct low (deep n)) lower scope_known
      (λ p i. with_model p (in_append_right p ps (L ++ B) (in_append_left p L B i))) s' t' scopes parts.1) in
      let mid = offset + count hd * size in
      let first = instances (count hd) 0 offset size old in
      let rest = groups_at body count level (in_scope s path) mid following in
      let parts = each_parts P first rest each in
      pairwise_append R first (instances (count hd) 0 offset size after) rest
      (groups_at new count level (in_scope t path) mid following)
      (pairwise_instances P R old after one (count hd) 0 offset size parts.0)
      (groups_paired count tops enclosing level path mid following (beside tops enclosing level hd ps inside following sound) low
      (λ n. following_deep n (D n) level hd ps inside following distinct low (deep n)) shallow around
      (λ p i. with_model p (in_append_right p ps (L ++ B) (in_append_right p L B i))) s t h parts.1)

-- The points of a model's top group and of its groups.
module _ (d : Definition) (sound : SoundDefinition d) (body new : List ℕ) (P : ModelPoint → Type 0)
    (R : ModelPoint → ModelPoint → Type 0) (S : List Point → List ℕ → Scope → Scope → Type 0)
    (enters : Enters body new P S) (deeper : Deeper d.top S) (point : Related (defined_points d) body new P R S) where
  pub content_paired : (count : Head → ℕ) (s t : Scope) → S d.top.points no_instance s t
      → Each P (points_at body (in_scope s no_instance) 0 d.top.points)
      → Each P (groups_at body count 2 (in_scope s no_instance) (points_size d.top.points) d.top.groups)
      → Pairwise R
      (points_at body (in_scope s no_instance) 0 d.top.points
      ++ groups_at body count 2 (in_scope s no_instance) (points_size d.top.points) d.top.groups)
      (points_at new (in_scope t no_instance) 0 d.top.points
      ++ groups_at new count 2 (in_scope t no_instance) (points_size d.top.points) d.top.groups)
  content_paired count s t h own lower =
      let tops = d.top.points in
      let g = d.top.groups in
      let defined = defined_points d in
      let under = definition_below d sound in
      let shallow : (p : Point) → In p tops → depth_in p.number g ≤ 2 - 2 = λ p i.
      omega (arith, absent_depth p.number g (under.apart p i)) in
      let top_known : (p : Point) → In p tops → In p defined = λ p i. in_append_left p tops (lower_points g) i in
      pairwise_append R (points_at body (in_scope s no_instance) 0 tops) (points_at new (in_scope t no_instance) 0 tops)
      (groups_at body count 2 (in_scope s no_instance) (points_size tops) g)
      (groups_at new count 2 (in_scope t no_instance) (points_size tops) g)
      (points_paired d.top defined body new P R S enters deeper point no_instance 0 tops tops tops sound.points
      (points_resolve tops tops sound.points) top_known s t h own)
      (groups_paired d.top defined body new P R S enters deeper point count tops tops 2 no_instance (points_size tops) g under
      (omega arith) (λ n _. omega arith) shallow top_known (λ p i. in_append_right p tops (lower_points g) i) s t h lower)
