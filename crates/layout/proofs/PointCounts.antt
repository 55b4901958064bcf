-- The number of points in a model's groups.
use mathlib.Core.Path.{◌≡◌, refl, ap, ◌∙◌}
use mathlib.Core.List.{List, [], ◌∷◌, ◌++◌}
use Prim.Native.Nat.{ℕ, zero, suc, ◌+◌, ◌*◌, ◌≤◌}
use native.Mathlib.Nat.{suc-mul, mul-le-mul_left}
use native.Mathlib.Omega.{arith}
use lib.ListN.{length, length-append}
use Rattle.catalog_frames.specs.Frames.{Point, Head}
use Rattle.model_definitions.specs.Definitions.{Groups, no_group, group, Content, points_size}
use Rattle.model_definitions.specs.Soundness.{SoundGroups}
use Rattle.layout.specs.Points.{ModelPoint, Instance}
use Rattle.layout.specs.Layout.{measured, groups_size, counts_of, top_instance, points_at, instances, Entering, groups_by, groups_at, entered, content_at}
use Rattle.layout.specs.Counts.{groups_points}
use Rattle.layout.proofs.Sizes.{points_fit}

-- ---- The points that are placed, at any offset

-- An instance has one listed point for each of its own points.
pub points_counted : (body : List ℕ) (i : Instance) (offset : ℕ) (ps : List Point) → length (points_at body i offset ps) ≡ length ps
unfolding points_at
points_counted body i offset [] = refl
points_counted body i offset (p ∷ ps) = let r = points_counted body i (offset + p.size) ps in omega arith

-- n instances with k points each have n * k points.
instances_counted : (k size : ℕ) (one : ℕ → ℕ → List ModelPoint) → ((j at : ℕ) → length (one j at) ≡ k)
    → (n j offset : ℕ) → length (instances n j offset size one) ≡ n * k
unfolding instances
instances_counted k size one each zero j offset = omega arith
instances_counted k size one each (suc n) j offset =
    let rest = instances n (suc j) (offset + size) size one in
    let r : length rest ≡ n * k = instances_counted k size one each n (suc j) (offset + size) in
    omega (arith, length-append (one j offset) rest, each j offset, r, suc-mul n k)

-- Groups have the points of all their instances.
pub groups_counted : (enter : Entering) (body : List ℕ) (count : Head → ℕ) (level : ℕ) (i : Instance) (offset : ℕ) (g : Groups)
    → length (groups_by enter body count level i offset g) ≡ groups_points count g
unfolding groups_by measured
groups_counted enter body count level i offset no_group = refl
groups_counted enter body count level i offset (group h ps inside next) =
    let size = points_size ps + groups_size count inside in
    let k = length ps + groups_points count inside in
    let one : ℕ → ℕ → List ModelPoint = λ j at.
    points_at body (enter level j at ps i) at ps
    ++ groups_by enter body count (suc level) (enter level j at ps i) (at + points_size ps) inside in
    let each : (j at : ℕ) → length (one j at) ≡ k = λ j at.
    let own = enter level j at ps i in
    let lower = groups_by enter body count (suc level) own (at + points_size ps) inside in
    omega (
      arith,
      length-append (points_at body own at ps) lower,
      points_counted body own at ps,
      groups_counted enter body count (suc level) own (at + points_size ps) inside,
    ) in
    let first = instances (count h) 0 offset size one in
    let rest = groups_by enter body count level i (offset + count h * size) next in
    length-append first rest
    ∙ ap (λ n. n + length rest) (instances_counted k size one each (count h) 0 offset)
    ∙ ap (λ n. count h * k + n) (groups_counted enter body count level i (offset + count h * size) next)

-- A model has the points of its top group and of the groups in it.
pub content_counted : (c : Content) (body : List ℕ)
    → length (content_at c body) ≡ length c.points + groups_points (counts_of c body) c.groups
unfolding content_at
content_counted c body =
    let top = top_instance c.points body in
    let lower = groups_at body (counts_of c body) 2 top (points_size c.points) c.groups in
    length-append (points_at body top 0 c.points) lower
    ∙ ap (λ n. n + length lower) (points_counted body top 0 c.points)
    ∙ ap (λ n. length c.points + n)
    (groups_counted (entered body) body (counts_of c body) 2 top (points_size c.points) c.groups)

-- ---- No more points than registers

-- Sound groups have no more points than registers.
pub groups_fit : (count : Head → ℕ) (top enclosing : List Point) (level : ℕ) (g : Groups) → SoundGroups top enclosing level g
    → groups_points count g ≤ groups_size count g
unfolding measured
groups_fit count top enclosing level no_group e = omega arith
groups_fit count top enclosing level (group h ps inside following) e =
    let p = points_fit (ps ++ enclosing) ps e.2 in
    let i = groups_fit count top (ps ++ enclosing) (suc level) inside e.3 in
    let b = groups_fit count top enclosing level following e.4 in
    let both : length ps + groups_points count inside ≤ points_size ps + groups_size count inside = omega arith in
    let m = mul-le-mul_left (count h) both in
    omega (arith, m, b)
