-- Laws of the instances of groups, for any way to enter an instance: what holds of the points of each instance holds of all
-- points.
use mathlib.Core.Path.{◌≡◌, refl, sym, subst}
use mathlib.Core.List.{List, [], ◌++◌}
use Prim.Native.Nat.{ℕ, zero, suc, ◌+◌, ◌*◌}
use native.Mathlib.Nat.{suc-mul}
use native.Mathlib.Omega.{arith}
use Rattle.lists.specs.Each.{Each, Pairwise}
use Rattle.lists.proofs.EachLaws.{each_append, each_parts}
use Rattle.lists.proofs.PairwiseLaws.{pairwise_append}
use Rattle.catalog_frames.specs.Frames.{Point, Head}
use Rattle.model_definitions.specs.Definitions.{Groups, no_group, group, points_size}
use Rattle.layout.specs.Points.{ModelPoint, Instance}
use Rattle.layout.specs.Layout.{measured, groups_size, points_at, instances, Entering, groups_by}
use Rattle.layout.specs.Tiling.{lower_points}

-- A fact P about the points between two addresses that holds of no points, and of two consecutive parts together.
module _ (P : ℕ → ℕ → List ModelPoint → Type 0) (none : (a : ℕ) → P a a [])
    (join : (a b c : ℕ) (xs ys : List ModelPoint) → P a b xs → P b c ys → P a c (xs ++ ys)) where
  -- P holds of consecutive instances,
  of_instances : (size : ℕ) (one : ℕ → ℕ → List ModelPoint) → ((j at : ℕ) → P at (at + size) (one j at))
      → (n j offset : ℕ) → P offset (offset + n * size) (instances n j offset size one)
  unfolding instances
  of_instances size one each zero j offset =
      let e : offset ≡ offset + 0 * size = omega arith in
      subst (λ b. P offset b []) e (none offset)
  of_instances size one each (suc n) j offset =
      let rest = instances n (suc j) (offset + size) size one in
      let e : offset + size + n * size ≡ offset + suc n * size = omega (arith, suc-mul n size) in
      subst (λ b. P offset b (one j offset ++ rest)) e
      (join offset (offset + size) (offset + size + n * size) (one j offset) rest (each j offset)
      (of_instances size one each n (suc j) (offset + size)))

  -- and of groups, if it holds of the own points of every instance, given a fact Q about each point of the groups.
  module _ (enter : Entering) (body : List ℕ) (count : Head → ℕ) (Q : Point → Type 0)
      (own : (i : Instance) (at : ℕ) (ps : List Point) → Each Q ps → P at (at + points_size ps) (points_at body i at ps)) where
    pub of_groups : (level : ℕ) (i : Instance) (offset : ℕ) (g : Groups) → Each Q (lower_points g)
        → P offset (offset + groups_size count g) (groups_by enter body count level i offset g)
    unfolding groups_by measured
    of_groups level i offset no_group e =
        let z : offset ≡ offset + 0 = omega arith in
        subst (λ b. P offset b []) z (none offset)
    of_groups level i offset (group h ps inside next) e =
        let size = points_size ps + groups_size count inside in
        let mid = offset + count h * size in
        let parts = each_parts Q ps (lower_points inside ++ lower_points next) e in
        let lower = each_parts Q (lower_points inside) (lower_points next) parts.1 in
        let own_points_lem : ℕ → ℕ → List ModelPoint = λ j at. points_at body (enter level j at ps i) at ps in
        let deeper : ℕ → ℕ → List ModelPoint =
        λ j at. groups_by enter body count (suc level) (enter level j at ps i) (at + points_size ps) inside in
        let one : ℕ → ℕ → List ModelPoint = λ j at. own_points_lem j at ++ deeper j at in
        let each : (j at : ℕ) → P at (at + size) (one j at) = λ j at.
        let s : at + points_size ps + groups_size count inside ≡ at + size = omega arith in
        subst (λ b. P at b (one j at)) s
        (join at (at + points_size ps) (at + points_size ps + groups_size count inside) (own_points_lem j at) (deeper j at)
        (own (enter level j at ps i) at ps parts.0)
        (of_groups (suc level) (enter level j at ps i) (at + points_size ps) inside lower.0)) in
        let first = instances (count h) 0 offset size one in
        let rest = groups_by enter body count level i mid next in
        let z : mid + groups_size count next ≡ offset + (count h * size + groups_size count next) = omega arith in
        subst (λ b. P offset b (first ++ rest)) z
        (join offset mid (mid + groups_size count next) first rest (of_instances size one each (count h) 0 offset)
        (of_groups level i mid next lower.1))

-- A fact about each point of instances, where instance j is at `from + j * size`.
pub each_instance : (P : ModelPoint → Type 0) (size : ℕ) (one : ℕ → ℕ → List ModelPoint) (from : ℕ)
    → ((j : ℕ) → Each P (one j (from + j * size)))
    → (n j offset : ℕ) → offset ≡ from + j * size → Each P (instances n j offset size one)
unfolding instances
each_instance P size one from each zero j offset e = tt
each_instance P size one from each (suc n) j offset e =
    let next : offset + size ≡ from + suc j * size = omega (arith, e, suc-mul j size) in
    each_append P (one j offset) (instances n (suc j) (offset + size) size one)
    (subst (λ o. Each P (one j o)) (sym e) (each j)) (each_instance P size one from each n (suc j) (offset + size) next)

-- Instances with the same points, one by one, have the same points in all.
pub instances_agree : (one other : ℕ → ℕ → List ModelPoint) → ((j at : ℕ) → one j at ≡ other j at)
    → (n j offset size : ℕ) → instances n j offset size one ≡ instances n j offset size other
unfolding instances
instances_agree one other h zero j offset size = refl
instances_agree one other h (suc n) j offset size =
    rw (h j offset, instances_agree one other h n (suc j) (offset + size) size)

-- Instances whose points are related by R, one by one, are related in all.
module _ (P : ModelPoint → Type 0) (R : ModelPoint → ModelPoint → Type 0) (one other : ℕ → ℕ → List ModelPoint)
    (each : (j at : ℕ) → Each P (one j at) → Pairwise R (one j at) (other j at)) where
  pub pairwise_instances : (n j offset size : ℕ) → Each P (instances n j offset size one)
      → Pairwise R (instances n j offset size one) (instances n j offset size other)
  unfolding instances
  pairwise_instances zero j offset size e = tt
  pairwise_instances (suc n) j offset size e =
      let s = each_parts P (one j offset) (instances n (suc j) (offset + size) size one) e in
      pairwise_append R (one j offset) (other j offset) (instances n (suc j) (offset + size) size one)
      (instances n (suc j) (offset + size) size other) (each j offset s.0)
      (pairwise_instances n (suc j) (offset + size) size s.1)
