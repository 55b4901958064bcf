-- In an accepted catalog every reference to a scale factor or a count resolves to a point.
use mathlib.Core.Path.{◌≡◌, refl, sym}
use mathlib.Core.Bool.{Bool, true, false, ◌&&◌, ◌||◌}
use mathlib.Core.List.{List, [], ◌∷◌, ◌++◌}
use Prim.Native.Nat.{ℕ}
use borrow.Author.Tests.{eqb-true}
use lib.Dec.{eqb}
use Rattle.lists.specs.Each.{Each}
use Rattle.lists.specs.Members.{In, first, later}
use Rattle.lists.proofs.TestOutcomes.{clash, both}
use Rattle.catalog_frames.specs.Frames.{Point, Head, uint16, sunssf, read_only}
use Rattle.catalog.specs.Rules.{has_point, is_scale_factor_point, has_scale_factor, is_count_point, has_count_point}
use Rattle.catalog.specs.Checking.{accepted, checked}
use Rattle.model_definitions.specs.Definitions.{Groups, Definition, definitions}
use Rattle.model_definitions.specs.Soundness.{SoundPoint, EachLowerGroup, ScaleResolves, CountResolves}
use Rattle.model_definitions.proofs.EveryGroup.{of_lower_groups, of_models}

-- If `has_point` holds, such a point is in the list.
point_found : (such : Point → Bool) (ps : List Point) → has_point such ps ≡ true → (p : Point) × (In p ps) × (such p ≡ true)
point_found such [] e = clash (sym e)
point_found such (p ∷ ps) e = go (such p) refl e (point_found such ps)
  where
    go : (b : Bool) → such p ≡ b → b || has_point such ps ≡ true
        → (has_point such ps ≡ true → (q : Point) × (In q ps) × (such q ≡ true))
        → (q : Point) × (In q (p ∷ ps)) × (such q ≡ true)
    go true h f following = (p, first, h)
    go false h f following = let r = following f in (r.0, later r.1, r.2)

-- A scale reference names a sunssf point.
pub scale_factor_found : (n : ℕ) (ps : List Point) → has_scale_factor n ps ≡ true
    → (p : Point) × (In p ps) × (p.number ≡ n) × (p.type_code ≡ sunssf)
scale_factor_found n ps e =
    let r = point_found (is_scale_factor_point n) ps e in
    let p = r.0 in
    let t = both (eqb p.number n) (eqb p.type_code sunssf) r.2 in
    (p, r.1, eqb-true p.number n t.0, eqb-true p.type_code sunssf t.1)

-- A count reference names a uint16 point with access R.
pub count_point_found : (n : ℕ) (ps : List Point) → has_count_point n ps ≡ true
    → (p : Point) × (In p ps) × (p.number ≡ n) × (p.type_code ≡ uint16) × (p.access ≡ read_only)
count_point_found n ps e =
    let r = point_found (is_count_point n) ps e in
    let p = r.0 in
    let t = both (eqb p.number n && eqb p.type_code uint16) (eqb p.access read_only) r.2 in
    let u = both (eqb p.number n) (eqb p.type_code uint16) t.0 in
    (p, r.1, eqb-true p.number n u.0, eqb-true p.type_code uint16 u.1, eqb-true p.access read_only t.1)

-- The scale references of sound points resolve to points in scope.
pub points_resolve : (in_scope ps : List Point) → Each (SoundPoint in_scope) ps → Each (ScaleResolves in_scope) ps
points_resolve in_scope [] s = tt
points_resolve in_scope (p ∷ ps) s = (λ k. scale_factor_found p.scale in_scope (s.0.resolved k), points_resolve in_scope ps s.1)

module _ (ws : List ℕ) (n : ℕ) (e : checked ws ≡ accepted n) where
  -- In an accepted catalog every scale reference names a sunssf point of the same or an enclosing group.
  pub scales_resolve : Each (λ d. Each (ScaleResolves d.top.points) d.top.points
      × EachLowerGroup (λ enclosing level h ps following. Each (ScaleResolves (ps ++ enclosing)) ps) d) (definitions ws)
  scales_resolve =
      let P : List Point → ℕ → Head → List Point → Groups → Type 0 =
      λ enclosing level h ps following. Each (ScaleResolves (ps ++ enclosing)) ps in
      of_models (λ d. Each (ScaleResolves d.top.points) d.top.points × EachLowerGroup P d) (λ d s. (
        points_resolve d.top.points d.top.points s.points,
        of_lower_groups P d.top.points (λ enclosing level h ps after head some each. points_resolve (ps ++ enclosing) ps each)
            d refl s,
      )) ws n e

  -- Every count reference names a uint16 point with access R of the top group.
  pub counts_resolve : Each
      (λ d. EachLowerGroup (λ enclosing level h ps following. CountResolves d.top.points h) d) (definitions ws)
  counts_resolve =
      let P : Definition → List Point → ℕ → Head → List Point → Groups → Type 0 =
      λ d enclosing level h ps following. CountResolves d.top.points h in
      of_models (λ d. EachLowerGroup (P d) d)
      (λ d s.
      let top = d.top.points in
      of_lower_groups (P d) top
      (λ enclosing level h ps after head some each k. count_point_found h.count top (head.counted k))
      d refl s) ws n e
