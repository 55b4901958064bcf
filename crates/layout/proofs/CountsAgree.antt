-- Scopes that agree on the points of the top group give sound groups the same counts and sizes: a count point is one of these
-- points.
use mathlib.Core.Path.{◌≡◌, refl, sym, ap, ◌∙◌}
use mathlib.Core.Bool.{Bool, true, false, ◌&&◌}
use mathlib.Core.List.{List, ◌++◌}
use mathlib.Core.Option.{Option, some}
use Prim.Native.Nat.{ℕ, suc, ◌+◌}
use borrow.Author.Tests.{eqb-true}
use lib.Dec.{eqb}
use Rattle.lists.specs.Members.{In}
use Rattle.catalog_frames.specs.Frames.{Point, Head, constant_count, count_by_point, fill}
use Rattle.model_definitions.specs.Definitions.{Groups, no_group, group}
use Rattle.model_definitions.specs.Soundness.{SoundHead, SoundGroups}
use Rattle.model_definitions.proofs.References.{count_point_found}
use Rattle.layout.specs.Points.{Scope}
use Rattle.layout.specs.Layout.{count_of, measured, fill_measured, count_unimplemented}

module _ (s s' : Scope) (top : List Point) (agree : (p : Point) → In p top → s p.number ≡ s' p.number) where
  -- The two scopes agree on a count point.
  count_point_agrees : (level : ℕ) (h : Head) (following : Groups) → SoundHead top level h following → h.count_kind ≡ count_by_point
      → s h.count ≡ s' h.count
  count_point_agrees level h following e k =
      let r = count_point_found h.count top (e.counted k) in
      ap s (sym r.2) ∙ agree r.0 r.1 ∙ ap s' r.2

  -- The count of a sound group is the same by both.
  pub count_agrees : (f level : ℕ) (h : Head) (following : Groups) → SoundHead top level h following → count_of s f h ≡ count_of s' f h
  count_agrees f level h following e = go (eqb h.count_kind constant_count) (eqb h.count_kind count_by_point) refl
    where
      go : (a b : Bool) → eqb h.count_kind count_by_point ≡ b
          → ◌≡◌ {A = ℕ} (elim a [ true ↦ h.count | false ↦ elim b [ true ↦ s h.count | false ↦ f ] ])
          (elim a [ true ↦ h.count | false ↦ elim b [ true ↦ s' h.count | false ↦ f ] ])
      go true b q = refl
      go false true q = count_point_agrees level h following e (eqb-true h.count_kind count_by_point q)
      go false false q = refl

  -- So is the weight of sound groups,
  pub measures_agree : (weight : List Point → ℕ) (f : ℕ) (enclosing : List Point) (level : ℕ) (g : Groups)
      → SoundGroups top enclosing level g → measured weight (count_of s f) g ≡ measured weight (count_of s' f) g
  unfolding measured
  measures_agree weight f enclosing level no_group e = refl
  measures_agree weight f enclosing level (group h ps inside next) e =
      let c = count_agrees f level h next e.0 in
      let i = measures_agree weight f (ps ++ enclosing) (suc level) inside e.3 in
      let b = measures_agree weight f enclosing level next e.4 in
      rw (c, i, b)

  -- the weight of an instance of the fill group,
  pub fills_agree : (weight : List Point → ℕ) (f : ℕ) (enclosing : List Point) (level : ℕ) (g : Groups)
      → SoundGroups top enclosing level g → fill_measured weight (count_of s f) g ≡ fill_measured weight (count_of s' f) g
  unfolding fill_measured
  fills_agree weight f enclosing level no_group e = refl
  fills_agree weight f enclosing level (group h ps inside next) e =
      let i = measures_agree weight f (ps ++ enclosing) (suc level) inside e.3 in
      let b = fills_agree weight f enclosing level next e.4 in
      let step : Option ℕ → ℕ → Option ℕ =
      λ o n. elim (eqb h.count_kind fill) [ true ↦ some (weight ps + n) | false ↦ o ] in
      ap (λ o. step o (measured weight (count_of s f) inside)) b ∙ ap (step (fill_measured weight (count_of s' f) next)) i

  -- and whether a count point is unimplemented.
  pub unimplemented_agrees : (enclosing : List Point) (level : ℕ) (g : Groups) → SoundGroups top enclosing level g
      → count_unimplemented s g ≡ count_unimplemented s' g
  unfolding count_unimplemented
  unimplemented_agrees enclosing level no_group e = refl
  unimplemented_agrees enclosing level (group h ps inside following) e =
      let i = unimplemented_agrees (ps ++ enclosing) (suc level) inside e.3 in
      let b = unimplemented_agrees enclosing level following e.4 in
      rw (own (eqb h.count_kind count_by_point) refl, i, b)
    where
      own : (k : Bool) → eqb h.count_kind count_by_point ≡ k
          → k && eqb (s h.count) 0xFFFF ≡ (k && eqb (s' h.count) 0xFFFF)
      own true q =
          ap (λ n. eqb n 0xFFFF) (count_point_agrees level h following e.0 (eqb-true h.count_kind count_by_point q))
      own false q = refl
