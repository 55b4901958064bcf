-- The sizes of points, and the size of a model by its counts: what the fill group adds, and refusal 29 as one equation.
use mathlib.Core.Path.{◌≡◌, refl, sym, ap, ◌∙◌}
use mathlib.Core.Bool.{Bool, true, false, ◌&&◌}
use mathlib.Core.List.{List, [], ◌∷◌, ◌++◌}
use mathlib.Core.Logic.{◌↔◌}
use mathlib.Core.Option.{Option, none, some}
use Prim.Native.Nat.{ℕ, suc, ◌+◌, ◌*◌, ◌-◌, ◌/◌, ◌%◌, ◌≤◌}
use native.Mathlib.Nat.{div-add-mod'}
use native.Mathlib.Omega.{arith}
use borrow.Author.Tests.{eqb-true, eqb-false, eq-eqb, leb-true, le-leb}
use lib.Dec.{eqb, leb}
use lib.ListN.{length}
use Rattle.lists.specs.Each.{Each}
use Rattle.lists.proofs.TestOutcomes.{impossible, both}
use Rattle.lists.proofs.EachLaws.{each_implied}
use Rattle.catalog_frames.specs.Frames.{Point, Head, constant_count, count_by_point, fill}
use Rattle.frame_rules.specs.FrameTests.{is_size_of}
use Rattle.catalog.specs.Checking.{accepted, checked}
use Rattle.model_definitions.specs.Definitions.{Groups, no_group, group, Content, Definition, definitions, points_size}
use Rattle.model_definitions.specs.Soundness.{SoundPoint, SoundGroups}
use Rattle.model_definitions.proofs.GroupSizes.{point_size}
use Rattle.model_definitions.proofs.EveryGroup.{of_models}
use Rattle.layout.specs.Points.{Scope}
use Rattle.layout.specs.Layout.{top_scope, count_of, measured, fill_measured, groups_size, fill_size, rest_size, fill_size_of, fits, fill_of, counts_of}
use Rattle.layout.specs.Counts.{or0}

-- ---- Sound points

-- Each point has a size of its type,
pub points_sized : (in_scope ps : List Point) → Each (SoundPoint in_scope) ps → Each (λ p. is_size_of p.type_code p.size ≡ true) ps
points_sized in_scope ps = each_implied (SoundPoint in_scope) (λ p. is_size_of p.type_code p.size ≡ true) (λ p s. s.sized) ps

-- takes at least one register,
pub points_fit : (in_scope ps : List Point) → Each (SoundPoint in_scope) ps → length ps ≤ points_size ps
points_fit in_scope [] e = omega arith
points_fit in_scope (p ∷ ps) e =
    let s = (point_size in_scope p e.0).0 in
    let r = points_fit in_scope ps e.1 in
    omega arith

-- and at most 64.
pub points_small : (in_scope ps : List Point) → Each (SoundPoint in_scope) ps → points_size ps ≤ 64 * length ps
points_small in_scope [] e = omega arith
points_small in_scope (p ∷ ps) e =
    let s = (point_size in_scope p e.0).1 in
    let r = points_small in_scope ps e.1 in
    omega arith

-- ---- Groups

module _ (s : Scope) (f : ℕ) where
  -- The count of the fill group is the given one.
  pub count_of_fill : (h : Head) → h.count_kind ≡ fill → count_of s f h ≡ f
  count_of_fill h e = rw e

  -- The count of any other sound group does not depend on it.
  pub count_of_other : (h : Head) → h.count_kind ≤ 2 → (h.count_kind ≡ fill → ⊥) → count_of s f h ≡ count_of s 0 h
  count_of_other h k n = go (eqb h.count_kind constant_count) (eqb h.count_kind count_by_point) refl refl
    where
      go : (a b : Bool) → eqb h.count_kind constant_count ≡ a → eqb h.count_kind count_by_point ≡ b
          → ◌≡◌ {A = ℕ} (elim a [ true ↦ h.count | false ↦ elim b [ true ↦ s h.count | false ↦ f ] ])
          (elim a [ true ↦ h.count | false ↦ elim b [ true ↦ s h.count | false ↦ 0 ] ])
      go true b p q = refl
      go false true p q = refl
      go false false p q =
          let x = eqb-false h.count_kind constant_count p in
          let y = eqb-false h.count_kind count_by_point q in
          absurd (n (omega arith))

  -- No group below level 2 is a fill group, so the weight of such groups does not depend on the fill count either.
  pub lower_measure : (weight : List Point → ℕ) (top enclosing : List Point) (level : ℕ) (g : Groups) → 3 ≤ level
      → SoundGroups top enclosing level g → measured weight (count_of s f) g ≡ measured weight (count_of s 0) g
  unfolding measured
  lower_measure weight top enclosing level no_group l e = refl
  lower_measure weight top enclosing level (group h ps inside next) l e =
      let c = count_of_other h e.0.count_known (λ k. let two = (e.0.filling k).0 in absurd (omega arith)) in
      let i = lower_measure weight top (ps ++ enclosing) (suc level) inside (omega arith) e.3 in
      let b = lower_measure weight top enclosing level next l e.4 in
      rw (c, i, b)

module _ (weight : List Point → ℕ) (s : Scope) (f : ℕ) (top enclosing : List Point) where
  -- Each instance of the fill group adds its weight to the rest.
  pub fill_adds : (g : Groups) → SoundGroups top enclosing 2 g
      → measured weight (count_of s f) g
      ≡ measured weight (count_of s 0) g + f * or0 (fill_measured weight (count_of s 0) g)
  unfolding measured fill_measured
  fill_adds no_group e = omega arith
  fill_adds (group h ps inside next) e =
      let i = lower_measure s f weight top (ps ++ enclosing) 3 inside (omega arith) e.3 in
      go (eqb h.count_kind fill) refl i (fill_adds next e.4)
    where
      R : ℕ → ℕ
      R n = measured weight (count_of s n) next

      I : ℕ → ℕ
      I n = weight ps + measured weight (count_of s n) inside

      go : (b : Bool) → eqb h.count_kind fill ≡ b
          → measured weight (count_of s f) inside ≡ measured weight (count_of s 0) inside
          → R f ≡ R 0 + f * or0 (fill_measured weight (count_of s 0) next)
          → count_of s f h * I f + R f
          ≡ count_of s 0 h * I 0 + R 0 + f * or0 (elim b [ true ↦ some (I 0) | false ↦ fill_measured weight (count_of s 0) next ])
      go true k i r =
          let q = eqb-true h.count_kind fill k in
          let c = count_of_fill s f h q in
          let d = count_of_fill s 0 h q in
          let z : next ≡ no_group = (e.0.filling q).1 in
          rw (c, d, i, z) (omega arith)
      go false k i r =
          let n = eqb-false h.count_kind fill k in
          let c = count_of_other s f h e.0.count_known n in
          rw (c, i) (omega arith)

  -- The weight of an instance of the fill group does not depend on the fill count.
  pub fill_same : (g : Groups) → SoundGroups top enclosing 2 g
      → fill_measured weight (count_of s f) g ≡ fill_measured weight (count_of s 0) g
  unfolding fill_measured
  fill_same no_group e = refl
  fill_same (group h ps inside next) e =
      let i = lower_measure s f weight top (ps ++ enclosing) 3 inside (omega arith) e.3 in
      let step : Option ℕ → ℕ → Option ℕ =
      λ o n. elim (eqb h.count_kind fill) [ true ↦ some (weight ps + n) | false ↦ o ] in
      ap (λ o. step o (measured weight (count_of s f) inside)) (fill_same next e.4)
      ∙ ap (step (fill_measured weight (count_of s 0) next)) i

-- An instance of the fill group takes at least one register.
pub fill_takes_registers : (count : Head → ℕ) (top enclosing : List Point) (level : ℕ) (g : Groups)
    → SoundGroups top enclosing level g → (size : ℕ) → fill_size count g ≡ some size → 1 ≤ size
unfolding fill_measured
fill_takes_registers count top enclosing level no_group e size q = impossible (cc)
fill_takes_registers count top enclosing level (group h ps inside following) e size q =
    go (eqb h.count_kind fill) (fill_takes_registers count top enclosing level following e.4 size) q
  where
    I : ℕ
    I = points_size ps + groups_size count inside

    go : (b : Bool) → (fill_size count following ≡ some size → 1 ≤ size)
        → elim b [ true ↦ some I | false ↦ fill_size count following ] ≡ some size → 1 ≤ size
    go true rest p =
        let own = points_fit (ps ++ enclosing) ps e.2 in
        let same : I ≡ size = cc in
        omega (arith, e.1, own, same)
    go false rest p = rest p

-- ---- Refusal 29

module _ (top enclosing : List Point) (c : Content) (body : List ℕ) (e : SoundGroups top enclosing 2 c.groups) where
  -- The length fits if and only if it is the size by the counts, with that of the fill group.
  pub fits_iff_size : (fits c body ≡ true)
      ↔ (length body ≡ points_size c.points + groups_size (counts_of c body) c.groups)
  unfolding fits fill_of
  fits_iff_size = go (fill_size_of c body) refl
    where
      s : Scope
      s = top_scope c.points body

      rest : ℕ
      rest = rest_size c body

      L : ℕ
      L = length body

      fits_by : Option ℕ → Bool
      fits_by o = elim o [ none ↦ eqb L rest | some size ↦ leb rest L && eqb ((L - rest) % size) 0 ]

      fill_by : Option ℕ → ℕ
      fill_by o = elim o [ none ↦ 0 | some size ↦ (L - rest) / size ]

      go : (o : Option ℕ) → fill_size_of c body ≡ o
          → (fits_by o ≡ true) ↔ (L ≡ points_size c.points + groups_size (count_of s (fill_by o)) c.groups)
      go none q = (λ t. eqb-true L rest t, λ t. eq-eqb L rest t)
      go (some size) q =
          let a = fill_adds points_size s ((L - rest) / size) top enclosing c.groups e in
          let z : or0 (fill_size (count_of s 0) c.groups) ≡ size = ap or0 q in
          let b : groups_size (count_of s ((L - rest) / size)) c.groups
          ≡ groups_size (count_of s 0) c.groups + (L - rest) / size * size =
          a ∙ ap (λ n. groups_size (count_of s 0) c.groups + (L - rest) / size * n) z in
          let d = div-add-mod' (L - rest) size in (
            λ t.
                let u = both (leb rest L) (eqb ((L - rest) % size) 0) t in
                let v = leb-true rest L u.0 in
                let w = eqb-true ((L - rest) % size) 0 u.1 in
                omega arith,
            λ t.
                let u : rest ≤ L = omega arith in
                let v : (L - rest) % size ≡ 0 = omega arith in
                rw (le-leb rest L u, v),
          )

  -- Where the length fits, it is the size by the counts.
  pub full_size : fits c body ≡ true → points_size c.points + groups_size (counts_of c body) c.groups ≡ length body
  full_size t = sym (fits_iff_size.0 t)

-- ---- For an accepted catalog

module _ (ws : List ℕ) (n : ℕ) (e : checked ws ≡ accepted n) where
  -- 29 arises if and only if the length is not the size by the counts, for every model and every body.
  pub fits_each : Each (λ d. (body : List ℕ)
      → (fits d.top body ≡ true)
      ↔ (length body ≡ points_size d.top.points + groups_size (counts_of d.top body) d.top.groups)) (definitions ws)
  fits_each =
      let P : Definition → Type 0 = λ d. (body : List ℕ)
      → (fits d.top body ≡ true)
      ↔ (length body ≡ points_size d.top.points + groups_size (counts_of d.top body) d.top.groups) in
      of_models P (λ d s body. fits_iff_size d.top.points d.top.points d.top body s.groups) ws n e

  -- The size that the fill count is divided by is at least 1.
  pub fill_size_above_0 : Each (λ d. (body : List ℕ) (size : ℕ) → fill_size_of d.top body ≡ some size → 1 ≤ size)
      (definitions ws)
  fill_size_above_0 =
      let P : Definition → Type 0 = λ d. (body : List ℕ) (size : ℕ) → fill_size_of d.top body ≡ some size → 1 ≤ size in
      of_models P (λ d s body size. fill_takes_registers (count_of (top_scope d.top.points body) 0) d.top.points
      d.top.points 2 d.top.groups s.groups size) ws n e
