-- Two bodies that agree on the top points of access R have the same counts: each count point is one of these points.
use mathlib.Core.Path.{◌≡◌, refl, sym, ap, ◌∙◌}
use mathlib.Core.Bool.{Bool, true, false, ◌&&◌, ◌||◌, and-false}
use mathlib.Core.List.{List, [], ◌∷◌, ◌++◌}
use mathlib.Core.Option.{Option, none, some}
use Prim.Native.Nat.{ℕ, suc, ◌+◌, ◌-◌, ◌/◌, ◌%◌}
use borrow.Author.Tests.{eqb-true}
use lib.Dec.{eqb, leb}
use lib.ListN.{length}
use Rattle.lists.specs.Members.{In, first, later}
use Rattle.catalog_frames.specs.Frames.{Point, uint16, read_only}
use Rattle.catalog.specs.Rules.{has_count_point}
use Rattle.model_definitions.specs.Definitions.{Groups, no_group, group, Content, points_size}
use Rattle.model_definitions.specs.Soundness.{SoundGroups}
use Rattle.layout.specs.Points.{Scope, Instance}
use Rattle.layout.specs.Layout.{top_scope, count_of, fill_size_of, rest_size, count_unimplemented, fits, fill_of, counts_of, groups_at}
use Rattle.layout.proofs.CountsAgree.{measures_agree, fills_agree, unimplemented_agrees}
use Rattle.layout.proofs.ScopeOnly.{Agree, groups_agree}

-- ---- The points of access R

-- The points of access R among these.
abbrev read_only_points : List Point → List Point
read_only_points [] = []
read_only_points (p ∷ ps) = elim (eqb p.access read_only) [ true ↦ p ∷ read_only_points ps | false ↦ read_only_points ps ]

-- Each is one of these points and has access R.
read_only_in : (p : Point) (ps : List Point) → In p (read_only_points ps) → (In p ps) × (p.access ≡ read_only)
read_only_in p (q ∷ ps) i = go p q (eqb q.access read_only) refl (read_only_in p ps) i
  where
    go : (p q : Point) (b : Bool) → eqb q.access read_only ≡ b
        → (In p (read_only_points ps) → (In p ps) × (p.access ≡ read_only))
        → In p (elim b [ true ↦ q ∷ read_only_points ps | false ↦ read_only_points ps ])
        → (In p (q ∷ ps)) × (p.access ≡ read_only)
    go p q true e rest first = (first, eqb-true p.access read_only e)
    go p q true e rest (later i) = let r = rest i in (later r.0, r.1)
    go p q false e rest i = let r = rest i in (later r.0, r.1)
read_only_in p [] i = elim i [ ]

-- A count point is among them.
count_point_kept : (n : ℕ) (ps : List Point) → has_count_point n ps ≡ true → has_count_point n (read_only_points ps) ≡ true
count_point_kept n [] e = e
count_point_kept n (p ∷ ps) e = go (eqb p.access read_only) refl e (count_point_kept n ps)
  where
    named : Bool
    named = eqb p.number n && eqb p.type_code uint16

    -- An implication, with the same test before both sides.
    or_mono : (z a b : Bool) → (a ≡ true → b ≡ true) → z || a ≡ true → z || b ≡ true
    or_mono true a b f h = refl
    or_mono false a b f h = f h

    go : (b : Bool) → eqb p.access read_only ≡ b → (named && b) || has_count_point n ps ≡ true
        → (has_count_point n ps ≡ true → has_count_point n (read_only_points ps) ≡ true)
        → has_count_point n (elim b [ true ↦ p ∷ read_only_points ps | false ↦ read_only_points ps ]) ≡ true
    go true a h rest =
        ap (λ (b : Bool). (named && b) || has_count_point n (read_only_points ps)) a
        ∙ or_mono (named && true) (has_count_point n ps) (has_count_point n (read_only_points ps)) rest h
    go false a h rest = rest (sym (ap (λ (z : Bool). z || has_count_point n ps) (and-false named)) ∙ h)

-- So sound groups stay sound if these are the only points of the top group.
counted_by_read_only : (top enclosing : List Point) (level : ℕ) (g : Groups) → SoundGroups top enclosing level g
    → SoundGroups (read_only_points top) enclosing level g
counted_by_read_only top enclosing level no_group s = tt
counted_by_read_only top enclosing level (group h ps inside following) s = (
  record {
    level_in_range = s.0.level_in_range;
    type_flag = s.0.type_flag;
    count_known = s.0.count_known;
    constant = s.0.constant;
    counted = λ k. count_point_kept h.count top (s.0.counted k);
    filling = s.0.filling;
  },
  s.1,
  s.2,
  counted_by_read_only top (ps ++ enclosing) (suc level) inside s.3,
  counted_by_read_only top enclosing level following s.4,
)

-- ---- Two bodies

module _ (c : Content) (sound : SoundGroups c.points c.points 2 c.groups) (body after : List ℕ)
    (len : length after ≡ length body)
    (agree : (p : Point) → In p c.points → p.access ≡ read_only
    → top_scope c.points after p.number ≡ top_scope c.points body p.number) where
  -- The scope of the top group in the one body,
  abbrev old : Scope
  old = top_scope c.points body

  -- and in the other.
  abbrev now : Scope
  now = top_scope c.points after

  -- They agree on the top points of access R,
  scopes : Agree (read_only_points c.points) now old
  scopes p i = let r = read_only_in p c.points i in agree p r.0 r.1

  -- and the groups are sound by these points.
  below : SoundGroups (read_only_points c.points) c.points 2 c.groups
  below = counted_by_read_only c.points c.points 2 c.groups sound

  -- A count point is unimplemented in both bodies or in neither.
  pub same_unimplemented : count_unimplemented now c.groups ≡ count_unimplemented old c.groups
  same_unimplemented = unimplemented_agrees now old (read_only_points c.points) scopes c.points 2 c.groups below

  -- The rest has the same size,
  same_rest : rest_size c after ≡ rest_size c body
  same_rest =
      ap (λ (n : ℕ). points_size c.points + n)
      (measures_agree now old (read_only_points c.points) scopes points_size 0 c.points 2 c.groups below)

  -- and so has an instance of the fill group,
  same_fill_size : fill_size_of c after ≡ fill_size_of c body
  same_fill_size = fills_agree now old (read_only_points c.points) scopes points_size 0 c.points 2 c.groups below

  -- so the length fits in both bodies or in neither,
  pub same_fit : fits c after ≡ fits c body
  unfolding fits
  same_fit =
      let by : ℕ → ℕ → Option ℕ → Bool = λ n rest fill.
      elim fill [ none ↦ eqb n rest | some size ↦ leb rest n && eqb ((n - rest) % size) 0 ] in
      ap (λ n. by n (rest_size c after) (fill_size_of c after)) len
      ∙ ap (λ rest. by (length body) rest (fill_size_of c after)) same_rest
      ∙ ap (by (length body) (rest_size c body)) same_fill_size

  -- and the fill group has the same count.
  same_fill : fill_of c after ≡ fill_of c body
  unfolding fill_of
  same_fill =
      let by : ℕ → ℕ → Option ℕ → ℕ = λ n rest fill. elim fill [ none ↦ 0 | some size ↦ (n - rest) / size ] in
      ap (λ n. by n (rest_size c after) (fill_size_of c after)) len
      ∙ ap (λ rest. by (length body) rest (fill_size_of c after)) same_rest
      ∙ ap (by (length body) (rest_size c body)) same_fill_size

  -- The points of the groups are the same by the counts of either body.
  pub same_groups : (i : Instance) (offset : ℕ)
      → groups_at after (counts_of c after) 2 i offset c.groups ≡ groups_at after (counts_of c body) 2 i offset c.groups
  same_groups i offset =
      ap (λ (n : ℕ). groups_at after (count_of now n) 2 i offset c.groups) same_fill
      ∙ groups_agree after (fill_of c body) (read_only_points c.points) now old scopes offset c.points 2 c.groups below i i
      (record { same_path = refl; agree = λ p k. refl })
