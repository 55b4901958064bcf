-- Locating a point, one step at a time: a point of a run, and a group among its siblings.
use mathlib.Core.Path.{◌≡◌, refl, ap}
use mathlib.Core.List.{List, [], ◌∷◌}
use mathlib.Core.Option.{Option, none, some}
use Prim.Native.Nat.{ℕ, suc, ◌+◌, ◌*◌, ◌-◌, ◌≤◌, ◌<◌}
use borrow.Author.Tests.{eq-eqb, ne_eqb, lt-ltb, le-ltb}
use lib.ListN.{get_or}
use Rattle.catalog_frames.specs.Frames.{Point, Head}
use Rattle.model_definitions.specs.Definitions.{Groups, no_group, group, points_size}
use Rattle.layout.specs.Layout.{groups_size}
use Rattle.layout.specs.Locating.{Located, or_else, located_among, located_own, located_in}
use Rattle.layout.specs.PointTables.{present_within}
use Rattle.layout.proofs.RecordedPoints.{present_past, present_first}

-- ---- The points of a run that begin before a limit

module _ (number limit offset : ℕ) where
  -- At the end of the run no point is found,
  pub none_left : located_among number offset (present_within limit offset []) ≡ none
  unfolding located_among present_within
  none_left = refl

  -- nor at the limit.
  pub none_past : (ps : List Point) → limit ≤ offset → located_among number offset (present_within limit offset ps) ≡ none
  unfolding located_among
  none_past ps h = ap (located_among number offset) (present_past limit offset ps h)

  module _ (p : Point) (ps : List Point) (inside : offset < limit) where
    -- The first point is found if it has the number,
    pub found_first : p.number ≡ number
        → located_among number offset (present_within limit offset (p ∷ ps)) ≡ some (record { offset = offset; definition = p })
    unfolding located_among
    found_first e = rw (present_first limit offset p ps inside, eq-eqb p.number number e, located_among)

    -- else the search goes on after it.
    pub not_first : (p.number ≡ number → ⊥)
        → located_among number offset (present_within limit offset (p ∷ ps))
        ≡ located_among number (offset + p.size) (present_within limit (offset + p.size) ps)
    unfolding located_among
    not_first n = rw (present_first limit offset p ps inside, ne_eqb p.number number n, located_among)

-- ---- A group among its siblings

module _ (count : Head → ℕ) (number : ℕ) (path : List ℕ) (level offset : ℕ) (h : Head) (ps : List Point)
    (inside following : Groups) (j : ℕ) (q : j ≡ get_or path (level - 2) 0) where
  -- The registers of one instance, and the result for the groups after this one.
  abbrev size : ℕ
  size = points_size ps + groups_size count inside

  abbrev after : Option Located
  after = located_in count number path level (offset + count h * size) following

  -- The group has the instance with the path's number at this level,
  pub instance_there : j < count h → located_in count number path level offset (group h ps inside following)
      ≡ or_else
      (or_else (located_own number path level (offset + j * size) ps)
      (located_in count number path (suc level) (offset + j * size + points_size ps) inside))
      after
  unfolding located_in
  instance_there l = simp (located_in, ← q, lt-ltb j (count h) l)

  -- or it has not.
  pub no_instance_lem : count h ≤ j → located_in count number path level offset (group h ps inside following) ≡ after
  unfolding located_in
  no_instance_lem l = simp (located_in, ← q, le-ltb j (count h) l)

-- At the end of the siblings nothing is found.
pub no_sibling : (count : Head → ℕ) (number : ℕ) (path : List ℕ) (level offset : ℕ)
    → located_in count number path level offset no_group ≡ none
unfolding located_in
no_sibling count number path level offset = refl
