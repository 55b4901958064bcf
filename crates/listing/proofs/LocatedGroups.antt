-- Locating a point in sibling groups, by the frame at which the search is: into an instance, past a group, to the end.
use mathlib.Core.Path.{◌≡◌, refl, sym, ap, subst, ◌∙◌}
use mathlib.Core.List.{List, ◌++◌}
use mathlib.Core.Option.{Option, none, some}
use Prim.Native.Nat.{ℕ, zero, suc, ◌+◌, ◌*◌, ◌-◌, ◌≤◌, ◌<◌, min}
use native.Mathlib.Nat.{zero-mul, suc-mul, mul-le-mul_right}
use native.Mathlib.Omega.{arith}
use lib.ListN.{get_or}
use Rattle.catalog_frames.specs.Frames.{Point, Head, frame_in}
use Rattle.model_definitions.specs.Definitions.{Groups, group, points_size}
use Rattle.layout.specs.Layout.{count_of, measured, groups_size}
use Rattle.layout.specs.FrameWalk.{head_of}
use Rattle.layout.specs.PointTables.{scope_in, present_within}
use Rattle.layout.specs.InternalWalks.{content_from, ParsesAt, past_end, level_of, AtGroups}
use Rattle.layout.specs.Locating.{Located, or_else, located_own, located_in}
use Rattle.layout.proofs.FramePosition as position
use Rattle.layout.proofs.GroupDescent as groups
use Rattle.layout.proofs.LocatingSteps as steps
use Rattle.layout.proofs.RecordedPoints.{present_all}
use Rattle.layout.proofs.Sizes.{points_sized, lower_measure}
use Rattle.listing.specs.InternalContracts.{RunOf, ExtentOf, LocateAsks, ShapeOf}
use Rattle.definition_frames.specs.declared.runs.Run.{Run}
use Rattle.listing.specs.declared.extents.Extent.{Extent}
use Rattle.listing.specs.declared.locating.Shape.{Shape}
use Rattle.listing.proofs.ExtentWalks.{own_end, own_few}

-- ---- Capped sizes

-- If a group has an instance and is not larger than the cap, the instance's size is exact,
exact : (k a b : ℕ) → 1 ≤ k → k * (a + b) ≤ 65536 → a + min b 65536 ≡ a + b
exact zero a b one h = absurd (omega arith)
exact (suc k) a b one h = omega (arith, suc-mul k (a + b))

-- and with or without instances the group's size is exact.
exact_product : (k a b : ℕ) → k * (a + b) ≤ 65536 → k * (a + min b 65536) ≡ k * (a + b)
exact_product zero a b h = zero-mul (a + min b 65536) ∙ sym (zero-mul (a + b))
exact_product (suc k) a b h = ap (λ s. suc k * s) (exact (suc k) a b (omega arith) h)

-- An instance ends at the group's end or before.
ends_before : (j k s : ℕ) → j < k → j * s + s ≤ k * s
ends_before j k s l = omega (arith, suc-mul j s, mul-le-mul_right s l)

-- ---- One group

module _ (ws table : List ℕ) (fill levels frame : ℕ) (at : AtGroups ws frame levels) (few : levels ≤ 3) (h : Head)
    (e : head_of (frame_in ws frame) ≡ some h) where
  abbrev own : List Point
  own = (content_from ws (frame + 1)).points

  abbrev inside : Groups
  inside = (content_from ws (frame + 1)).groups

  abbrev counting : Head → ℕ
  counting = count_of (scope_in table) fill

  -- The groups in the group are below the level of a fill group, so its count does not matter for their size.
  inside_size : groups_size (count_of (scope_in table) 0) inside ≡ groups_size counting inside
  inside_size =
      let s = groups.sound_here ws frame levels at few h e in
      let z = groups.level_left ws frame levels at few h e in
      sym (lower_measure (scope_in table) fill points_size at.sound.top (own ++ at.sound.enclosing) (suc (level_of levels)) inside
      (omega arith)
      s.sound.3)

  -- Its shape, by the extents of its points and of the groups in it.
  pub shape_is : (run : Run) (lower : Extent) (count : ℕ) → RunOf ws (frame + 1) run
      → ExtentOf (scope_in table) (content_from ws run.next).groups lower → lower.next ≡ past_end ws run.next
      → count ≡ counting h → count ≤ 65535
      → ShapeOf ws counting h frame (record {
        count = count;
        own_size = run.size;
        size = run.size + lower.size.registers;
        inside = run.next;
        next = lower.next;
      })
  shape_is run lower count o l q k b =
      let n = position.group_next ws frame at.parses at.no_point h e in
      let same : (content_from ws run.next).groups ≡ inside =
      ap (λ j. (content_from ws j).groups) o.next ∙ (position.after_run ws (frame + 1) n.1).1 in
      let size : lower.size.registers ≡ min (groups_size counting inside) 65536 =
      l.size ∙ ap (λ g. min (groups_size (count_of (scope_in table) 0) g) 65536) same ∙ ap (λ x. min x 65536) inside_size in
      record {
        count = k;
        few = b;
        own = o.size;
        size = ap (λ x. run.size + x) size;
        short = omega (arith, o.size, (own_few ws frame levels at few h e).1);
        inside = o.next;
        next = q ∙ ap (λ j. past_end ws j) o.next ∙ own_end ws frame levels at few h e;
      }

-- ---- The search

-- The registers of a group and of those after it.
total_size : (count : Head → ℕ) (h : Head) (ps : List Point) (inside following : Groups)
    → groups_size count (group h ps inside following)
    ≡ count h * (points_size ps + groups_size count inside) + groups_size count following
unfolding measured
total_size count h ps inside following = refl

-- The search is at a group with head h and shape r.
pub record AtGroup (ws table : List ℕ) (fill levels frame offset : ℕ) (h : Head) (r : Shape) : Type 0 where
  pub asks : LocateAsks ws table fill levels frame offset
  pub head : head_of (frame_in ws frame) ≡ some h
  pub shape : ShapeOf ws (count_of (scope_in table) fill) h frame r

module _ {ws table : List ℕ} {fill levels frame offset : ℕ} {h : Head} {r : Shape}
    (there : AtGroup ws table fill levels frame offset h r) where
  abbrev asks : LocateAsks ws table fill levels frame offset
  asks = there.asks

  abbrev e : head_of (frame_in ws frame) ≡ some h
  e = there.head

  abbrev shape : ShapeOf ws (count_of (scope_in table) fill) h frame r
  shape = there.shape

  abbrev at : AtGroups ws frame levels
  at = there.asks.position

  abbrev few : levels ≤ 3
  few = there.asks.at_most3

  abbrev count : Head → ℕ
  count = count_of (scope_in table) fill

  abbrev points : List Point
  points = (content_from ws (frame + 1)).points

  abbrev lower : Groups
  lower = (content_from ws (frame + 1)).groups

  abbrev next : Groups
  next = (content_from ws (past_end ws (frame + 1))).groups

  abbrev each : ℕ
  each = points_size points + groups_size count lower

  here : (content_from ws frame).groups ≡ group h points lower next
  here = (position.group_next ws frame at.parses at.no_point h e).0

  pub own_parses : ParsesAt ws (frame + 1)
  own_parses = (position.group_next ws frame at.parses at.no_point h e).1

  pub level_left : 1 ≤ levels
  level_left = groups.level_left ws frame levels at few h e

  -- This group and those after it end at offset 65536 or before.
  within_bound : offset + (count h * each + groups_size count next) ≤ 65536
  within_bound = omega (arith, asks.inside, ap (groups_size count) here, total_size count h points lower next)

  -- The code's size of an instance, by the definition's.
  by_parts : r.size ≡ points_size points + min (groups_size count lower) 65536
  by_parts = shape.size ∙ ap (λ n. n + min (groups_size count lower) 65536) shape.own

  -- The whole group has the definition's size.
  pub whole_size : r.count * r.size ≡ count h * each
  whole_size =
      ap (λ n. n * r.size) shape.count ∙ ap (λ n. count h * n) by_parts
      ∙ exact_product (count h) (points_size points) (groups_size count lower) (omega (arith, within_bound))

  -- The search may continue past the group.
  pub past_asks : LocateAsks ws table fill levels r.next (offset + r.count * r.size)
  past_asks =
      record {
        position = subst (λ i. AtGroups ws i levels) (sym shape.next) (groups.past ws frame levels at few h e);
        at_most3 = few;
        inside = omega (
          arith,
          ap (λ i. groups_size count (content_from ws i).groups) shape.next,
          whole_size,
          within_bound,
        );
      }

  module _ (number : ℕ) (path : List ℕ) {j : ℕ} (q : j ≡ get_or path (level_of levels - 2) 0) where
    -- The result of locating from this group on, and past it.
    abbrev result : Option Located
    result = located_in count number path (level_of levels) offset (content_from ws frame).groups

    abbrev past : Option Located
    past = located_in count number path (level_of levels) (offset + r.count * r.size) (content_from ws r.next).groups

    past_is : located_in count number path (level_of levels) (offset + count h * each) next ≡ past
    past_is =
        ap (λ n. located_in count number path (level_of levels) (offset + n) next) (sym whole_size)
        ∙ ap (λ i. located_in count number path (level_of levels) (offset + r.count * r.size) (content_from ws i).groups)
        (sym shape.next)

    -- The group has no instance j.
    pub goes_past : r.count ≤ j → result ≡ past
    goes_past l =
        ap (located_in count number path (level_of levels) offset) here
        ∙ steps.no_instance_lem count number path (level_of levels) offset h points lower next j q (omega (arith, l, shape.count))
        ∙ past_is

    module _ (l : j < r.count) where
      counted : j < count h
      counted = omega (arith, l, shape.count)

      pub exact_size : r.size ≡ each
      exact_size =
          by_parts
          ∙ exact (count h) (points_size points) (groups_size count lower) (omega (arith, counted)) (omega (arith, within_bound))

      -- Where the instance begins, and where the groups in it do.
      abbrev start : ℕ
      start = offset + j * r.size

      abbrev start₁ : ℕ
      start₁ = start + r.own_size

      start_is : j * r.size ≡ j * each
      start_is = ap (λ n. j * n) exact_size

      -- The instance ends at offset 65536 or before.
      pub instance_within : start + each ≤ 65536
      instance_within = omega (arith, start_is, ends_before j (count h) each counted, within_bound)

      pub own_within : start₁ ≤ 65536
      own_within = omega (arith, instance_within, shape.own)

      -- All its own points begin before the groups in it.
      all_are_present : present_within start₁ start points ≡ points
      all_are_present =
          let s = groups.sound_here ws frame levels at few h e in
          present_all start₁ start points (points_sized (points ++ at.sound.enclosing) points s.sound.2)
          (omega (arith, shape.own))

      -- The search may continue in the groups in it.
      pub lower_asks : LocateAsks ws table fill (levels - 1) r.inside start₁
      lower_asks =
          let into = groups.into ws frame levels at few h e in
          let there = position.after_run ws (frame + 1) own_parses in
          record {
            position = subst (λ i. AtGroups ws i (levels - 1)) (sym shape.inside) into;
            at_most3 = omega (arith, few);
            inside = omega (
              arith,
              ap (λ i. groups_size count (content_from ws i).groups) shape.inside,
              ap (groups_size count) there.1,
              instance_within,
              shape.own,
            );
          }

      -- The results of locating among its own points, and in the groups in it.
      abbrev own_result : Option Located
      own_result = located_own number path (4 - (levels - 1)) start (present_within start₁ start points)

      abbrev lower_result : Option Located
      lower_result = located_in count number path (level_of (levels - 1)) start₁ (content_from ws r.inside).groups

      -- The result is that of the instance, else that past the group.
      pub goes_in : result ≡ or_else (or_else own_result lower_result) past
      goes_in =
          let there = position.after_run ws (frame + 1) own_parses in
          let z = level_left in
          let level : level_of levels ≡ 4 - (levels - 1) = omega arith in
          let deeper : suc (level_of levels) ≡ level_of (levels - 1) = let f = few in omega arith in
          let first : located_own number path (level_of levels) (offset + j * each) points ≡ own_result =
          ap (λ n. located_own number path (level_of levels) (offset + n) points) (sym start_is)
          ∙ ap (λ n. located_own number path n start points) level
          ∙ ap (located_own number path (4 - (levels - 1)) start) (sym all_are_present) in
          let second : located_in count number path (suc (level_of levels)) (offset + j * each + points_size points) lower ≡ lower_result =
          ap (λ n. located_in count number path (suc (level_of levels)) (offset + n + points_size points) lower) (sym start_is)
          ∙ ap (λ n. located_in count number path (suc (level_of levels)) (start + n) lower) (sym shape.own)
          ∙ ap (λ n. located_in count number path n start₁ lower) deeper
          ∙ ap (located_in count number path (level_of (levels - 1)) start₁)
          (sym (ap (λ i. (content_from ws i).groups) shape.inside ∙ there.1)) in
          ap (located_in count number path (level_of levels) offset) here
          ∙ steps.instance_there count number path (level_of levels) offset h points lower next j q counted
          ∙ ap (λ o. or_else (or_else o (located_in count number path (suc (level_of levels)) (offset + j * each + points_size points) lower))
          (located_in count number path (level_of levels) (offset + count h * each) next)) first
          ∙ ap (λ o. or_else (or_else own_result o) (located_in count number path (level_of levels) (offset + count h * each) next)) second
          ∙ ap (or_else (or_else own_result lower_result)) past_is

      -- The three cases: among the instance's own points, in the groups in it, past the group.
      pub found_own : {x : Located} → own_result ≡ some x → some x ≡ result
      found_own o = sym (goes_in ∙ ap (λ y. or_else (or_else y lower_result) past) o)

      pub found_lower : {x : Located} → own_result ≡ none → lower_result ≡ some x → some x ≡ result
      found_lower o i =
          sym (goes_in ∙ ap (λ y. or_else (or_else y lower_result) past) o ∙ ap (λ y. or_else y past) i)

      pub found_neither : own_result ≡ none → lower_result ≡ none → result ≡ past
      found_neither o i = goes_in ∙ ap (λ y. or_else (or_else y lower_result) past) o ∙ ap (λ y. or_else y past) i

-- No group is left.
pub ends : {ws table : List ℕ} {fill levels frame offset : ℕ} (asks : LocateAsks ws table fill levels frame offset)
    → head_of (frame_in ws frame) ≡ none → (number : ℕ) (path : List ℕ)
    → located_in (count_of (scope_in table) fill) number path (level_of levels) offset (content_from ws frame).groups ≡ none
ends {ws} {table} {fill} {levels} {frame} {offset} asks e number path =
    let at = asks.position in
    ap (located_in (count_of (scope_in table) fill) number path (level_of levels) offset)
    (position.no_group_lem ws frame at.parses at.no_point e)
    ∙ steps.no_sibling (count_of (scope_in table) fill) number path (level_of levels) offset
