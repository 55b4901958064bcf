-- The tests that look up the sets agree with the tests that search the frames.
use mathlib.Core.Path.{◌≡◌, refl, sym, ap, ◌∙◌}
use mathlib.Core.Bool.{Bool, true, false, not}
use mathlib.Core.List.{List}
use Prim.Native.Nat.{ℕ, ◌+◌, ◌-◌, ◌/◌, ◌≤◌, ◌<◌}
use native.Mathlib.Omega.{arith}
use borrow.Author.Tests.{eq-eqb, ne_eqb, eqb-true, eqb-false}
use lib.Dec.{eqb}
use lib.ListN.{length, get_or}
use Rattle.std.specs.Prelude.{Option, Some, None}
use Rattle.std.specs.Option.{option_eq}
use Rattle.std.proofs.Common.{nat_eq}
use Rattle.lists.specs.Tests.{first_broken, one_holds}
use Rattle.number_sets.specs.NumberSets.{in_set}
use Rattle.catalog_frames.specs.Frames.{Point, Head, group_frame, word, frame_at, count_by_point}
use Rattle.catalog.specs.Rules.{has_count_point, no_point, run}
use Rattle.catalog.specs.InternalScans.{frames_onward, is_model}
use Rattle.frame_rules.specs.FrameTests.{count_tests, group_tests, point_tests, scale_tests}
use Rattle.catalog.specs.InternalTracking.{group_rules, point_rules, run_in}
use Rattle.catalog.specs.InternalMarks.{Indexed, Counted, is_uncounted}
use Rattle.catalog.specs.declared.state.State.{State}
use Rattle.catalog.proofs.MarkLaws.{stop_here, stop_later, found_from}
use Rattle.catalog.proofs.TrackedState.{word_here}
use Rattle.catalog.proofs.WordScans.{run_continues, run_ends}

-- Whether the count point is in the top group matters only if a point gives the count.
same_counts : (a b direct : Bool) (h : Head) → (h.count_kind ≡ count_by_point → a ≡ b)
    → one_holds (count_tests a direct h) ≡ one_holds (count_tests b direct h)
same_counts a b direct h e = go (eqb h.count_kind count_by_point) refl
  where
    go : (t : Bool) → eqb h.count_kind count_by_point ≡ t → one_holds (count_tests a direct h) ≡ one_holds (count_tests b direct h)
    go true q = rw (e (eqb-true h.count_kind count_by_point q))
    go false q = rw q

-- The first frame inside a group shows whether it has a point.
pub empty_by_first : (ws : List ℕ) (j : ℕ) → j < length ws / 8 → not (eqb (word ws j 0) 3) ≡ no_point (run (frames_onward ws j))
empty_by_first ws j h = go (eqb (word ws j 0) 3) refl
  where
    go : (t : Bool) → eqb (word ws j 0) 3 ≡ t → not t ≡ no_point (run (frames_onward ws j))
    go true q = rw (run_continues ws j (word ws j 0) h refl (eqb-true (word ws j 0) 3 q))
    go false q = rw (run_ends ws j (word ws j 0) h refl (eqb-false (word ws j 0) 3 q))

-- A frame that the search has passed is not the one that it finds.
passed_over : (u : Option ℕ) (i : ℕ) → ((k : ℕ) → u ≡ Some k → i < k) → option_eq nat_eq u (Some i) ≡ false
passed_over None i h = refl
passed_over (Some k) i h = let l : i < k = h k refl in ne_eqb k i (λ z. omega (arith, z, l))

module _ (ws numbers scales : List ℕ) (u : Option ℕ) (i : ℕ) (c : State) (x : Indexed ws numbers scales u i c) where
  pub point_tested : (p : Point) → p.number < 65536 → p.scale < 65536
      → point_tests c.depth c.has_group (in_set numbers p.number) (one_holds (scale_tests (in_set scales p.scale) p)) p
      ≡ point_rules ws i c p
  point_tested p h g = rw (x.used p.number h, x.in_scope p.scale g)

  module _ (b : i < length ws / 8) (h : Head) (e : group_frame h ≡ frame_at ws i) (s : h.count < 65536) where
    -- This group is the first uncounted one if and only if its count point is not in the top group.
    count_here : 1 ≤ c.depth → h.count_kind ≡ count_by_point
        → not (option_eq nat_eq u (Some i)) ≡ has_count_point h.count (run_in ws c 0)
    count_here d k = go (has_count_point h.count (run_in ws c 0)) refl
      where
        counting : Counted ws u (get_or c.firsts 0 0) i
        counting = x.counted d

        kind : word ws i 0 ≡ 2
        kind = word_here ws i (group_frame h) (sym e) refl 0

        other : is_model ws i ≡ false
        other = rw kind

        here : is_uncounted ws counting.counts i ≡ not (has_count_point h.count (run_in ws c 0))
        here =
            let by_point : word ws i 3 ≡ 1 = word_here ws i (group_frame h) (sym e) refl 3 ∙ k in
            let count : word ws i 4 ≡ h.count = word_here ws i (group_frame h) (sym e) refl 4 in
            rw (kind, by_point, count, counting.holds h.count s)

        go : (t : Bool) → has_count_point h.count (run_in ws c 0) ≡ t → not (option_eq nat_eq u (Some i)) ≡ t
        go true q =
            let later = counting.is ∙ stop_later ws counting.counts i b other (here ∙ ap not q) in
            let past : (k : ℕ) → u ≡ Some k → i < k =
            λ k z. let l = found_from ws counting.counts (length ws / 8 - (i + 1)) (i + 1) k (sym later ∙ z) in omega (arith, l) in
            rw (passed_over u i past)
        go false q =
            let found = counting.is ∙ stop_here ws counting.counts i b other (here ∙ ap not q) in
            rw (found, eq-eqb i i refl)

    pub group_tested : h.number < 65536
        → first_broken (group_tests c.depth c.has_fill (in_set numbers h.number)
        (one_holds (count_tests (not (option_eq nat_eq u (Some i))) (eqb c.depth 1) h)) h)
        ≡ first_broken (group_rules ws i c h)
    group_tested g = go (eqb c.depth 0) refl
      where
        go : (t : Bool) → eqb c.depth 0 ≡ t
            → first_broken (group_tests c.depth c.has_fill (in_set numbers h.number)
            (one_holds (count_tests (not (option_eq nat_eq u (Some i))) (eqb c.depth 1) h)) h)
            ≡ first_broken (group_rules ws i c h)
        go true q = rw q
        go false q =
            let n = eqb-false c.depth 0 q in
            let some_open : 1 ≤ c.depth = omega (arith, n) in
            let found = has_count_point h.count (run_in ws c 0) in
            rw (x.used h.number g, same_counts _ found (eqb c.depth 1) h (count_here some_open))
