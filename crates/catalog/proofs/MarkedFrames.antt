-- What the code records of the frames is what a search would find: at the start, and after each frame.
use mathlib.Core.Path.{◌≡◌, refl, sym, ap, subst, ◌∙◌}
use mathlib.Core.Bool.{true, false, ◌&&◌, ◌||◌, or-false}
use mathlib.Core.List.{List, [], ◌∷◌, append-nil}
use mathlib.Core.Option.{none}
use Prim.Native.Nat.{ℕ, zero, suc, ◌+◌, ◌-◌, ◌/◌, ◌≤◌, ◌<◌}
use native.Mathlib.Numerals.{add-one}
use native.Mathlib.Omega.{arith}
use borrow.Author.Tests.{eqb-true, eqb-false, leb-false, not-false}
use lib.Dec.{eqb}
use lib.ListN.{length, get_or, set}
use lib.Seq.{get_or-set_same, get_or-set_other}
use Rattle.std.specs.Prelude.{Option}
use Rattle.lists.specs.Members.{among}
use Rattle.lists.specs.Tests.{first_broken}
use Rattle.lists.proofs.TestOutcomes.{impossible, clash}
use Rattle.lists.proofs.TestLaws.{none_broken, none_of, neither}
use Rattle.number_sets.specs.NumberSets.{in_set, Marks, Blank}
use Rattle.number_sets.proofs.MarkLaws.{now_in, now_out}
use Rattle.catalog_frames.specs.Frames.{Point, Head, Frame, model_frame, group_frame, point_frame, end_frame, malformed, word, frame_at}
use Rattle.catalog.specs.State as check
use Rattle.catalog.specs.State.{OpenGroup}
use Rattle.catalog.specs.Rules.{run, has_scale_factor, is_scale_factor_point, points_of, count_faults}
use Rattle.catalog.specs.InternalTracking.{IdFits}
use Rattle.catalog.specs.InternalScans.{frames_onward, has_number, is_model, numbers_in, runs_of}
use Rattle.catalog.specs.InternalTracking.{Tracks, Opens, model_rules, group_rules, point_rules, end_rules, code_rules, run_in}
use Rattle.catalog.specs.InternalTracking.{code_start, numbers_so_far}
use Rattle.catalog.specs.InternalMarks.{AfterModelFrame, BlankAtModel, Counted, CountsAfter, Indexed, ScalesAfter, in_run, is_uncounted}
use Rattle.catalog.specs.declared.scans.Target.{Target}
use Rattle.catalog.specs.declared.state.State.{State}
use Rattle.catalog.proofs.FreshNumbers.{Fresh, Apart}
use Rattle.catalog.proofs.MarkLaws.{stop_later}
use Rattle.catalog.proofs.OpenGroups.{runs_points}
use Rattle.catalog.proofs.TrackedRules.{no_upcoming_point}
use Rattle.catalog.proofs.TrackedState.{state_by, word_here, kind_here}
use Rattle.catalog.proofs.WordScans.{has_either, number_here, scope_more}

-- Before the first frame.
pub indexed_start : (ws numbers scales : List ℕ) (u : Option ℕ) → Blank numbers → Blank scales
    → Indexed ws numbers scales u 0 code_start
unfolding numbers_in runs_of
indexed_start ws numbers scales u no_number no_scale =
    record {
      number_words = no_number.size;
      scale_words = no_scale.size;
      used = no_number.none;
      in_scope = no_scale.none;
      counted = λ h. absurd (omega (arith, h));
    }

-- Opening a group keeps the runs of the groups around it.
runs_kept : (ws firsts : List ℕ) (d v k : ℕ) → k ≤ d → runs_of ws (set firsts d v) k ≡ runs_of ws firsts k
unfolding runs_of
runs_kept ws firsts d v zero h = refl
runs_kept ws firsts d v (suc k) h =
    rw (get_or-set_other firsts d k v 0 (λ e. omega (arith, e, h)), runs_kept ws firsts d v k (omega arith))

module _ (ws used numbers scales : List ℕ) (u : Option ℕ) (i : ℕ) (c : State) (s : check.State) (t : Tracks ws used i c s)
    (x : Indexed ws numbers scales u i c) where
  -- At a model frame no group is open, so no scale factor is in scope.
  module _ (id : ℕ) (e : first_broken (model_rules used c id) ≡ none) where
    none_open : c.depth ≡ 0
    none_open = eqb-true c.depth 0 (not-false (eqb c.depth 0) ((none_broken (model_rules used c id)).0 e).0)

    blank_at_model : Blank scales
    unfolding runs_of
    blank_at_model =
        record {
          size = x.scale_words;
          none = λ n h. x.in_scope n h ∙ ap (λ d. has_scale_factor n (runs_of ws c.firsts d)) none_open;
        }

  module _ (used' numbers' numbers'' scales' scales'' : List ℕ) (u' : Option ℕ) (inner : ℕ) (here : i < length ws / 8)
      (top : inner ≡ get_or c.firsts (c.depth - 1) 0) (b : AfterModelFrame ws i inner u u' used used' numbers numbers' scales scales')
      (m : Marks numbers' numbers'' (λ n. has_number ws n i) true) (r : ScalesAfter ws i inner scales' scales'') where
    number_words_lem : length numbers'' ≡ 1024
    number_words_lem = m.words ∙ b.freed.words ∙ x.number_words

    scale_words_lem : length scales' ≡ 1024
    scale_words_lem = b.kept.words ∙ x.scale_words

    same_scales : (n : ℕ) → n < 65536 → in_set scales' n ≡ in_set scales n
    same_scales n h = b.kept.has x.scale_words n h

    -- After a group or model frame the scale factors in scope are those of the new run and those in scope before.
    scope_opened : (k : ℕ) → word ws i 0 ≡ k → k ≤ 2 → c.depth < 4 → (n : ℕ) → n < 65536
        → in_set scales'' n ≡ has_scale_factor n (runs_of ws (set c.firsts c.depth (i + 1)) (c.depth + 1))
    unfolding runs_of
    scope_opened k kind small shallow n h =
        let four = t.within.four in
        let stored = get_or-set_same c.firsts c.depth (i + 1) 0 (omega arith) in
        let kept = runs_kept ws c.firsts c.depth (i + 1) c.depth (omega arith) in
        let upcoming_run = run (frames_onward ws (i + 1)) in
        opens k kind small ∙ ap (λ b. in_run ws (i + 1) Target.ScaleFactor n || b) (same_scales n h ∙ x.in_scope n h)
        ∙ sym (has_either (is_scale_factor_point n) upcoming_run (runs_of ws c.firsts c.depth))
        ∙ rw (add-one c.depth, runs_of, stored, kept)
      where
        opens : (k : ℕ) → word ws i 0 ≡ k → k ≤ 2 → in_set scales'' n ≡ in_run ws (i + 1) Target.ScaleFactor n || in_set scales' n
        opens zero e g = now_in scales' scales'' _ scale_words_lem n h (rw e at r)
        opens (suc zero) e g = now_in scales' scales'' _ scale_words_lem n h (rw e at r)
        opens (suc (suc zero)) e g = now_in scales' scales'' _ scale_words_lem n h (rw e at r)
        opens (suc (suc (suc k))) e g = absurd (omega arith)

    -- After a frame other than a model frame the numbers used are the frame's own, if it has one, and those used before.
    used_more : is_model ws i ≡ false → (n : ℕ) → n < 65536 → in_set numbers'' n ≡ among n (numbers_so_far ws (i + 1) c)
    used_more e n h =
        let f = get_or c.firsts 0 0 in
        let p = t.within.passed 0 in
        let more : i + 1 - f ≡ suc (i - f) = omega arith in
        let same : in_set numbers' n ≡ in_set numbers n = rw e at (b.freed.has x.number_words n h) in
        now_in numbers' numbers'' _ (b.freed.words ∙ x.number_words) n h m
        ∙ ap (λ a. has_number ws n i || a) (same ∙ x.used n h)
        ∙ rw more (number_here ws f n (i - f) i (omega arith))

    -- A frame that is no model frame and no uncounted group keeps the first uncounted group.
    counted_next : is_model ws i ≡ false → (k : Counted ws u (get_or c.firsts 0 0) i) → is_uncounted ws k.counts i ≡ false
        → Counted ws u' (get_or c.firsts 0 0) (i + 1)
    counted_next e k q =
        let same : u' ≡ u = subst (λ a. CountsAfter a ws i u u') e b.counts in
        record { counts = k.counts; holds = k.holds; is = same ∙ k.is ∙ stop_later ws k.counts i here e q }

    after_model : (id : ℕ) → frame_at ws i ≡ model_frame id → first_broken (model_rules used c id) ≡ none
        → Indexed ws numbers'' scales'' u' (i + 1) (state_by c i (model_frame id))
    unfolding numbers_in
    after_model id e n =
        let four = t.within.four in
        let closed = none_open id n in
        let kind = kind_here ws i (model_frame id) e refl in
        let stored : get_or (set c.firsts c.depth (i + 1)) 0 0 ≡ i + 1 =
        rw closed (get_or-set_same c.firsts 0 (i + 1) 0 (omega arith)) in
        let none_yet : i + 1 - (i + 1) ≡ 0 = omega arith in
        let first : inner ≡ get_or c.firsts 0 0 = top ∙ ap (λ d. get_or c.firsts (d - 1) 0) closed in
        let freed =
        subst (λ f. Marks numbers numbers' (λ n. among n (numbers_in ws f (i - f))) false) first (rw kind at b.freed) in
        let added : Marks numbers' numbers'' (λ n. false) true = rw kind at m in
        record {
          number_words = number_words_lem;
          scale_words = r.words ∙ scale_words_lem;
          used = λ n h.
              added.has (b.freed.words ∙ x.number_words) n h
              ∙ now_out numbers numbers' _ x.number_words n h false freed (x.used n h ∙ sym (or-false _)) (λ q. refl)
              ∙ rw (stored, none_yet);
          in_scope = λ n h. scope_opened 1 kind (omega arith) (omega arith) n h;
          counted = λ h. rw stored (subst (λ a. CountsAfter a ws i u u') (ap (λ k. eqb k 1) kind) b.counts);
        }

    after_group_lem : (h : Head) → h.count < 65536 → frame_at ws i ≡ group_frame h → first_broken (group_rules ws i c h) ≡ none
        → Indexed ws numbers'' scales'' u' (i + 1) (state_by c i (group_frame h))
    after_group_lem h fits e n =
        let ok = (none_broken (group_rules ws i c h)).0 n in
        let some_open = eqb-false c.depth 0 ((neither (eqb c.depth 0) (eqb c.depth 1 && c.has_fill)).0 ok.0).0 in
        let shallow = leb-false 4 c.depth ok.1.0 in
        let d : 1 ≤ c.depth = omega (arith, some_open) in
        let kind = kind_here ws i (group_frame h) e refl in
        let count_kind_lem : word ws i 3 ≡ h.count_kind = word_here ws i (group_frame h) e refl 3 in
        let count : word ws i 4 ≡ h.count = word_here ws i (group_frame h) e refl 4 in
        let f = get_or-set_other c.firsts c.depth 0 (i + 1) 0 (λ z. omega (arith, z, d)) in
        let k = x.counted d in
        let no_fault = ((none_of (count_faults (run_in ws c 0) (eqb c.depth 1) h)).0 ok.1.1.1.1.0).1.1.0 in
        let goes : is_uncounted ws k.counts i ≡ false = rw (kind, count_kind_lem, count, k.holds h.count fits) no_fault in
        record {
          number_words = number_words_lem;
          scale_words = r.words ∙ scale_words_lem;
          used = λ n g. rw f (used_more (rw kind) n g);
          in_scope = λ n g. scope_opened 2 kind (omega arith) shallow n g;
          counted = λ g. rw f (counted_next (rw kind) k goes);
        }

    after_point : (p : Point) → frame_at ws i ≡ point_frame p → first_broken (point_rules ws i c p) ≡ none
        → Indexed ws numbers'' scales'' u' (i + 1) c
    after_point p e n =
        let kind = kind_here ws i (point_frame p) e refl in
        let same : Marks scales' scales'' (λ n. false) true = rw kind at r in
        record {
          number_words = number_words_lem;
          scale_words = r.words ∙ scale_words_lem;
          used = λ n g. used_more (rw kind) n g;
          in_scope = λ n g. same.has scale_words_lem n g ∙ same_scales n g ∙ x.in_scope n g;
          counted = λ g. counted_next (rw kind) (x.counted g) (rw kind);
        }

    module _ (fresh : Fresh s) (e : frame_at ws i ≡ end_frame) (none_upcoming : run (frames_onward ws i) ≡ [])
        (ok : first_broken (end_rules ws c) ≡ none) where
      some_open : 1 ≤ c.depth
      some_open = let n = eqb-false c.depth 0 ((none_broken (end_rules ws c)).0 ok).0 in omega (arith, n)

      -- No scale factor of the group that ends has the same number as one of the groups around it.
      ends_apart : (n : ℕ) → has_scale_factor n (run_in ws c (c.depth - 1)) ≡ true
          → has_scale_factor n (runs_of ws c.firsts (c.depth - 1)) ≡ false
      ends_apart n = go s.open_groups refl fresh.apart
        where
          go : (ls : List OpenGroup) → s.open_groups ≡ ls → Apart ls → has_scale_factor n (run_in ws c (c.depth - 1)) ≡ true
              → has_scale_factor n (runs_of ws c.firsts (c.depth - 1)) ≡ false
          go [] q a h = let d = t.depth ∙ ap length q in absurd (omega (arith, d, some_open))
          go (l ∷ ls) q a h =
              let d : c.depth ≡ suc (length ls) = t.depth ∙ ap length q in
              let m : c.depth - 1 ≡ length ls = omega (arith, d) in
              let o = subst (Opens ws c.firsts c.has_group []) q (no_upcoming_point ws used i c s t none_upcoming) in
              let own : run_in ws c (c.depth - 1) ≡ l.points =
              ap (λ k. run_in ws c k) m ∙ o.0 ∙ append-nil l.points in
              let around : runs_of ws c.firsts (c.depth - 1) ≡ points_of ls =
              ap (runs_of ws c.firsts) m ∙ runs_points ws c.firsts true ls o.2 in
              ap (has_scale_factor n) around ∙ a.0 n (sym (ap (has_scale_factor n) own) ∙ h)

      after_end : Indexed ws numbers'' scales'' u' (i + 1) (state_by c i end_frame)
      after_end =
          let kind = kind_here ws i end_frame e refl in
          let out = subst (λ j. Marks scales' scales'' (in_run ws j Target.ScaleFactor) false) top (rw kind at r) in
          record {
            number_words = number_words_lem;
            scale_words = r.words ∙ scale_words_lem;
            used = λ n g. used_more (rw kind) n g;
            in_scope = λ n g.
                let both = scope_more ws c.firsts n c.depth (c.depth - 1) (omega (arith, some_open)) in
                now_out scales' scales'' _ scale_words_lem n g _ out (same_scales n g ∙ x.in_scope n g ∙ both) (ends_apart n);
            counted = λ g. counted_next (rw kind) (x.counted some_open) (rw kind);
          }

    -- After a frame of any kind that breaks no rule.
    pub indexed_next : Fresh s → (f : Frame) → IdFits f → frame_at ws i ≡ f → frames_onward ws i ≡ f ∷ frames_onward ws (i + 1)
        → first_broken (code_rules ws used i c f) ≡ none → Indexed ws numbers'' scales'' u' (i + 1) (state_by c i f)
    indexed_next y (model_frame id) fits e a n = after_model id e n
    indexed_next y (group_frame h) fits e a n = after_group_lem h fits.1 e n
    indexed_next y (point_frame p) fits e a n = after_point p e n
    indexed_next y end_frame fits e a n = after_end y e (ap run a) n
    indexed_next y malformed fits e a n = impossible (cc)

  pub blank_here : (f : Frame) → frame_at ws i ≡ f → first_broken (code_rules ws used i c f) ≡ none → BlankAtModel ws i scales
  blank_here (model_frame id) e n = λ q. blank_at_model id n
  blank_here (group_frame h) e n = λ q. clash (sym (rw (kind_here ws i (group_frame h) e refl) at q))
  blank_here (point_frame p) e n = λ q. clash (sym (rw (kind_here ws i (point_frame p) e refl) at q))
  blank_here end_frame e n = λ q. clash (sym (rw (kind_here ws i end_frame e refl) at q))
  blank_here malformed e n = impossible (cc)
