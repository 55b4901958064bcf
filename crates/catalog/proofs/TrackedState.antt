-- The code's state simulates the state of the definition: at the start, and after each frame.
use mathlib.Core.Path.{◌≡◌, refl, sym, ap, subst, ◌∙◌}
use mathlib.Core.Bool.{true, false, ◌&&◌, ◌||◌}
use mathlib.Core.List.{List, [], ◌∷◌, ◌++◌, append_assoc}
use mathlib.Core.Option.{none}
use Prim.Native.Nat.{ℕ, zero, suc, ◌+◌, ◌-◌, ◌≤◌, ◌<◌}
use native.Mathlib.Numerals.{add-one}
use native.Mathlib.Omega.{arith}
use borrow.Author.Tests.{eqb-true, leb-false, not-false}
use lib.Dec.{eqb, leb}
use lib.ListN.{length, get_or, set, length-set}
use lib.Seq.{get_or-set_same, get_or-set_other}
use Rattle.lists.proofs.TestOutcomes.{impossible, clash}
use Rattle.lists.proofs.TestLaws.{none_broken, neither}
use Rattle.number_sets.specs.NumberSets.{Marks, Blank}
use Rattle.number_sets.proofs.MarkLaws.{now_in}
use Rattle.catalog_frames.specs.Frames.{Point, Head, Frame, model_frame, group_frame, point_frame, end_frame, malformed, word, frame_at}
use Rattle.catalog_frames.specs.Frames.{words_of, fill}
use Rattle.catalog.specs.State as check
use Rattle.catalog.specs.State.{OpenGroup, start, next}
use Rattle.catalog.specs.Rules.{run, no_model, in_top, after_group, is_malformed, rules, fault}
use Rattle.catalog.specs.InternalScans.{frames_onward, is_model, is_numbered, numbers_in}
use Rattle.catalog.specs.InternalTracking.{code_start, Within, Tracks, Opens, DepthAllows, upcoming_run_at}
use Rattle.catalog.specs.InternalTracking.{numbers_so_far, with_opened, with_ended, state_of}
use Rattle.catalog.specs.declared.state.State.{State}
use Rattle.catalog.proofs.FrameWords.{eight_back}
use Rattle.catalog.proofs.OpenGroups.{one_deeper}
use Rattle.catalog.proofs.TrackedRules.{no_upcoming_point, none_open}

-- If n is at most b, so is each entry of the list n, 0, 0, 0.
first_alone : (n b : ℕ) → n ≤ b → (k : ℕ) → get_or (n ∷ 0 ∷ 0 ∷ 0 ∷ []) k 0 ≤ b
first_alone n b h zero = h
first_alone n b h (suc zero) = omega arith
first_alone n b h (suc (suc zero)) = omega arith
first_alone n b h (suc (suc (suc zero))) = omega arith
first_alone n b h (suc (suc (suc (suc k)))) = omega arith

-- Before the first frame.
pub tracks_start : (ws used : List ℕ) → Blank used → Tracks ws used 0 code_start start
unfolding numbers_in
tracks_start ws used blank =
    record {
      within = record { few = omega arith; deep = omega arith; four = refl; passed = first_alone 0 0 (omega arith) };
      models = refl;
      words = blank.size;
      ids = blank.none;
      depth = refl;
      numbers = λ h. absurd (omega (arith, h));
      has_fill = refl;
      open_groups = tt;
    }

-- ---- Numbers of the frames so far

module _ (ws : List ℕ) (first n i : ℕ) (e : first + n ≡ i) where
  number_added : is_numbered ws i ≡ true
      → numbers_in ws first (suc n) ≡ word ws i 1 ∷ numbers_in ws first n
  unfolding numbers_in
  number_added h = let g = rw (← e) at h in rw (← e, numbers_in, g)

  nothing_added : is_numbered ws i ≡ false
      → numbers_in ws first (suc n) ≡ numbers_in ws first n
  unfolding numbers_in
  nothing_added h = let g = rw (← e) at h in simp (numbers_in, g)

-- The eight words of frame i. Unless the frame is malformed, `words_of` gives them back.
abbrev pub eight_words : List ℕ → ℕ → List ℕ
eight_words ws i =
    word ws i 0 ∷ word ws i 1 ∷ word ws i 2 ∷ word ws i 3 ∷ word ws i 4 ∷ word ws i 5 ∷ word ws i 6 ∷ word ws i 7 ∷ []

pub words_here : (ws : List ℕ) (i : ℕ) (f : Frame) → frame_at ws i ≡ f → is_malformed f ≡ false → words_of f ≡ eight_words ws i
words_here ws i f e =
    let w = word ws i in
    let back = eight_back (w 0) (w 1) (w 2) (w 3) (w 4) (w 5) (w 6) (w 7) in
    subst (λ x. is_malformed x ≡ false → words_of x ≡ eight_words ws i) e back

pub word_here : (ws : List ℕ) (i : ℕ) (f : Frame) → frame_at ws i ≡ f → is_malformed f ≡ false → (k : ℕ)
    → get_or (eight_words ws i) k 0 ≡ get_or (words_of f) k 0
word_here ws i f e m k = sym (ap (λ l. get_or l k 0) (words_here ws i f e m))

pub kind_here : (ws : List ℕ) (i : ℕ) (f : Frame) → frame_at ws i ≡ f → is_malformed f ≡ false
    → word ws i 0 ≡ get_or (words_of f) 0 0
kind_here ws i f e m = word_here ws i f e m 0

-- The code's state after a frame, by its kind.
abbrev pub state_by : State → ℕ → Frame → State
state_by c i (model_frame id) = with_opened c i (c.models + 1) false
state_by c i (group_frame h) = with_opened c i c.models (c.has_fill || eqb h.count_kind fill)
state_by c i (point_frame p) = c
state_by c i end_frame = with_ended c
state_by c i malformed = c

pub state_here : (ws : List ℕ) (i : ℕ) (c : State) (f : Frame) → frame_at ws i ≡ f → is_malformed f ≡ false
    → state_of (word ws i 0) (word ws i 3) i c ≡ state_by c i f
state_here ws i c (model_frame id) e m = rw (kind_here ws i (model_frame id) e m)
state_here ws i c (group_frame h) e m =
    let count : word ws i 3 ≡ h.count_kind = word_here ws i (group_frame h) e m 3 in
    rw (kind_here ws i (group_frame h) e m, count)
state_here ws i c (point_frame p) e m = rw (kind_here ws i (point_frame p) e m)
state_here ws i c end_frame e m = rw (kind_here ws i end_frame e m)
state_here ws i c malformed e m = clash m

-- The numbers used after frame i: the same, or with the frame's own number.
module _ (ws used : List ℕ) (i : ℕ) (c : State) (s : check.State) (t : Tracks ws used i c s) where
  pub numbers_kept : 1 ≤ c.depth → (k : ℕ) → word ws i 0 ≡ k → leb 2 k && leb k 3 ≡ false
      → s.numbers ≡ numbers_so_far ws (i + 1) c
  numbers_kept d k e h =
      let p = t.within.passed 0 in
      let f = get_or c.firsts 0 0 in
      let m : i + 1 - f ≡ suc (i - f) = omega arith in
      rw (m, nothing_added ws f (i - f) i (omega arith) (rw e h)) (t.numbers d)

  pub number_more : 1 ≤ c.depth → (k n : ℕ) → word ws i 0 ≡ k → leb 2 k && leb k 3 ≡ true → word ws i 1 ≡ n
      → n ∷ s.numbers ≡ numbers_so_far ws (i + 1) c
  number_more d k n e h q =
      let p = t.within.passed 0 in
      let f = get_or c.firsts 0 0 in
      let m : i + 1 - f ≡ suc (i - f) = omega arith in
      rw (m, number_added ws f (i - f) i (omega arith) (rw e h), q) (ap (λ ns. n ∷ ns) (t.numbers d))

  -- If the state does not change, its bounds hold one frame later.
  later : Within (i + 1) c
  later =
      let w = t.within in
      let few = w.few in
      record { few = omega arith; deep = w.deep; four = w.four; passed = λ k. let p = w.passed k in omega arith }

-- Storing a number that keeps a bound keeps the bound on all entries.
still_bounded : (xs : List ℕ) (d v b : ℕ) → ((k : ℕ) → get_or xs k 0 ≤ b) → v ≤ b → (k : ℕ) → get_or (set xs d v) k 0 ≤ b
still_bounded [] d v b h g k = omega arith
still_bounded (x ∷ xs) zero v b h g zero = g
still_bounded (x ∷ xs) zero v b h g (suc k) = h (suc k)
still_bounded (x ∷ xs) (suc d) v b h g zero = h 0
still_bounded (x ∷ xs) (suc d) v b h g (suc k) = still_bounded xs d v b (λ j. h (suc j)) g k

-- ---- After each kind of frame

module _ (ws used : List ℕ) (i : ℕ) (c : State) (s : check.State) (t : Tracks ws used i c s) (used' : List ℕ)
    (m : Marks used used' (λ n. is_model ws i && eqb n (word ws i 1)) true) where
  -- A frame that is not a model frame adds no id.
  same_ids : is_model ws i ≡ false → Tracks ws used' i c s
  same_ids e =
      record {
        within = t.within;
        models = t.models;
        words = m.words ∙ t.words;
        ids = λ n h. (rw e at (m.has t.words n h)) ∙ t.ids n h;
        depth = t.depth;
        numbers = t.numbers;
        has_fill = t.has_fill;
        open_groups = t.open_groups;
      }

  after_model : (id : ℕ) → frame_at ws i ≡ model_frame id → no_model s.open_groups ≡ true
      → Tracks ws used' (i + 1) (state_by c i (model_frame id)) (next s (model_frame id))
  unfolding numbers_in
  after_model id e n =
      let few = t.within.few in
      let four = t.within.four in
      let closed : c.depth ≡ 0 = eqb-true c.depth 0 (none_open c.depth s.open_groups t.depth ∙ n) in
      let kind = kind_here ws i (model_frame id) e refl in
      let here : word ws i 1 ≡ id = word_here ws i (model_frame id) e refl 1 in
      let stored : get_or (set c.firsts c.depth (i + 1)) 0 0 ≡ i + 1 =
      rw closed (get_or-set_same c.firsts 0 (i + 1) 0 (omega arith)) in
      let passed : (k : ℕ) → get_or c.firsts k 0 ≤ i + 1 = λ k. let p = t.within.passed k in omega arith in
      let none_yet : i + 1 - (i + 1) ≡ 0 = omega arith in
      record {
        within = record {
          few = omega arith;
          deep = omega arith;
          four = length-set c.firsts c.depth (i + 1) ∙ four;
          passed = still_bounded c.firsts c.depth (i + 1) (i + 1) passed (omega arith);
        };
        models = ap (λ n. n + 1) t.models ∙ add-one (length s.ids);
        words = m.words ∙ t.words;
        ids = λ n h.
            (rw (kind, here) at (now_in used used' _ t.words n h m)) ∙ ap (λ b. eqb n id || b) (t.ids n h);
        depth = omega arith;
        numbers = λ h. rw (stored, none_yet);
        has_fill = refl;
        open_groups = (rw stored, refl, tt);
      }

module _ (ws used : List ℕ) (i : ℕ) (c : State) (s : check.State) (t : Tracks ws used i c s) where
  module _ (l : OpenGroup) (ls : List OpenGroup) (q : s.open_groups ≡ l ∷ ls) where
    depth_here : c.depth ≡ suc (length ls)
    depth_here = t.depth ∙ ap length q

    after_group_lem : (h : Head) → frame_at ws i ≡ group_frame h → run (frames_onward ws i) ≡ [] → c.depth < 4
        → Tracks ws used (i + 1) (state_by c i (group_frame h)) (next s (group_frame h))
    after_group_lem h e r deep =
        let kind = kind_here ws i (group_frame h) e refl in
        let number : word ws i 1 ≡ h.number = word_here ws i (group_frame h) e refl 1 in
        let few = t.within.few in
        let d = depth_here in
        let o = subst (Opens ws c.firsts c.has_group []) q (no_upcoming_point ws used i c s t r) in
        let f = get_or-set_other c.firsts c.depth 0 (i + 1) 0 (λ z. omega (arith, z, d)) in
        let four = t.within.four in
        let stored = get_or-set_same c.firsts c.depth (i + 1) 0 (omega arith) in
        let around : List OpenGroup = record { points = l.points; has_group = true } ∷ ls in
        let kept = one_deeper ws c.firsts true [] around c.depth (i + 1) (omega arith) (o.0, refl, o.2) in
        let passed : (k : ℕ) → get_or c.firsts k 0 ≤ i + 1 = λ k. let p = t.within.passed k in omega arith in
        record {
          within = record {
            few = omega arith;
            deep = omega arith;
            four = length-set c.firsts c.depth (i + 1) ∙ four;
            passed = still_bounded c.firsts c.depth (i + 1) (i + 1) passed (omega arith);
          };
          models = t.models;
          words = t.words;
          ids = t.ids;
          depth = rw q (omega arith);
          numbers = λ h. rw f (number_more ws used i c s t (omega arith) 2 _ kind refl number);
          has_fill = ap (λ b. b || eqb h.count_kind fill) t.has_fill;
          open_groups = rw q (rw (← d, stored), refl, kept);
        }

    after_point : (p : Point) → frame_at ws i ≡ point_frame p → run (frames_onward ws i) ≡ p ∷ run (frames_onward ws (i + 1))
        → l.has_group ≡ false → Tracks ws used (i + 1) (state_by c i (point_frame p)) (next s (point_frame p))
    after_point p e r g =
        let kind = kind_here ws i (point_frame p) e refl in
        let number : word ws i 1 ≡ p.number = word_here ws i (point_frame p) e refl 1 in
        let d = depth_here in
        let o = subst (Opens ws c.firsts c.has_group (upcoming_run_at ws i c.has_group)) q t.open_groups in
        let b : c.has_group ≡ false = sym o.1 ∙ g in
        let same : upcoming_run_at ws i c.has_group ≡ p ∷ run (frames_onward ws (i + 1)) = ap (upcoming_run_at ws i) b ∙ r in
        let on : upcoming_run_at ws (i + 1) c.has_group ≡ run (frames_onward ws (i + 1)) = ap (upcoming_run_at ws (i + 1)) b in
        let following = append_assoc l.points (p ∷ []) (run (frames_onward ws (i + 1))) in
        let moved = ap (λ ps. (l.points ++ (p ∷ [])) ++ ps) on ∙ following in
        record {
          within = later ws used i c s t;
          models = t.models;
          words = t.words;
          ids = t.ids;
          depth = rw q d;
          numbers = λ h. number_more ws used i c s t h 3 _ kind refl number;
          has_fill = t.has_fill;
          open_groups = rw q (o.0 ∙ ap (λ ps. l.points ++ ps) same ∙ sym moved, o.1, o.2);
        }

    after_end : frame_at ws i ≡ end_frame → run (frames_onward ws i) ≡ []
        → Tracks ws used (i + 1) (state_by c i end_frame) (next s end_frame)
    after_end e r =
        let few = t.within.few in
        let deep = t.within.deep in
        let d = depth_here in
        let o = subst (Opens ws c.firsts c.has_group []) q (no_upcoming_point ws used i c s t r) in
        record {
          within = record {
            few = omega arith;
            deep = omega arith;
            four = t.within.four;
            passed = (later ws used i c s t).passed;
          };
          models = t.models;
          words = t.words;
          ids = t.ids;
          depth = rw q (omega arith);
          numbers = λ h. numbers_kept ws used i c s t (omega arith) 4 (kind_here ws i end_frame e refl) refl;
          has_fill = t.has_fill;
          open_groups = rw q o.2;
        }

-- ---- After any frame

module _ (ws used : List ℕ) (i : ℕ) (c : State) (s : check.State) (t : Tracks ws used i c s) where
  -- If a model is open, there is an innermost open group.
  inside : (X : Type 0) → no_model s.open_groups ≡ false
      → ((l : OpenGroup) (ls : List OpenGroup) → s.open_groups ≡ l ∷ ls → X) → X
  inside X h k = go s.open_groups refl h
    where
      go : (ls : List OpenGroup) → s.open_groups ≡ ls → no_model ls ≡ false → X
      go [] q g = clash g
      go (l ∷ ls) q g = k l ls q

  -- A frame that breaks no rule opens no fifth level, and ends a group only if one is open.
  may_follow : (f : Frame) (upcoming_run : List Point) → fault s f upcoming_run ≡ none → DepthAllows (get_or (words_of f) 0 0) c
  may_follow (model_frame id) upcoming_run n =
      let x = not-false _ ((none_broken (rules s (model_frame id) upcoming_run)).0 n).1.0 in
      let closed = eqb-true c.depth 0 (none_open c.depth s.open_groups t.depth ∙ x) in
      record { opens = λ k. omega arith; ends = λ k. omega arith }
  may_follow (group_frame h) upcoming_run n =
      let d = t.depth in
      let y = leb-false 4 (length s.open_groups) ((none_broken (rules s (group_frame h) upcoming_run)).0 n).1.1.0 in
      record { opens = λ k. omega arith; ends = λ k. omega arith }
  may_follow (point_frame p) upcoming_run n = record { opens = λ k. absurd (omega arith); ends = λ k. absurd (omega arith) }
  may_follow end_frame upcoming_run n =
      let x = ((none_broken (rules s end_frame upcoming_run)).0 n).1.0 in
      record {
        opens = λ k. absurd (omega arith);
        ends = λ k. inside (1 ≤ c.depth) x (λ l ls q. let d = t.depth ∙ ap length q in omega arith);
      }
  may_follow malformed upcoming_run n = impossible (cc)

  pub depth_allows : (f : Frame) (upcoming_run : List Point) → frame_at ws i ≡ f → fault s f upcoming_run ≡ none
      → DepthAllows (word ws i 0) c
  depth_allows f upcoming_run e n =
      rw (kind_here ws i f e ((none_broken (rules s f upcoming_run)).0 n).0) (may_follow f upcoming_run n)

-- After a frame that breaks no rule.
module _ (ws used : List ℕ) (i : ℕ) (c : State) (s : check.State) (t : Tracks ws used i c s) (used' : List ℕ)
    (m : Marks used used' (λ n. is_model ws i && eqb n (word ws i 1)) true) where
  pub tracks_next : (f : Frame) → frame_at ws i ≡ f → frames_onward ws i ≡ f ∷ frames_onward ws (i + 1)
      → fault s f (run (frames_onward ws i)) ≡ none → Tracks ws used' (i + 1) (state_by c i f) (next s f)
  tracks_next (model_frame id) e a n =
      let x = ((none_broken (rules s (model_frame id) (run (frames_onward ws i)))).0 n).1.0 in
      after_model ws used i c s t used' m id e (not-false (no_model s.open_groups) x)
  tracks_next (group_frame h) e a n =
      let b = (none_broken (rules s (group_frame h) (run (frames_onward ws i)))).0 n in
      let x = ((neither (no_model s.open_groups) (in_top s.open_groups && s.has_fill)).0 b.1.0).0 in
      let y = leb-false 4 (length s.open_groups) b.1.1.0 in
      let d = t.depth in
      let t' = same_ids ws used i c s t used' m (rw (kind_here ws i (group_frame h) e refl)) in
      inside ws used i c s t (Tracks ws used' (i + 1) (state_by c i (group_frame h)) (next s (group_frame h))) x
      (λ l ls q. after_group_lem ws used' i c s t' l ls q h e (ap run a) (omega arith))
  tracks_next (point_frame p) e a n =
      let b = (none_broken (rules s (point_frame p) (run (frames_onward ws i)))).0 n in
      let x = (neither (no_model s.open_groups) (after_group s.open_groups)).0 b.1.0 in
      let t' = same_ids ws used i c s t used' m (rw (kind_here ws i (point_frame p) e refl)) in
      inside ws used i c s t (Tracks ws used' (i + 1) (state_by c i (point_frame p)) (next s (point_frame p))) x.0
      (λ l ls q. after_point ws used' i c s t' l ls q p e (ap run a) (sym (ap after_group q) ∙ x.1))
  tracks_next end_frame e a n =
      let b = (none_broken (rules s end_frame (run (frames_onward ws i)))).0 n in
      let t' = same_ids ws used i c s t used' m (rw (kind_here ws i end_frame e refl)) in
      inside ws used i c s t (Tracks ws used' (i + 1) (state_by c i end_frame) (next s end_frame)) b.1.0
      (λ l ls q. after_end ws used' i c s t' l ls q e (ap run a))
  tracks_next malformed e a n = impossible (cc)
