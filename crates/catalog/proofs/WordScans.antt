-- The code's scans over the frames, step by step.
use mathlib.Core.Path.{◌≡◌, refl}
use mathlib.Core.Bool.{Bool, true, false, ◌&&◌, ◌||◌}
use mathlib.Core.List.{List, [], ◌∷◌, ◌++◌}
use Prim.Native.Nat.{ℕ, suc, ◌+◌, ◌-◌, ◌/◌, ◌≤◌, ◌<◌}
use native.Mathlib.Numerals.{add-one}
use native.Mathlib.Omega.{arith}
use lib.Dec.{eqb}
use lib.ListN.{length, get_or}
use Rattle.lists.specs.Members.{among}
use Rattle.catalog_frames.specs.Frames.{Point, Frame, model_frame, group_frame, end_frame, word, frame_at, frames_from}
use Rattle.catalog.specs.Rules.{run, has_point, has_scale_factor, is_scale_factor_point}
use Rattle.catalog_frames.specs.InternalWords.{zero_words, head_words, point_words}
use Rattle.catalog.specs.InternalScans.{is_numbered, has_number, numbers_in, frames_onward, runs_of}
use Rattle.catalog_frames.proofs.FrameKinds as kinds

-- ---- Numbers of frames

module _ (ws : List ℕ) (first number : ℕ) where
  -- The numbers of m + 1 frames are that of the last frame, if it has one, and those of the first m.
  number_more : (m : ℕ)
      → among number (numbers_in ws first (suc m))
      ≡ has_number ws number (first + m) || among number (numbers_in ws first m)
  unfolding numbers_in
  number_more m = go (word ws (first + m) 1) (numbers_in ws first m) (is_numbered ws (first + m))
    where
      go : (w : ℕ) (ns : List ℕ) (b : Bool)
          → among number (elim b [ true ↦ w ∷ ns | false ↦ ns ]) ≡ (b && eqb number w) || among number ns
      go w ns true = refl
      go w ns false = refl

  pub number_here : (m j : ℕ) → j ≡ first + m
      → has_number ws number j || among number (numbers_in ws first m) ≡ among number (numbers_in ws first (suc m))
  number_here m j q = rw (number_more m, ← q)

  pub number_next : (n m j : ℕ) → n ≡ m + 1 → j ≡ first + m
      → among number (numbers_in ws first n) ≡ among number (numbers_in ws first m) || has_number ws number j
  number_next n m j e q =
      rw (e, add-one m, number_more m, ← q) (exchanged (has_number ws number j) (among number (numbers_in ws first m)))
    where
      exchanged : (a b : Bool) → a || b ≡ b || a
      exchanged true true = refl
      exchanged true false = refl
      exchanged false true = refl
      exchanged false false = refl

  pub number_nowhere : (n : ℕ) → n ≤ 0 → among number (numbers_in ws first n) ≡ false
  unfolding numbers_in
  number_nowhere n h = let e : n ≡ 0 = omega arith in rw e

-- ---- Runs of points

-- The frames from frame j on: frame j and those after it, or none.
pub frames_more : (ws : List ℕ) (j : ℕ) → j < length ws / 8 → frames_onward ws j ≡ frame_at ws j ∷ frames_onward ws (j + 1)
unfolding frames_from
frames_more ws j h =
    let e : length ws / 8 - j ≡ suc (length ws / 8 - (j + 1)) = omega arith in
    rw (e, frames_from, add-one j)

pub frames_none : (ws : List ℕ) (j : ℕ) → length ws / 8 ≤ j → frames_onward ws j ≡ []
unfolding frames_from
frames_none ws j h = let e : length ws / 8 - j ≡ 0 = omega arith in rw (e, frames_from)

-- If a frame does not begin a run, it does not begin one as a malformed frame either.
formed_run : (b : Bool) (f : Frame) (fs : List Frame) → run (f ∷ fs) ≡ [] → run (kinds.formed b f ∷ fs) ≡ []
formed_run true f fs h = h
formed_run false f fs h = refl

-- A frame that is not a point frame begins no run.
no_point_here : (ws : List ℕ) (i k : ℕ) → k ≡ word ws i 0 → (k ≡ 3 → ⊥) → (fs : List Frame) → run (frame_at ws i ∷ fs) ≡ []
no_point_here ws i k kind n fs =
    kinds.by_kind ws i k kind (λ f. run (f ∷ fs) ≡ [])
    (λ e. formed_run (zero_words ws i 2 6) (model_frame (word ws i 1)) fs refl)
    (λ e. formed_run (zero_words ws i 5 3) (group_frame (head_words ws i)) fs refl)
    (λ e. absurd (n e))
    (λ e. formed_run (zero_words ws i 1 7) end_frame fs refl)
    (λ x y z w. refl)

-- A point frame begins a run with its point; any other frame begins none.
module _ (ws : List ℕ) (j k : ℕ) (h : j < length ws / 8) (q : k ≡ word ws j 0) where
  pub run_continues : k ≡ 3 → run (frames_onward ws j) ≡ point_words ws j ∷ run (frames_onward ws (j + 1))
  run_continues e = rw (frames_more ws j h, kinds.kind_3 ws j k q e)

  pub run_ends : (k ≡ 3 → ⊥) → run (frames_onward ws j) ≡ []
  run_ends n = rw (frames_more ws j h) (no_point_here ws j k q n (frames_onward ws (j + 1)))

-- ---- The runs of the open groups

-- A list has a point if and only if one of its two parts has it.
pub has_either : (such : Point → Bool) (ps qs : List Point) → has_point such (ps ++ qs) ≡ has_point such ps || has_point such qs
has_either such [] qs = refl
has_either such (p ∷ ps) qs = go (such p) (has_either such ps qs)
  where
    go : (b : Bool) → has_point such (ps ++ qs) ≡ has_point such ps || has_point such qs
        → b || has_point such (ps ++ qs) ≡ (b || has_point such ps) || has_point such qs
    go true e = refl
    go false e = e

module _ (ws firsts : List ℕ) (n k m : ℕ) (e : k ≡ m + 1) where
  -- The scale factors of m + 1 runs are those of the last run and those of the first m.
  pub scope_more : has_scale_factor n (runs_of ws firsts k)
      ≡ has_scale_factor n (run (frames_onward ws (get_or firsts m 0))) || has_scale_factor n (runs_of ws firsts m)
  unfolding runs_of
  scope_more =
      rw (e, add-one m) (has_either (is_scale_factor_point n) (run (frames_onward ws (get_or firsts m 0))) (runs_of ws firsts m))
