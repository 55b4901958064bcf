-- Checking step by step: the start, one frame, the end.
use mathlib.Core.Path.{◌≡◌, ap}
use mathlib.Core.Bool.{Bool, true, false}
use mathlib.Core.List.{List, [], ◌∷◌}
use mathlib.Core.Option.{none, some}
use Prim.Native.Nat.{ℕ, ◌/◌, ◌%◌, ◌≤◌, ◌+◌}
use native.Mathlib.Nat.{sub-zero}
use native.Mathlib.Numerals.{add-one}
use borrow.Author.Tests.{eq-eqb, ne_eqb, lt-ltb, le-ltb}
use Prim.Native.Nat.{◌<◌}
use lib.ListN.{length}
use Rattle.catalog_frames.specs.Frames.{Frame}
use Rattle.catalog.specs.State.{State, start, next}
use Rattle.catalog.specs.Rules.{no_model, run, fault}
use Rattle.catalog.specs.Checking.{Verdict, accepted, refused, check_from, frames_checked, checked}
use Rattle.catalog.specs.InternalScans.{frames_onward}

module _ (ws : List ℕ) where
  -- Rules 1 and 2 come before any frame.
  pub not_whole_lem : (length ws % 8 ≡ 0 → ⊥) → checked ws ≡ refused 1 0
  unfolding checked
  not_whole_lem n = simp (checked, ne_eqb (length ws % 8) 0 n)

  module _ (w : length ws % 8 ≡ 0) where
    pub too_many : 4096 < length ws / 8 → checked ws ≡ refused 2 0
    unfolding checked
    too_many h = simp (checked, eq-eqb (length ws % 8) 0 w, lt-ltb 4096 (length ws / 8) h)

    pub by_frames : length ws / 8 ≤ 4096 → checked ws ≡ frames_checked ws
    unfolding checked
    by_frames h = simp (checked, eq-eqb (length ws % 8) 0 w, le-ltb 4096 (length ws / 8) h)

  -- All frames are those from frame 0 on.
  pub from_first : check_from start 0 (frames_onward ws 0) ≡ frames_checked ws
  from_first = rw (sub-zero (length ws / 8))

module _ (s : State) (i : ℕ) (f : Frame) (fs rest : List Frame) (e : rest ≡ f ∷ fs) where
  -- A frame that breaks no rule, and one that does.
  pub continues : fault s f (run rest) ≡ none → check_from s i rest ≡ check_from (next s f) (i + 1) fs
  unfolding check_from
  continues n = let m = rw e at n in rw (e, check_from, m, add-one i)

  pub is_refused : (r : ℕ) → fault s f (run rest) ≡ some r → check_from s i rest ≡ refused r i
  unfolding check_from
  is_refused r n = let m = rw e at n in rw (e, check_from, m)

-- The result at the end, with a model open or not.
module _ (s : State) (i : ℕ) (rest : List Frame) (e : rest ≡ []) where
  at_end : Bool → Verdict
  at_end b = elim b [ true ↦ accepted (length s.ids) | false ↦ refused 11 i ]

  pub still_open : no_model s.open_groups ≡ false → check_from s i rest ≡ refused 11 i
  unfolding check_from at_end
  still_open n = rw e (ap at_end n)

  pub is_accepted_lem : no_model s.open_groups ≡ true → check_from s i rest ≡ accepted (length s.ids)
  unfolding check_from at_end
  is_accepted_lem n = rw e (ap at_end n)
