-- Checking a catalog (document 01, "Checking"): rules 1 and 2, then 3 to 10 frame by frame, then 11 at the end.
use Rattle.std.specs.Prelude.{true, false, List, [], ◌∷◌, ℕ, suc, ◌/◌, ◌%◌, eqb, ltb, length}
use Rattle.std.proofs.Math.Option.{none, some}
use Rattle.catalog_frames.specs.Frames.{Frame, frames}
use Rattle.catalog.specs.State.{State, start, next}
use Rattle.catalog.specs.Rules.{no_model, run, fault}

-- The result of checking: the number of models, or a refusal's number and its place. The place is the index of the frame, the
-- number of frames for 11, and 0 for 1 and 2.
pub data Verdict : Type 0 where
  accepted : ℕ → Verdict
  refused : ℕ → ℕ → Verdict

-- The result after the last of i frames. 11: a model is still open.
abbrev pub verdict_at_end : State → ℕ → Verdict
verdict_at_end s i = elim (no_model s.open_groups) [ true ↦ accepted (length s.ids) | false ↦ refused 11 i ]

-- The result for the frames from frame i on, in order: the first fault decides.
unfoldable pub check_from : State → ℕ → List Frame → Verdict
check_from s i [] = verdict_at_end s i
check_from s i (f ∷ fs) =
    elim (fault s f (run (f ∷ fs))) [ none ↦ check_from (next s f) (suc i) fs | some n ↦ refused n i ]

-- The result for all frames.
abbrev pub frames_checked : List ℕ → Verdict
frames_checked ws = check_from start 0 (frames ws)

-- 1: the length is not a multiple of 8. 2: over 4,096 frames. Then frame by frame.
unfoldable pub checked : List ℕ → Verdict
checked ws =
    elim (eqb (length ws % 8) 0) [
      | false ↦ refused 1 0
      | true ↦ elim (ltb 4096 (length ws / 8)) [ true ↦ refused 2 0 | false ↦ frames_checked ws ]
    ]
