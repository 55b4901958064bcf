-- The unbroken run of point frames from frame i on: frame by frame, and in a group that is open there.
use mathlib.Core.Path.{◌≡◌, refl, sym, ap, ◌∙◌}
use mathlib.Core.List.{List, [], ◌∷◌, ◌++◌}
use mathlib.Core.Option.{none, some}
use Prim.Native.Nat.{ℕ, ◌+◌, ◌/◌, ◌≤◌, ◌<◌}
use native.Mathlib.Decide.{dec_le}
use native.Mathlib.Omega.{arith}
use lib.ListN.{length}
use Rattle.lists.proofs.TestOutcomes.{impossible}
use Rattle.catalog_frames.specs.Frames.{Point, Frame, model_frame, group_frame, point_frame, end_frame, malformed, frame_in}
use Rattle.catalog.specs.Rules.{run}
use Rattle.model_definitions.specs.Definitions.{group_frames}
use Rattle.model_definitions.proofs.TreeFrames.{run_points, run_groups}
use Rattle.catalog_frames.proofs.FramesByIndex.{frame_beyond}
use Rattle.layout.specs.FrameWalk.{onward, point_of}
use Rattle.layout.specs.PointTables.{table_with, present_within}
use Rattle.layout.specs.InternalWalks.{content_from, ParsesAt, present_points}
use Rattle.layout.proofs.FramePosition.{onward_more, onward_none}

first_run : (f : Frame) (fs : List Frame) (p : Point) → point_of f ≡ some p → run (f ∷ fs) ≡ p ∷ run fs
first_run (point_frame q) fs p e = cc
first_run (model_frame id) fs p e = cc
first_run (group_frame h) fs p e = cc
first_run end_frame fs p e = cc
first_run malformed fs p e = cc

no_run : (f : Frame) (fs : List Frame) → point_of f ≡ none → run (f ∷ fs) ≡ []
no_run (point_frame q) fs e = cc
no_run (model_frame id) fs e = refl
no_run (group_frame h) fs e = refl
no_run end_frame fs e = refl
no_run malformed fs e = refl

-- A point frame is in the catalog, and it begins the run.
pub run_more : (ws : List ℕ) (i : ℕ) (p : Point) → point_of (frame_in ws i) ≡ some p
    → (i < length ws / 8) × (run (onward ws i) ≡ p ∷ run (onward ws (i + 1)))
run_more ws i p e = go (dec_le (length ws / 8) i)
  where
    go : Dec (length ws / 8 ≤ i) → (i < length ws / 8) × (run (onward ws i) ≡ p ∷ run (onward ws (i + 1)))
    go (yes h) =
        let beyond : none ≡ some p = sym (ap point_of (frame_beyond ws i h)) ∙ e in
        impossible (cc)
    go (no n) =
        let h : i < length ws / 8 = omega arith in
        (h, ap run (onward_more ws i h) ∙ first_run (frame_in ws i) (onward ws (i + 1)) p e)

-- Any other frame ends the run.
pub run_ends : (ws : List ℕ) (i : ℕ) → point_of (frame_in ws i) ≡ none → run (onward ws i) ≡ []
run_ends ws i e = go (dec_le (length ws / 8) i)
  where
    go : Dec (length ws / 8 ≤ i) → run (onward ws i) ≡ []
    go (yes h) = ap run (onward_none ws i h)
    go (no n) = ap run (onward_more ws i (omega arith)) ∙ no_run (frame_in ws i) (onward ws (i + 1)) e

-- Where a group is open, the run is the rest of its points.
pub run_content : (ws : List ℕ) (i : ℕ) → ParsesAt ws i → run (onward ws i) ≡ (content_from ws i).points
run_content ws i s =
    ap run s.here
    ∙ run_points (content_from ws i).points (group_frames (content_from ws i).groups ++ (end_frame ∷ s.following))
    (run_groups (content_from ws i).groups s.following)

-- So recording the run records these points.
pub content_recorded : (ws : List ℕ) (i : ℕ) → ParsesAt ws i → (body : List ℕ) (offset : ℕ) (table : List ℕ)
    → table_with body offset (present_within (length body) offset (run (onward ws i))) table
    ≡ table_with body offset (present_points ws body offset i) table
content_recorded ws i s body offset table =
    ap (λ (ps : List Point). table_with body offset (present_within (length body) offset ps) table) (run_content ws i s)
