-- The frames of a catalog as a walk visits them: the frames from frame i on, the point or group of a frame, and the frames of
-- a group.
use Rattle.std.specs.Prelude.{List, [], ◌∷◌, ℕ, zero, suc, ◌+◌, ◌-◌, drop}
use Rattle.std.proofs.Math.Option.{Option, none, some}
use Rattle.catalog_frames.specs.Frames.{Point, Head, Frame, model_frame, group_frame, point_frame, end_frame, malformed, frames}

-- The frames from frame i on.
abbrev pub onward : List ℕ → ℕ → List Frame
onward ws i = drop i (frames ws)

-- The point of a point frame; none for any other frame.
abbrev pub point_of : Frame → Option Point
point_of (point_frame p) = some p
point_of (model_frame id) = none
point_of (group_frame h) = none
point_of end_frame = none
point_of malformed = none

-- The head of a group frame; none for any other frame.
abbrev pub head_of : Frame → Option Head
head_of (group_frame h) = some h
head_of (model_frame id) = none
head_of (point_frame p) = none
head_of end_frame = none
head_of malformed = none

-- The number of groups that are open after a frame, where `depth` are open before it.
abbrev pub open_after : Frame → ℕ → ℕ
open_after (group_frame h) depth = depth + 1
open_after end_frame depth = depth - 1
open_after (model_frame id) depth = depth
open_after (point_frame p) depth = depth
open_after malformed depth = depth

-- The number of frames from here to the end frame of the outermost of `depth` open groups, that one included. Where the frames
-- end first, all of them.
unfoldable pub frames_to_end : List Frame → ℕ → ℕ
frames_to_end [] depth = 0
frames_to_end (f ∷ fs) zero = 0
frames_to_end (f ∷ fs) (suc depth) = suc (frames_to_end fs (open_after f (suc depth)))

-- The number of frames of a group, where the first of these is its group frame. Where the frames end first, all of them.
abbrev pub frames_of_group : List Frame → ℕ
frames_of_group [] = 0
frames_of_group (f ∷ fs) = suc (frames_to_end fs 1)
