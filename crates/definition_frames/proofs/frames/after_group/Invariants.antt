-- `definition_frames::frames::after_group` meets its contract: the frames visited and the frames to the end are together those
-- of the group.
use mathlib.Core.Path.{◌≡◌}
use Prim.Native.Nat.{◌+◌, ◌≤◌}
use Rattle.layout.specs.FrameWalk.{onward, frames_to_end, frames_of_group}
use Rattle.definition_frames.proofs.frames.after_group.Given as goal

abbrev pub invariant-loop-at : goal.invariant-loop-at
invariant-loop-at l =
    (l.at + frames_to_end (onward l.catalog l.at) l.depth ≡ l.i + frames_of_group (onward l.catalog l.i))
    × (l.depth ≤ l.at)
