-- `survey_catalog`: the text gives the frames so far and what the lines left give.
use Prim.Native.Nat.{◌+◌, ◌≤◌}
use lib.ListN.{length}
use Rattle.input.specs.InternalContracts.{FramesFound}
use Rattle.input.proofs.CatalogLines.{LeftIn}
use Rattle.input.proofs.lines.survey_catalog.Given as goal

abbrev pub invariant-loop-line : goal.invariant-loop-line
invariant-loop-line l =
    FramesFound l.text l.capacity l.frames (LeftIn l.rest l.capacity l.frames) × (l.frames + length l.rest ≤ length l.text)

abbrev pub decreases-loop-line : goal.decreases-loop-line
decreases-loop-line l = length l.rest
