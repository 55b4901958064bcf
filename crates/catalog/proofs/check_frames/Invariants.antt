-- `catalog::check_frames` meets its contract: at each frame, checking the remaining frames gives the result for the whole.
use Rattle.catalog.proofs.CheckedFrame as frame
use Rattle.catalog.proofs.check_frames.Given as goal

abbrev pub invariant-loop-index : goal.invariant-loop-index
invariant-loop-index l = frame.Holds l.catalog l.index-counter l.tracking
