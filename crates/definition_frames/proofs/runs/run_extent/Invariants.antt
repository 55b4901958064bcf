-- `definition_frames::runs::run_extent` meets its contract: the points counted and the points that are left are together those
-- of the run.
use Rattle.std.specs.Iterator.Adapters.{take_source, take_count}
use Rattle.definition_frames.specs.CodeTypes.{points_left}
use Rattle.definition_frames.proofs.RunSteps.{Counted}
use Rattle.definition_frames.proofs.runs.run_extent.Given as goal

abbrev pub invariant-loop-point : goal.invariant-loop-point
invariant-loop-point l =
    (goal.iterator-loop-point).can_next l.point-iterator
    × (goal.iterator-loop-point).is_finite l.point-iterator
    × Counted l.catalog l.first l.run (take_count l.point-iterator) (points_left (take_source l.point-iterator))
