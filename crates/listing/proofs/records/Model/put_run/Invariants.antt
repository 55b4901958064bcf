-- `listing::records::Model::put_run` meets its contract: writing the remaining points gives what writing all gives.
use Rattle.definition_frames.specs.CodeTypes.{points_left}
use Rattle.listing.proofs.PointRuns.{StillWrites}
use Rattle.listing.proofs.records.Model.put_run.Given as goal

abbrev pub invariant-loop-point : goal.invariant-loop-point
invariant-loop-point l =
    (goal.iterator-loop-point).can_next l.point-iterator
    × (goal.iterator-loop-point).is_finite l.point-iterator
    × StillWrites l.self.catalog.words.now l.self.body.now l.table l.self.visit l.path.instances l.initial.out l.initial.at l.out l.at
    (points_left l.point-iterator)
