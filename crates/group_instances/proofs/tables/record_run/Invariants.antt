-- `group_instances::tables::record_run` meets its contract: recording the points that are left gives the same table as
-- recording all points at the start.
use mathlib.Core.Path.{◌≡◌}
use lib.ListN.{length}
use Rattle.catalog.specs.Rules.{run}
use Rattle.layout.specs.FrameWalk.{onward}
use Rattle.layout.specs.PointTables.{table_with, present_within}
use Rattle.definition_frames.specs.CodeTypes.{points_left}
use Rattle.group_instances.proofs.tables.record_run.Given as goal

abbrev pub invariant-loop-point : goal.invariant-loop-point
invariant-loop-point l =
    (goal.iterator-loop-point).can_next l.point-iterator
    × (goal.iterator-loop-point).is_finite l.point-iterator
    × (table_with l.body l.at (present_within (length l.body) l.at (points_left l.point-iterator)) l.table
    ≡ table_with l.body l.offset (present_within (length l.body) l.offset (run (onward l.catalog l.first))) l.initial.table)
