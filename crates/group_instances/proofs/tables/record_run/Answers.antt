-- `group_instances::tables::record_run` meets its contract: recording the points that are left gives the same table as
-- recording all points at the start.
use Rattle.catalog_frames.specs.CodeTypes.{to_spec_point}
use Rattle.definition_frames.specs.CodeTypes.{points_left}
use Rattle.layout.proofs.RecordedPoints.{record_first}
use Rattle.group_instances.proofs.tables.record_run.Goals as goal

pub loop-point-preserved : goal.loop-point-preserved
loop-point-preserved c =
    let l = c.loop-point in
    let more = c.in-Some.ensures.steps in
    let found = c.in-Some-get.ensures.lookup.3 in
    let first = record_first c.args.body.now l.at (to_spec_point c.in-Some.point) (points_left c.next.new.self) l.table found.0 in
    let register = found.1 0 in
    (tt, tt, cc)
