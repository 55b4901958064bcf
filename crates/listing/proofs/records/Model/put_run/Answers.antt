-- `listing::records::Model::put_run` meets its contract: writing the remaining points gives what writing all gives.
use native.Mathlib.Omega.{arith}
use Rattle.catalog_frames.specs.CodeTypes.{to_spec_point}
use Rattle.listing.proofs.PointRuns.{still_within, still_past, still_other, first_fits, still_first}
use Rattle.listing.proofs.records.Model.put_run.Goals as goal

pub returns-then-self-at : goal.returns-then-self-at
returns-then-self-at c =
    let h = still_past c.loop-point.invariant.2 c.if-self-at.true in
    record { after_run = h.0; out_after = h.1 }

pub put_record-requires-clause-point_fits : goal.put_record-requires-clause-point_fits
put_record-requires-clause-point_fits c =
    (first_fits c.loop-point.invariant.2 (to_spec_point c.in-Some.point) _ c.if-self-at.false c.in-Some.ensures.steps).0

pub put_record-requires-clause-records_in_bounds :
    goal.put_record-requires-clause-records_in_bounds
put_record-requires-clause-records_in_bounds c =
    (first_fits c.loop-point.invariant.2 (to_spec_point c.in-Some.point) _ c.if-self-at.false c.in-Some.ensures.steps).1

pub overflow_add-at-in-loop-point-2 : goal.overflow_add-at-in-loop-point-2
overflow_add-at-in-loop-point-2 c =
    let i = c.loop-point.invariant.2 in
    omega (arith, c.args.self.now.catalog.few, still_within i)

pub loop-point-preserved : goal.loop-point-preserved
loop-point-preserved c =
    let written = still_first c.loop-point.invariant.2 (to_spec_point c.in-Some.point) _ c.if-self-at.false c.in-Some.ensures.steps
    c.put_record.new.out c.put_record.ensures in
    (tt, tt, rw c.from.ensures written)

pub returns : goal.returns
returns c =
    let h = still_other c.loop-point.invariant.2 c.in-None.ensures.steps.0 in
    record { after_run = h.0; out_after = h.1 }
