-- `catalog::scans::mark_run` meets its contract: the rest of the run is still to be marked.
use mathlib.Core.Path.{ap}
use native.Mathlib.Omega.{arith}
use Rattle.number_sets.proofs.MarkLaws as marks
use Rattle.catalog.specs.Rules.{run}
use Rattle.catalog.proofs.WordScans.{run_continues, run_ends, frames_none}
use Rattle.catalog.proofs.MarkLaws as laws
use Rattle.catalog.proofs.scans.mark_run.Goals as goal

pub returns-then-kind-ne-POINT : goal.returns-then-kind-ne-POINT
returns-then-kind-ne-POINT c =
    let l = c.loop-index in
    let a = c.args in
    let ends = run_ends a.catalog.now l.index _ (omega arith) c.kind.ensures c.if-kind-ne-POINT.true in
    l.invariant _ (marks.marks_none _ _ _ (λ n. laws.no_run a.catalog.now l.index a.target n ends))

pub loop-index-preserved : goal.loop-index-preserved
loop-index-preserved c =
    λ after m.
    let l = c.loop-index in
    let a = c.args in
    let kind = c.kind.ensures in
    let goes = run_continues a.catalog.now l.index _ (omega arith) kind c.if-kind-ne-POINT.false in
    l.invariant after
    (marks.marks_then _ _ _ _ _ _ _ c.mark_point.ensures m (λ n. laws.run_more a.catalog.now l.index a.target n goes))

pub returns : goal.returns
returns c =
    let l = c.loop-index in
    let a = c.args in
    let ends = ap run (frames_none a.catalog.now l.index (omega arith)) in
    l.invariant _ (marks.marks_none _ _ _ (λ n. laws.no_run a.catalog.now l.index a.target n ends))
