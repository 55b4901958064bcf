-- `definition_frames::runs::run_extent` meets its contract: the points counted and the points that are left are together those
-- of the run.
use native.Mathlib.Omega.{arith}
use mathlib.Core.Path.{ap, ◌∙◌}
use Rattle.catalog_frames.specs.CodeTypes.{to_spec_point}
use Rattle.definition_frames.specs.CodeTypes.{points_left}
use Rattle.definition_frames.proofs.RunSteps.{counts_none, counts_point, counts_end}
use Rattle.definition_frames.proofs.runs.run_extent.Goals as goal

pub loop-point-init : goal.loop-point-init
loop-point-init c =
    let same = c.into_iter-point-iterator.ensures.into_iter_gives in
    let taken = c.take-point-items.ensures in (
      tt,
      tt,
      counts_none _ _ _ _ (ap (λ t. t.n) same ∙ taken.count)
          (ap (λ t. points_left t.iter) same ∙ ap points_left taken.source ∙ c.points_from.ensures),
    )

pub loop-point-preserved : goal.loop-point-preserved
loop-point-preserved c =
    let steps = c.in-Some.ensures.steps in
    let p = to_spec_point c.in-Some.point in
    let counted = counts_point _ _ _ _ _ _ _ p c.loop-point.invariant.2 steps.0 steps.1 (omega arith) in
    (tt, tt, rw c.from.ensures counted)

pub returns : goal.returns
returns c = counts_end _ _ _ _ _ c.loop-point.invariant.2 (λ room. (c.in-None.ensures.steps room).0)
