-- `catalog::check` meets its contract: rules 1 and 2 come before any frame.
use mathlib.Core.Path.{sym, ◌∙◌}
use native.Mathlib.Omega.{arith}
use Rattle.catalog.proofs.CheckSteps as steps
use Rattle.catalog.proofs.check.Goals as goal

pub returns-then-catalog-ne0 : goal.returns-then-catalog-ne0
returns-then-catalog-ne0 c = rw c.into.ensures (sym (steps.not_whole_lem c.args.catalog.now c.if-catalog-ne0.true))

pub returns-then-catalog-gt-FRAMES : goal.returns-then-catalog-gt-FRAMES
returns-then-catalog-gt-FRAMES c =
    let ws = c.args.catalog.now in
    rw c.into-then-catalog-gt-FRAMES.ensures
    (sym (steps.too_many ws c.if-catalog-ne0.false (omega (arith, c.if-catalog-gt-FRAMES.true))))

pub returns : goal.returns
returns c =
    let ws = c.args.catalog.now in
    c.check_frames.ensures ∙ sym (steps.by_frames ws c.if-catalog-ne0.false c.if-catalog-gt-FRAMES.false)
