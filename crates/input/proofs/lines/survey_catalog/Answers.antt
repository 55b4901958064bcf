-- `survey_catalog`: the text gives the frames so far and what the lines left give.
use Rattle.std.proofs.Common.{rules, ◌≡◌, length}
use Rattle.std.proofs.lemmas.Result.{err_from_is_err_and}
use Rattle.input.specs.InternalContracts.{SplitsInto}
use Rattle.input.proofs.CatalogLines.{at_bad, at_end_lem}
use Rattle.input.proofs.lines.survey_catalog.Goals as goal

pub returns-in_err-frames : goal.returns-in_err-frames
returns-in_err-frames c =
    let s : SplitsInto c.loop-line.rest.now c.in-Some.line.now c.in-Some.after.now = search rules in
    let some : length c.in-Some.line.now ≡ 0 → ⊥ = search rules in
    let fault = rw c.is_catalog_line.ensures at c.in_err-frames.ensures in
    let p = err_from_is_err_and c.from_residual.result c.from_residual.ensures.1 in
    rw (p.1, p.2) (at_bad s c.loop-line.invariant.0 some fault)

pub returns : goal.returns
returns c = at_end_lem c.loop-line.invariant.0 c.in_default.ensures
