-- `survey_map`: the lines give the registers so far and what the lines left give.
use Rattle.std.proofs.Common.{rules}
use Rattle.std.proofs.lemmas.Result.{err_from_is_err_and}
use Rattle.input.specs.InternalContracts.{SplitsInto}
use Rattle.input.proofs.MapLines.{at_bad}
use Rattle.input.proofs.lines.survey_map.Goals as goal

pub returns-in_err-registers : goal.returns-in_err-registers
returns-in_err-registers c =
    let s : SplitsInto c.loop-line.rest.now c.in-Some.line.now c.in-Some.after.now = search rules in
    let fault = rw c.is_map_line.ensures at c.in_err-registers.ensures in
    let p = err_from_is_err_and c.from_residual.result c.from_residual.ensures.1 in
    rw (p.1, p.2) (at_bad c.loop-line.number s c.loop-line.invariant.0 fault)
