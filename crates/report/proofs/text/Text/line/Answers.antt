-- `line`: each number has a space before it, but not the first.
use Rattle.std.proofs.Common.{◌≡◌, rules, arith}
use lib.Seq.{take_all}
use Rattle.report.specs.InternalContracts.{Added}
use Rattle.display.proofs.AppendedTexts.{appended_none, appended_both, appended_same}
use Rattle.report.proofs.NumberTexts.{spaced, space_before, space_is, space_fits, one_more, line_ended}
use Rattle.report.proofs.text.Text.line.Goals as goal
use Rattle.report.proofs.text.Text.line.Goals.{then-i-ne0, else-i-ne0}

pub loop-i-init : goal.loop-i-init
unfolding spaced
loop-i-init c = (appended_none _ _, omega arith)

pub loop-i-preserved : goal.loop-i-preserved
loop-i-preserved c =
    let l = c.loop-i in
    let space : Added l.self c.if-i-ne0.self (space_before l.i) =
    elim c.if-i-ne0.branch [
      | then-i-ne0 w ↦ appended_same (space_is l.i w.if-i-ne0.true) (rw w.self-is w.bytes.ensures)
      | else-i-ne0 w ↦ let first : l.i ≡ 0 = search rules in rw (first, w.self-is) (appended_none _ _)
    ] in
    let number = c.number.ensures in (
      appended_same (one_more c.args.numbers.now l.i c.loop-i-test.true) (appended_both (appended_both l.invariant.0 space) number.added),
      omega (arith, l.invariant.1, space.put.ends, space_fits l.i, number.upper_bound),
    )

pub returns-clause-added : goal.returns-clause-added
returns-clause-added c =
    let numbers = c.args.numbers.now in
    let all = take_all c.loop-i.i numbers c.loop-i-test.false in
    appended_same (line_ended numbers) (appended_both (rw all at c.loop-i.invariant.0) c.bytes-2.ensures)
