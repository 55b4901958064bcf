-- `put_refusal`: the number, ` at `, the place and LF.
use Rattle.std.proofs.Common.{rules}
use Rattle.report.specs.Text.{refusal_text}
use Rattle.display.proofs.AppendedTexts.{appended_both, given_back}
use Rattle.report.proofs.text.put_refusal.Goals as goal

pub returns-clause-put : goal.returns-clause-put
unfolding refusal_text
returns-clause-put c =
    let first = appended_both c.number-2.ensures.added c.bytes.ensures in
    rw (← c.number.ensures) (given_back (appended_both (appended_both first c.number-3.ensures.added) c.bytes-2.ensures) (search rules))
