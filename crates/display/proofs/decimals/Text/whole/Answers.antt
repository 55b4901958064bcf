-- `whole`: the digits, and the zeros unless the number is zero.
use mathlib.Core.Path.{sym, ◌∙◌}
use Prim.Native.Nat.{◌*◌, ◌^◌}
use native.Mathlib.Omega.{arith}
use Rattle.display.proofs.AppendedTexts.{appended_both, appended_same}
use Rattle.display.proofs.DigitTexts.{zero_text, appended_zeros}
use Rattle.display.proofs.DecimalCases.{whole_text}
use Rattle.display.proofs.decimals.Text.whole.Goals as goal

pub returns-then-n-ne0-clause-added : goal.returns-then-n-ne0-clause-added
returns-then-n-ne0-clause-added c =
    let a = c.args in
    let text = sym (appended_zeros a.n a.zeros (omega arith)) ∙ whole_text (a.n * 10 ^ a.zeros) in
    appended_same text (appended_both c.number.ensures.added c.digits.ensures.added)

pub returns-else-n-ne0-clause-added : goal.returns-else-n-ne0-clause-added
returns-else-n-ne0-clause-added c =
    let a = c.args in
    appended_same (zero_text a.n a.zeros (omega arith) ∙ whole_text (a.n * 10 ^ a.zeros)) c.number.ensures.added
