-- The text stands at the start of the buffer, and the later bytes stay.
use mathlib.Core.Path.{sym, ap, ◌∙◌}
use native.Mathlib.Omega.{arith}
use lib.ListN.{length}
use Rattle.std.proofs.Common.{rules}
use Rattle.point_types.specs.CodeTypes.{to_spec_presence}
use Rattle.display.specs.Amounts.{amount_of}
use Rattle.display.specs.Decimals.{Decimal, stored}
use Rattle.display.specs.CodeTypes.{scale_factor}
use Rattle.display.specs.InternalParts.{IsAmount}
use Rattle.display.proofs.DecimalCases.{long_buffer}
use Rattle.display.proofs.AppendedTexts.{given_back}
use Rattle.display.proofs.StoredTexts.{put_start}
use Rattle.display.proofs.decimals.decimal.Goals as goal

pub returns-clause-out_after : goal.returns-clause-out_after
returns-clause-out_after c =
    let a = c.args in
    let p = to_spec_presence a.presence in
    let s = scale_factor a.scale in
    let parts = c.in_ok-amount.amount in
    let accepted : IsAmount (amount_of a.type_code p a.raw s) parts = c.in_ok-amount.ensures in
    let text = long_buffer a.type_code p a.raw s (length a.out.now) parts accepted (omega arith) in
    put_start (given_back c.amount.ensures.added (search rules)) (omega arith) ∙ ap (λ (d : Decimal). stored d a.out.now) (sym text)
