-- `raw_value` joins up to four registers, the first one highest.
use mathlib.Core.Path.{sym, ◌∙◌}
use native.Mathlib.Omega.{arith}
use lib.ListN.{length}
use Rattle.registers.proofs.Joining.{join_step, join_end, not_shown, shown, one_more, fits_one_more, positive}
use Rattle.registers.proofs.raw_value.Goals as goal

pub returns-then-registers-gt4-clause-value : goal.returns-then-registers-gt4-clause-value
returns-then-registers-gt4-clause-value c = sym (not_shown c.args.registers.now c.if-registers-gt4.true)

pub returns-then-registers-gt4-clause-upper_bound : goal.returns-then-registers-gt4-clause-upper_bound
returns-then-registers-gt4-clause-upper_bound c = positive (length c.args.registers.now)

pub overflow_mul-raw : goal.overflow_mul-raw
overflow_mul-raw c =
    let l = c.loop-register in
    omega (arith, fits_one_more l.register-index l.raw (omega (arith, c.loop-register-test.true, c.if-registers-gt4.false)) l.invariant.0)

pub loop-register-preserved : goal.loop-register-preserved
loop-register-preserved c =
    let l = c.loop-register in
    let rs = c.args.registers.now in (
      one_more l.register-index l.raw c.from.result l.invariant.0 (omega (arith, c.type_inv.registers l.register-index)),
      rw c.from.ensures (sym (join_step rs l.register-index l.raw c.loop-register-test.true) ∙ l.invariant.1),
    )

pub returns-clause-value : goal.returns-clause-value
returns-clause-value c =
    let l = c.loop-register in
    let rs = c.args.registers.now in
    sym (join_end rs l.register-index l.raw (omega (arith, c.loop-register-test.false))) ∙ l.invariant.1
    ∙ sym (shown rs c.if-registers-gt4.false)
