-- `mark` sets or clears the bit of the number, so it puts the number in or takes it out.
use Rattle.std.proofs.Common.{◌/◌, ◌%◌, ◌^◌, ◌<◌, arith, get_or}
use native.Mathlib.Nat.{one-mul, mod-eq_of_lt}
use lib.Pow.{pow-lt}
use Rattle.number_sets.specs.NumberSets.{with_number, without_number}
use Rattle.number_sets.proofs.SetLaws as laws
use Rattle.number_sets.proofs.NumberSet.mark.Goals as goal
use Rattle.number_sets.proofs.NumberSet.mark.Goals.{then-present, else-present}

pub returns-clause-set_after : goal.returns-clause-set_after
unfolding with_number without_number
returns-clause-set_after c =
    let b = c.args.number % 64 in
    let h : b < 64 = omega arith in
    elim c.if-present.branch [
      | then-present w ↦ rw (w.if-present.true, w.self-is, ← c.self.view_is, one-mul (2 ^ b), mod-eq_of_lt (pow-lt h))
      | else-present w ↦
          let small : get_or c.self.inside.words (c.args.number / 64) 0 < 2 ^ 64 = omega arith in
          rw (w.if-present.false, w.self-is, ← c.self.view_is, laws.cleared _ b small h)
    ]

pub returns-clause-marks : goal.returns-clause-marks
returns-clause-marks c =
    rw (returns-clause-set_after c) (laws.marks_marked c.args.self.now c.args.number (omega arith) c.args.present)
