-- The lower half of the patterns: zero and the positive numbers.
use mathlib.Core.Path.{◌∙◌}
use Prim.Native.Nat.{◌*◌}
use native.Mathlib.Omega.{arith}
use Rattle.registers.proofs.Joining.{four_ones}
use Rattle.values.proofs.MachineIntegers.{lower_pattern}
use Rattle.values.proofs.twos_complement.Goals as goal

pub returns-then-raw-ones : goal.returns-then-raw-ones
returns-then-raw-ones c =
    let a = c.args in
    let ones = c.all_ones-ones.ensures ∙ four_ones a.count c.requires.le_count.1 in
    lower_pattern (16 * a.count) a.raw _ (omega arith) (omega arith) ones (omega arith)
