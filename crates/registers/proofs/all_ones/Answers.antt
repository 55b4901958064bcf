-- `all_ones`: from four registers on it is the largest 64-bit number.
use Rattle.std.proofs.Common.{◌*◌, arith}
use lib.Pow.{pow_mono}
use Rattle.registers.proofs.all_ones.Goals as goal

pub returns-in_default : goal.returns-in_default
returns-in_default c = omega (arith, pow_mono {i = 64} {j = 16 * c.args.count} (omega arith))
