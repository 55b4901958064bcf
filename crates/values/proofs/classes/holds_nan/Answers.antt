-- The test of a NaN's pattern is one comparison, by the library's law for both formats.
use native.Mathlib.Omega.{arith}
use lib.Ieee.{binary32, binary64}
use lib.Ieee.Bits.{nan_bits_above}
use Rattle.values.proofs.classes.holds_nan.Goals as goal

pub returns-in-Float-Binary32 : goal.returns-in-Float-Binary32
returns-in-Float-Binary32 c = grind (arith, nan_bits_above binary32 c.args.raw)

pub returns-in-Float-Binary64 : goal.returns-in-Float-Binary64
returns-in-Float-Binary64 c = grind (arith, nan_bits_above binary64 c.args.raw)
