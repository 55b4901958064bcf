-- The register's two's complement is its signed reading.
use native.Mathlib.Omega.{arith}
use Rattle.std.proofs.lemmas.Int.{ints}
use Rattle.values.specs.Classes.{twos_complement}
use Rattle.values.proofs.classes.scale_factor_in_range.Goals as goal

pub returns : goal.returns
unfolding twos_complement
returns c = grind (arith, ints, twos_complement)
