-- `new` gives a set of zeros, which has no number.
use mathlib.Core.Path.{refl}
use Rattle.number_sets.proofs.SetLaws.{blank}
use Rattle.number_sets.proofs.NumberSet.new.Goals as goal

pub returns : goal.returns
returns c = record { words = refl; blank = blank }
