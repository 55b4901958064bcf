-- `contains` reads the bit of the number.
use Rattle.number_sets.specs.NumberSets.{in_set}
use Rattle.number_sets.proofs.NumberSet.contains.Goals as goal

pub returns : goal.returns
unfolding in_set
returns c = rw (← c.self.view_is)
