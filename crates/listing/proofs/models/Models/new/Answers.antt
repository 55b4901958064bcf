-- `listing::models::Models::new` meets its contract: a map that can be read has at most 65,536 registers.
use native.Mathlib.Omega.{arith}
use Rattle.register_map.proofs.HeaderLaws.{opening_none}
use Rattle.listing.proofs.models.Models.new.Goals as goal

pub returns-clause-can_walk : goal.returns-clause-can_walk
returns-clause-can_walk c =
    record {
      low = omega arith;
      high = omega arith;
      short = (opening_none c.args.plant.now.map.now c.args.plant.now.opens).0;
    }
