-- `listing::survey_map` meets its contract: at each header, the points so far and the remaining models give the whole result.
use Prim.Native.Nat.{◌-◌}
use lib.ListN.{length}
use Rattle.model_definitions.specs.Definitions.{definitions}
use Rattle.layout.specs.Reading.{reading}
use Rattle.listing.proofs.MapSurvey.{Surveying}
use Rattle.listing.proofs.survey_map.Given as goal

abbrev pub invariant-loop-id : goal.invariant-loop-id
invariant-loop-id l = Surveying (reading (definitions l.plant.catalog.words.now)) l.plant.map.now l.at l.headers l.points

abbrev pub decreases-loop-id : goal.decreases-loop-id
decreases-loop-id l = length l.plant.map.now - l.at
