-- `listing::put_map` meets its contract: at each header, writing the remaining models gives the list that the contract requires.
use Rattle.std.proofs.Common.{◌≡◌}
use Rattle.std.specs.Iterator.Adapters.{enumerate_source, enumerate_count}
use Rattle.model_definitions.specs.Definitions.{definitions}
use Rattle.layout.specs.Reading.{reading}
use Rattle.listing.proofs.MapRecords.{WalkingMap}
use Rattle.listing.proofs.put_map.Given as goal

abbrev pub invariant-loop-index : goal.invariant-loop-index
invariant-loop-index l =
    goal.iterator-loop-index.can_next l.index-iterator
    × goal.iterator-loop-index.is_finite l.index-iterator
    × ((enumerate_source l.index-iterator).map.now ≡ l.plant.map.now)
    × WalkingMap (reading (definitions l.plant.catalog.words.now)) l.plant.map.now l.initial.out l.out
    (enumerate_source l.index-iterator).at (enumerate_count l.index-iterator) l.records
