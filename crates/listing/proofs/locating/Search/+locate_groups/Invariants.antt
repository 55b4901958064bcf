-- `listing::locating::Search::locate_groups` meets its contract: at each group the result is the instance's, else that past the group.
use mathlib.Core.Path.{◌≡◌}
use Prim.Native.Nat.{◌-◌, ◌/◌}
use lib.ListN.{length}
use Rattle.layout.specs.Layout.{count_of}
use Rattle.layout.specs.PointTables.{scope_in}
use Rattle.layout.specs.InternalWalks.{content_from, level_of}
use Rattle.layout.specs.Locating.{located_in}
use Rattle.listing.specs.InternalContracts.{LocateAsks}
use Rattle.listing.proofs.locating.Search.+locate_groups.Given as goal

abbrev pub invariant-loop-head : goal.invariant-loop-head
invariant-loop-head l =
    LocateAsks l.self.catalog.words.now l.self.table.now l.self.fill l.levels l.at.frame l.at.offset
    × (located_in (count_of (scope_in l.self.table.now) l.self.fill) l.self.key.number l.self.key.path.instances (level_of l.levels) l.at.offset
    (content_from l.self.catalog.words.now l.at.frame).groups
    ≡ located_in (count_of (scope_in l.self.table.now) l.self.fill) l.self.key.number l.self.key.path.instances (level_of l.levels) l.initial.at.offset
    (content_from l.self.catalog.words.now l.initial.at.frame).groups)

abbrev pub decreases-loop-head : goal.decreases-loop-head
decreases-loop-head l = length l.self.catalog.words.now / 8 - l.at.frame

abbrev pub decreases-locate_groups : goal.decreases-locate_groups
decreases-locate_groups l = l.levels
