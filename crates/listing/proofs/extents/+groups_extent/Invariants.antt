-- `listing::extents::groups_extent` meets its contract: the groups summed up and those that remain are all groups of the group.
use Prim.Native.Nat.{◌-◌, ◌/◌}
use lib.ListN.{length}
use Rattle.layout.specs.PointTables.{scope_in}
use Rattle.listing.proofs.ExtentWalks as walks
use Rattle.listing.proofs.extents.+groups_extent.Given as goal

abbrev pub invariant-loop-head : goal.invariant-loop-head
invariant-loop-head l = walks.Walked l.catalog (scope_in l.table) l.levels l.first l.sum

abbrev pub decreases-loop-head : goal.decreases-loop-head
decreases-loop-head l = length l.catalog / 8 - l.sum.next

abbrev pub decreases-groups_extent : goal.decreases-groups_extent
decreases-groups_extent l = l.levels
