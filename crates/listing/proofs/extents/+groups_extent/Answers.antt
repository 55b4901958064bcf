-- `listing::extents::groups_extent` meets its contract: the groups summed up and those that remain are all groups of the group.
use mathlib.Core.Path.{sym, subst}
use Prim.Native.Nat.{◌-◌, ◌≤◌}
use native.Mathlib.Omega.{arith}
use Rattle.layout.specs.PointTables.{scope_in}
use Rattle.layout.specs.InternalWalks.{AtGroups}
use Rattle.layout.proofs.FramePosition as position
use Rattle.layout.proofs.GroupDescent as groups
use Rattle.listing.proofs.ExtentWalks as walks
use Rattle.listing.proofs.extents.+groups_extent.Goals as goal

pub groups_extent-inside-requires : goal.groups_extent-inside-requires
groups_extent-inside-requires t c =
    let ws = c.args.catalog.now in
    let levels = c.args.levels in
    let w = c.loop-head.invariant in
    let head = sym c.in-Some.ensures in
    let into = groups.into_group ws _ levels w.position w.few _ head in
    let own = walks.own_run ws _ levels w.position w.few _ head _ c.run_extent-run.ensures in
    let there = subst (λ n. AtGroups ws n (levels - 1)) (sym own.next) into.1 in
    let l : 1 ≤ levels = into.0 in
    (omega (arith, c.decreases), (there, omega (arith, w.few)))

pub with_group-sum-requires : goal.with_group-sum-requires
with_group-sum-requires t c =
    let ws = c.args.catalog.now in
    let i = c.loop-head.sum.next in
    let w = c.loop-head.invariant in
    let head = sym c.in-Some.ensures in
    let few = walks.own_few ws i c.args.levels w.position w.few _ head in
    let own = walks.own_run ws i c.args.levels w.position w.few _ head _ c.run_extent-run.ensures in
    let inside = c.groups_extent-inside.ensures.extent_of in
    let capped = w.summed.capped in
    record {
      size_bound = (capped.0, capped.1, omega (arith, inside.size), omega (arith, inside.points));
      size_bound_2 = (omega (arith, own.size, few.1), omega (arith, own.points, few.0));
    }

pub loop-head-smaller : goal.loop-head-smaller
loop-head-smaller t c =
    let ws = c.args.catalog.now in
    let w = c.loop-head.invariant in
    let head = sym c.in-Some.ensures in
    let own = walks.own_run ws _ c.args.levels w.position w.few _ head _ c.run_extent-run.ensures in
    let inside = c.groups_extent-inside.ensures in
    let on = walks.walks_on ws (scope_in c.args.table.now) c.args.levels c.args.first c.loop-head.sum w _ head _ own _
    inside.extent_of inside.next_value _ c.with_group-sum.ensures in
    omega (arith, on.1, position.parses_within ws c.loop-head.sum.next w.position.parses)

pub loop-head-preserved : goal.loop-head-preserved
loop-head-preserved t c =
    let ws = c.args.catalog.now in
    let w = c.loop-head.invariant in
    let head = sym c.in-Some.ensures in
    let own = walks.own_run ws _ c.args.levels w.position w.few _ head _ c.run_extent-run.ensures in
    let inside = c.groups_extent-inside.ensures in
    let on = walks.walks_on ws (scope_in c.args.table.now) c.args.levels c.args.first c.loop-head.sum w _ head _ own _
    inside.extent_of inside.next_value _ c.with_group-sum.ensures in
    on.0

pub overflow_add-sum : goal.overflow_add-sum
overflow_add-sum t c =
    let at = c.loop-head.invariant.position in
    omega (arith, position.parses_within c.args.catalog.now c.loop-head.sum.next at.parses, at.few)

pub overflow_add-result : goal.overflow_add-result
overflow_add-result t c =
    let at = c.loop-head.invariant.position in
    omega (arith, position.parses_within c.args.catalog.now c.loop-head.sum.next at.parses, at.few)

pub returns : goal.returns
returns t c =
    let end = walks.walk_ends c.args.catalog.now (scope_in c.args.table.now) c.args.levels c.args.first c.loop-head.sum
    c.loop-head.invariant (sym c.in_default.ensures) in
    record { extent_of = end.0; next_value = end.1 }
