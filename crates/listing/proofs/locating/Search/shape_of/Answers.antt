-- `listing::locating::Search::shape_of` meets its contract: the shape by the extents of the group's points and of the groups in it.
use mathlib.Core.Path.{sym, subst}
use Prim.Native.Nat.{◌-◌}
use native.Mathlib.Omega.{arith}
use Rattle.layout.specs.InternalWalks.{AtGroups}
use Rattle.layout.proofs.FramePosition as position
use Rattle.layout.proofs.GroupDescent as groups
use Rattle.listing.proofs.ExtentWalks.{own_few, own_run}
use Rattle.listing.proofs.LocatedGroups.{shape_is}
use Rattle.listing.proofs.locating.Search.shape_of.Goals as goal

pub overflow_add-frame : goal.overflow_add-frame
overflow_add-frame c =
    let at = c.requires.at_groups in
    omega (arith, position.parses_within c.args.self.now.catalog.words.now c.args.frame at.parses, at.few)

pub overflow_sub-levels : goal.overflow_sub-levels
overflow_sub-levels c =
    groups.level_left c.args.self.now.catalog.words.now c.args.frame c.args.levels c.requires.at_groups c.requires.levels_bound _ c.requires.frame_value

pub groups_extent-inside-requires-clause-at_groups : goal.groups_extent-inside-requires-clause-at_groups
groups_extent-inside-requires-clause-at_groups c =
    let a = c.args in
    let r = c.requires in
    let own = own_run a.self.now.catalog.words.now a.frame a.levels r.at_groups r.levels_bound _ r.frame_value _ c.run_extent-run.ensures in
    let into = groups.into_group a.self.now.catalog.words.now a.frame a.levels r.at_groups r.levels_bound _ r.frame_value in
    subst (λ n. AtGroups a.self.now.catalog.words.now n (a.levels - 1)) (sym own.next) into.1

pub overflow_add-result : goal.overflow_add-result
overflow_add-result c =
    let a = c.args in
    let r = c.requires in
    let own = own_run a.self.now.catalog.words.now a.frame a.levels r.at_groups r.levels_bound _ r.frame_value _ c.run_extent-run.ensures in
    let few = own_few a.self.now.catalog.words.now a.frame a.levels r.at_groups r.levels_bound _ r.frame_value in
    omega (arith, own.size, few.1, c.groups_extent-inside.ensures.extent_of.size)

pub returns : goal.returns
returns c =
    let a = c.args in
    let r = c.requires in
    let own = own_run a.self.now.catalog.words.now a.frame a.levels r.at_groups r.levels_bound _ r.frame_value _ c.run_extent-run.ensures in
    let lower = c.groups_extent-inside.ensures in
    let count = c.count_of.ensures in
    shape_is a.self.now.catalog.words.now a.self.now.table.now a.self.now.fill a.levels a.frame r.at_groups r.levels_bound _ r.frame_value _ _ _
    own lower.extent_of lower.next_value count.value (omega (arith, count.upper_bound, a.self.now.few_instances))
