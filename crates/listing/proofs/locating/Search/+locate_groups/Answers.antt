-- `listing::locating::Search::locate_groups` meets its contract: at each group the result is the instance's, else that past the group.
use mathlib.Core.Path.{◌≡◌, sym, ap, ◌∙◌}
use mathlib.Core.List.{List}
use mathlib.Core.Option.{some}
use Prim.Native.Nat.{ℕ, ◌+◌, ◌-◌, ◌*◌, ◌≤◌}
use native.Mathlib.Omega.{arith}
use lib.ListN.{get_or}
use Rattle.catalog_frames.specs.Frames.{Head, frame_in}
use Rattle.layout.specs.Layout.{count_of}
use Rattle.layout.specs.FrameWalk.{head_of}
use Rattle.layout.specs.PointTables.{scope_in}
use Rattle.layout.specs.InternalWalks.{content_from, level_of}
use Rattle.layout.specs.Locating.{located_in}
use Rattle.layout.proofs.FramePosition as position
use Rattle.listing.specs.InternalContracts.{LocateAsks, ShapeOf}
use Rattle.listing.specs.declared.locating.Shape.{Shape}
use Rattle.listing.proofs.LocatedGroups as steps
use Rattle.listing.proofs.LocatedGroups.{AtGroup}
use Rattle.listing.proofs.locating.Search.+locate_groups.Goals as goal
use Rattle.listing.proofs.locating.Search.+locate_groups.Goals.{then-j-shape+in_default-locate_own+in_default-locate_groups, else-j-shape}

-- The search is at a group with the head that is read and its shape.
at_group : {ws table : List ℕ} {fill levels frame offset : ℕ} {h : Head} {r : Shape}
    → LocateAsks ws table fill levels frame offset → some h ≡ head_of (frame_in ws frame)
    → ShapeOf ws (count_of (scope_in table) fill) h frame r → AtGroup ws table fill levels frame offset h r
at_group asks head shape = record { asks = asks; head = sym head; shape = shape }

-- The levels count down while the positions in a path count up.
at_number : (levels : ℕ) → levels ≤ 3 → (path : List ℕ) {j : ℕ} → j ≡ get_or path (3 - levels) 0
    → j ≡ get_or path (level_of levels - 2) 0
at_number levels few path e =
    let same : 3 - levels ≡ level_of levels - 2 = omega arith in
    e ∙ ap (λ k. get_or path k 0) same

pub overflow_sub-levels-then-j-shape : goal.overflow_sub-levels-then-j-shape
overflow_sub-levels-then-j-shape t c =
    steps.level_left (at_group c.loop-head.invariant.0 c.in-Some.ensures c.shape_of-shape.ensures)

pub locate_own-requires-clause-parses_at : goal.locate_own-requires-clause-parses_at
locate_own-requires-clause-parses_at t c =
    let asks = c.loop-head.invariant.0 in
    steps.own_parses (at_group asks c.in-Some.ensures c.shape_of-shape.ensures)

pub locate_own-requires-clause-limit_bound : goal.locate_own-requires-clause-limit_bound
locate_own-requires-clause-limit_bound t c =
    let asks = c.loop-head.invariant.0 in
    let there = at_group asks c.in-Some.ensures c.shape_of-shape.ensures in
    let path = c.args.self.now.key.path.instances in
    let j = at_number c.args.levels asks.at_most3 path c.number_at-j.ensures in
    (steps.own_within there c.args.self.now.key.number path j c.if-j-shape.true, omega (arith, asks.at_most3))

pub returns-in-Some-locate_own : goal.returns-in-Some-locate_own
returns-in-Some-locate_own t c =
    let asks = c.loop-head.invariant.0 in
    let there = at_group asks c.in-Some.ensures c.shape_of-shape.ensures in
    let path = c.args.self.now.key.path.instances in
    let j = at_number c.args.levels asks.at_most3 path c.number_at-j.ensures in
    steps.found_own there c.args.self.now.key.number path j c.if-j-shape.true (sym c.in-Some-locate_own.ensures) ∙ c.loop-head.invariant.1

pub overflow_sub-levels-then-j-shape-2 : goal.overflow_sub-levels-then-j-shape-2
overflow_sub-levels-then-j-shape-2 t c =
    steps.level_left (at_group c.loop-head.invariant.0 c.in-Some.ensures c.shape_of-shape.ensures)

pub locate_groups-requires : goal.locate_groups-requires
locate_groups-requires t c =
    let asks = c.loop-head.invariant.0 in
    let there = at_group asks c.in-Some.ensures c.shape_of-shape.ensures in
    let path = c.args.self.now.key.path.instances in
    let j = at_number c.args.levels asks.at_most3 path c.number_at-j.ensures in
    let lower = steps.lower_asks there c.args.self.now.key.number path j c.if-j-shape.true in
    (omega (arith, steps.level_left there, c.decreases), lower)

pub returns-in-Some-locate_groups : goal.returns-in-Some-locate_groups
returns-in-Some-locate_groups t c =
    let asks = c.loop-head.invariant.0 in
    let there = at_group asks c.in-Some.ensures c.shape_of-shape.ensures in
    let path = c.args.self.now.key.path.instances in
    let j = at_number c.args.levels asks.at_most3 path c.number_at-j.ensures in
    steps.found_lower there c.args.self.now.key.number path j c.if-j-shape.true (sym c.in_default-locate_own.ensures) (sym c.in-Some-locate_groups.ensures)
    ∙ c.loop-head.invariant.1

pub loop-head-preserved : goal.loop-head-preserved
loop-head-preserved t c =
    let asks = c.loop-head.invariant.0 in
    let there = at_group asks c.in-Some.ensures c.shape_of-shape.ensures in
    let number = c.args.self.now.key.number in
    let path = c.args.self.now.key.path.instances in
    let j = at_number c.args.levels asks.at_most3 path c.number_at-j.ensures in
    let result = located_in (count_of (scope_in c.args.self.now.table.now) c.args.self.now.fill) number path (level_of c.args.levels) in
    let shape = c.shape_of-shape.result in
    let same : result c.loop-head.at.offset (content_from c.args.self.now.catalog.words.now c.loop-head.at.frame).groups
    ≡ result (c.loop-head.at.offset + shape.count * shape.size) (content_from c.args.self.now.catalog.words.now shape.next).groups =
    elim c.if-j-shape.branch [
      | then-j-shape+in_default-locate_own+in_default-locate_groups w ↦
          steps.found_neither there number path j w.if-j-shape.true (sym w.in_default-locate_own.ensures) (sym w.in_default-locate_groups.ensures)
      | else-j-shape w ↦ steps.goes_past there number path j w.if-j-shape.false
    ] in
    (steps.past_asks there, sym same ∙ c.loop-head.invariant.1)

pub loop-head-smaller : goal.loop-head-smaller
loop-head-smaller t c =
    let within = position.parses_within c.args.self.now.catalog.words.now c.loop-head.at.frame c.loop-head.invariant.0.position.parses in
    omega (arith, within, c.shape_of-shape.ensures.next)

pub returns : goal.returns
returns t c =
    sym (steps.ends c.loop-head.invariant.0 (sym c.in_default.ensures) c.args.self.now.key.number c.args.self.now.key.path.instances)
    ∙ c.loop-head.invariant.1
