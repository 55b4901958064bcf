-- `listing::records::Model::put_groups` meets its contract: at each instance, writing what remains gives the list that the contract
-- requires.
use Rattle.std.proofs.Common.{rules, ◌≡◌, ℕ, ◌-◌, ◌≤◌, List, set, length, sym, ap, ◌∙◌, arith}
use Rattle.layout.specs.InternalWalks.{level_of}
use Rattle.layout.proofs.FramePosition as position
use Rattle.layout.proofs.PassedFrames.{group_passed}
use Rattle.listing.proofs.InstanceSteps as steps
use Rattle.listing.proofs.records.Model.+put_groups.Goals as goal

-- The number of the instance stands at its level.
entered : (levels : ℕ) → levels ≤ 3 → (path : List ℕ) (j : ℕ) {way : List ℕ} → way ≡ set path (3 - levels) j → way ≡ set path (level_of levels - 2) j
entered levels few path j e =
    let same : 3 - levels ≡ level_of levels - 2 = omega arith in
    e ∙ ap (λ k. set path k j) same

pub loop-head-init : goal.loop-head-init
loop-head-init t c =
    let a = c.requires in
    (steps.begins c.args.self.now.visit c.args.path.instances a (search rules), a.position.parses, a.position.no_point)

pub put_own-own-requires : goal.put_own-own-requires
put_own-own-requires t c =
    let i = c.loop-head.invariant in
    let e = sym c.in-Some.ensures in
    let first = steps.count_there c.args.self.now.visit c.args.path.instances c.requires i.0 i.1 i.2 e in
    let same = steps.count_there c.args.self.now.visit c.args.path.instances c.requires c.loop-j.invariant i.1 i.2 e in
    steps.own_asks c.args.self.now.visit c.args.path.instances c.requires c.loop-j.invariant i.1 i.2 e (omega (arith, first, same, c.count_of-j-end.ensures.value, c.loop-j-test.true))

pub put_groups-at-requires : goal.put_groups-at-requires
put_groups-at-requires t c =
    let i = c.loop-head.invariant in
    let w = c.loop-j.invariant in
    let e = sym c.in-Some.ensures in
    let own = c.put_own-own.ensures in
    let first = steps.count_there c.args.self.now.visit c.args.path.instances c.requires i.0 i.1 i.2 e in
    let same = steps.count_there c.args.self.now.visit c.args.path.instances c.requires w i.1 i.2 e in (
      omega (arith, steps.level_left c.args.self.now.visit c.args.path.instances c.requires w i.1 i.2 e, c.decreases),
      steps.lower_asks c.args.self.now.visit c.args.path.instances c.requires w i.1 i.2 e (omega (arith, first, same, c.count_of-j-end.ensures.value, c.loop-j-test.true))
          c.args.self.now.catalog.sixteen_bits own.table_after
          (entered c.args.levels c.requires.at_most3 c.args.path.instances _ c.with_number-within.ensures) own.after_run own.out_after,
    )

pub loop-j-preserved : goal.loop-j-preserved
loop-j-preserved t c =
    let i = c.loop-head.invariant in
    let w = c.loop-j.invariant in
    let e = sym c.in-Some.ensures in
    let own = c.put_own-own.ensures in
    let g = c.put_groups-at.ensures in
    let first = steps.count_there c.args.self.now.visit c.args.path.instances c.requires i.0 i.1 i.2 e in
    let same = steps.count_there c.args.self.now.visit c.args.path.instances c.requires w i.1 i.2 e in
    let is_table : length c.put_groups-at.new.table ≡ 65536 = search rules in
    steps.further c.args.self.now.visit c.args.path.instances c.requires w i.1 i.2 e (omega (arith, first, same, c.count_of-j-end.ensures.value, c.loop-j-test.true))
    c.args.self.now.catalog.sixteen_bits own.table_after
    (entered c.args.levels c.requires.at_most3 c.args.path.instances _ c.with_number-within.ensures) own.after_run own.out_after
    g.after_groups g.out_after g.agree_except is_table

pub loop-head-preserved : goal.loop-head-preserved
loop-head-preserved t c =
    let ws = c.args.self.now.catalog.words.now in
    let at = c.loop-head.at in
    let i = c.loop-head.invariant in
    let e = sym c.in-Some.ensures in
    let opened = (position.group_next ws at.frame i.1 i.2 _ e).1 in
    let s = steps.parses_past c.args.self.now.visit c.args.path.instances c.requires i.0 i.1 i.2 e in
    let first = steps.count_there c.args.self.now.visit c.args.path.instances c.requires i.0 i.1 i.2 e in
    let same = steps.count_there c.args.self.now.visit c.args.path.instances c.requires c.loop-j.invariant i.1 i.2 e in
    let w = steps.passes c.args.self.now.visit c.args.path.instances c.requires c.loop-j.invariant i.1 i.2 e (omega (arith, first, same, c.count_of-j-end.ensures.value, c.loop-j-test.false)) in
    let past = c.after_group.ensures ∙ group_passed ws at.frame opened in
    rw past (w, s.0, s.1)

pub loop-head-smaller : goal.loop-head-smaller
loop-head-smaller t c =
    let ws = c.args.self.now.catalog.words.now in
    let at = c.loop-head.at in
    let i = c.loop-head.invariant in
    let within = position.parses_within ws at.frame i.1 in
    let opened = (position.group_next ws at.frame i.1 i.2 _ (sym c.in-Some.ensures)).1 in
    let past = c.after_group.ensures ∙ group_passed ws at.frame opened in
    omega (arith, within, past)

pub returns-clause-out_after : goal.returns-clause-out_after
returns-clause-out_after t c =
    let i = c.loop-head.invariant in
    (steps.ends c.args.self.now.visit c.args.path.instances c.requires i.0 i.1 i.2 (sym c.in_default.ensures)).0
