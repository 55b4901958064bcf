-- `listing::locating::Search::locate_run` meets its contract: the result among the remaining points is the result among all.
use mathlib.Core.Path.{◌≡◌, sym, ap, ◌∙◌}
use mathlib.Core.List.{List}
use Prim.Native.Nat.{ℕ}
use Rattle.catalog_frames.specs.Frames.{Point}
use Rattle.catalog_frames.specs.CodeTypes.{to_spec_point}
use Rattle.definition_frames.specs.CodeTypes.{points_left}
use Rattle.layout.specs.PointTables.{present_within}
use Rattle.layout.specs.Locating.{located_among}
use Rattle.layout.proofs.FrameRuns.{run_content}
use Rattle.layout.proofs.LocatingSteps.{none_left, none_past, found_first, not_first}
use Rattle.listing.proofs.locating.Search.locate_run.Goals as goal

-- Among equal points the result is the same.
among : (number limit offset : ℕ) {ps qs : List Point} → ps ≡ qs
    → located_among number offset (present_within limit offset ps) ≡ located_among number offset (present_within limit offset qs)
among number limit offset e = ap (λ (ps : List Point). located_among number offset (present_within limit offset ps)) e

pub loop-point-init : goal.loop-point-init
loop-point-init c =
    let a = c.args in
    let same = ap points_left c.into_iter-point-iterator.ensures.into_iter_gives ∙ c.points_from-point-items.ensures in (
      tt,
      tt,
      among a.self.now.key.number a.limit a.start.offset
          (same ∙ run_content a.self.now.catalog.words.now a.start.frame c.requires.parses_at),
    )

pub returns-then-limit-offset : goal.returns-then-limit-offset
returns-then-limit-offset c =
    let l = c.loop-point in
    sym (none_past c.args.self.now.key.number c.args.limit l.offset (points_left l.point-iterator) c.if-limit-offset.true)
    ∙ l.invariant.2

pub returns-then-point-self : goal.returns-then-point-self
returns-then-point-self c =
    let a = c.args in
    let l = c.loop-point in
    sym (found_first a.self.now.key.number a.limit l.offset (to_spec_point c.in-Some.point) (points_left c.next.new.self)
    c.if-limit-offset.false c.if-point-self.true)
    ∙ sym (among a.self.now.key.number a.limit l.offset c.in-Some.ensures.steps)
    ∙ l.invariant.2

pub loop-point-preserved : goal.loop-point-preserved
loop-point-preserved c =
    let a = c.args in
    let l = c.loop-point in
    let further = not_first a.self.now.key.number a.limit l.offset (to_spec_point c.in-Some.point) (points_left c.next.new.self)
    c.if-limit-offset.false c.if-point-self.false in (
      tt,
      tt,
      rw c.from-offset.ensures
          (sym further ∙ sym (among a.self.now.key.number a.limit l.offset c.in-Some.ensures.steps) ∙ l.invariant.2),
    )

pub returns : goal.returns
returns c =
    let a = c.args in
    let l = c.loop-point in
    sym (none_left a.self.now.key.number a.limit l.offset)
    ∙ sym (among a.self.now.key.number a.limit l.offset c.in-None.ensures.steps.0)
    ∙ l.invariant.2
