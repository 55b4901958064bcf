-- `catalog::check_frames` meets its contract: at each frame, checking the remaining frames gives the result for the whole.
use mathlib.Core.Path.{sym, ap, ◌∙◌}
use Rattle.std.specs.Result.{is_ok}
use Rattle.std.proofs.lemmas.Result.{err_from_is_err_and}
use Rattle.frame_rules.specs.CodeTypes.{to_spec_fault}
use borrow.Author.Rules.{rules}
use native.Mathlib.Omega.{arith}
use Rattle.catalog.proofs.CheckedFrame as frame
use Rattle.catalog.proofs.check_frames.Goals as goal

pub loop-index-init : goal.loop-index-init
loop-index-init c = frame.holds_start _ _ c.new-tracking.ensures

pub returns-in_err-map_err : goal.returns-in_err-map_err
returns-in_err-map_err c =
    let l = c.loop-index in
    let exit = err_from_is_err_and c.from_residual.result c.from_residual.ensures.1 in
    let told = c.in_err-map_err.field-0.0 in
    let at = frame.told_at c.judge.result c.map_err.result l.index-counter _ (λ e z h. search rules) c.map_err.ensures.cases told c.in_err-map_err.was in
    let broken = c.judge.ensures in
    let first = ap to_spec_fault (sym at.0) ∙ broken.result_value in
    rw (exit.1, exit.2, at.1) (frame.refused_here _ l.index-counter _ l.invariant broken.id_fits (omega arith) _ first)

pub take_in-requires-clause-blank_at_model : goal.take_in-requires-clause-blank_at_model
take_in-requires-clause-blank_at_model c =
    let l = c.loop-index in
    let unbroken = c.judge.ensures in
    let none_broken = frame.unbroken_value c.judge.result _ (sym c.map_err.ensures.variant ∙ ap is_ok c.in_ok-map_err.was) unbroken.result_value in
    frame.blank_here _ l.index-counter _ l.invariant unbroken.id_fits (omega arith) none_broken

pub take_in-requires-clause-depth_allows : goal.take_in-requires-clause-depth_allows
take_in-requires-clause-depth_allows c =
    let l = c.loop-index in
    let unbroken = c.judge.ensures in
    let none_broken = frame.unbroken_value c.judge.result _ (sym c.map_err.ensures.variant ∙ ap is_ok c.in_ok-map_err.was) unbroken.result_value in
    frame.depth_allows_here _ l.index-counter _ l.invariant unbroken.id_fits (omega arith) none_broken

pub loop-index-preserved : goal.loop-index-preserved
loop-index-preserved c =
    let l = c.loop-index in
    let unbroken = c.judge.ensures in
    let none_broken = frame.unbroken_value c.judge.result _ (sym c.map_err.ensures.variant ∙ ap is_ok c.in_ok-map_err.was) unbroken.result_value in
    frame.holds_next _ l.index-counter _ l.invariant unbroken.id_fits (omega arith) none_broken _ c.take_in.ensures

pub returns-then-state-ne0 : goal.returns-then-state-ne0
returns-then-state-ne0 c =
    let l = c.loop-index in
    frame.open_at_end _ _ l.index-counter _ l.invariant.decides (omega arith) (omega arith) c.if-state-ne0.true

pub returns : goal.returns
returns c =
    let l = c.loop-index in
    frame.closed_at_end _ _ l.index-counter _ l.invariant.decides (omega arith) c.if-state-ne0.false
