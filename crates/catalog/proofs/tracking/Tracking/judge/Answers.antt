-- `Tracking::judge` meets its contract: each kind of frame has its rules.
use mathlib.Core.Path.{◌≡◌, sym, ap, ◌∙◌}
use Rattle.std.specs.Prelude.{List, ℕ, ◌/◌, length, Option, Some, Result, Ok}
use Rattle.std.specs.Option.{ok_or}
use Rattle.std.specs.Result.{result_ok}
use Rattle.std.proofs.lemmas.Result.{err_from_is_err_and}
use Rattle.refusals.specs.declared.Refusal.{Refusal}
use Rattle.refusals.specs.declared.Refusal.TheVariants.{MalformedFrame}
use Rattle.catalog_frames.specs.declared.Frame.{Frame}
use mathlib.Core.Bool.{not}
use native.Mathlib.Omega.{arith}
use Prim.Native.Nat.{◌-◌, ◌<◌}
use lib.Dec.{eqb}
use Rattle.lists.specs.Tests.{first_broken}
use Rattle.catalog_frames.specs.Frames.{model_frame, group_frame, point_frame, end_frame, malformed, frame_at, frame_in}
use Rattle.catalog_frames.specs.CodeTypes.{to_spec_frame, to_spec_head, to_spec_point}
use Rattle.catalog_frames.proofs.FramesByIndex.{frame_within}
use Rattle.frame_rules.specs.FrameTests.{end_tests}
use Rattle.catalog.specs.Rules.{no_point, run}
use Rattle.catalog.specs.InternalScans.{frames_onward}
use Rattle.catalog.proofs.MarkedRules as marked
use borrow.Author.Rules.{rules}
use Rattle.catalog.proofs.tracking.Tracking.judge.Goals as goal

-- A frame that is read is the one with that index.
frame_read : (ws : List ℕ) (i : ℕ) (o : Option Frame) (r : Result Frame Refusal) (f g : Frame) → i < length ws / 8
    → to_spec_frame o ≡ frame_in ws i → o ≡ result_ok r → r ≡ Ok f → f ≡ g → to_spec_frame (Some g) ≡ frame_at ws i
frame_read ws i o r f g h e p w q = sym (ap to_spec_frame (p ∙ ap result_ok w ∙ ap Some q)) ∙ e ∙ frame_within ws i h

pub returns-in-Model : goal.returns-in-Model
returns-in-Model c =
    let f : model_frame c.in-Model.id ≡ frame_at c.args.frame.catalog.now c.args.frame.index =
    frame_read _ _ _ _ _ _ c.args.frame.whole c.read_frame.ensures c.ok_or.ensures.ok_part c.in_ok-id.was c.in-Model.is in
    record { result_value = rw (← f) c.model_fault.ensures; id_fits = rw (← f) (search rules) }

pub returns-in-Group : goal.returns-in-Group
returns-in-Group c =
    let head = to_spec_head c.in-Group.head in
    let f : group_frame head ≡ frame_at c.args.frame.catalog.now c.args.frame.index =
    frame_read _ _ _ _ _ _ c.args.frame.whole c.read_frame.ensures c.ok_or.ensures.ok_part c.in_ok-id.was c.in-Group.is in
    let fits : (head.number < 65536) × (head.count < 65536) = search rules in
    let same = marked.group_tested _ _ _ _ _ _ c.requires.indexed c.args.frame.whole _ f fits.1 fits.0 in
    record { result_value = rw (← f) (rw c.ne-counted.ensures at c.group_fault.ensures ∙ same); id_fits = rw (← f) fits }

pub returns-in-Point : goal.returns-in-Point
returns-in-Point c =
    let point = to_spec_point c.in-Point.point in
    let f : point_frame point ≡ frame_at c.args.frame.catalog.now c.args.frame.index =
    frame_read _ _ _ _ _ _ c.args.frame.whole c.read_frame.ensures c.ok_or.ensures.ok_part c.in_ok-id.was c.in-Point.is in
    let fits : (point.number < 65536) × (point.scale < 65536) = search rules in
    let same = ap first_broken (marked.point_tested _ _ _ _ _ _ c.requires.indexed point fits.0 fits.1) in
    record { result_value = rw (← f) (c.point_fault.ensures ∙ same); id_fits = rw (← f) fits }

pub returns-in-End : goal.returns-in-End
returns-in-End c =
    let ws = c.args.frame.catalog.now in
    let state = c.args.self.now.state in
    let f : end_frame ≡ frame_at ws c.args.frame.index =
    frame_read _ _ _ _ _ _ c.args.frame.whole c.read_frame.ensures c.ok_or.ensures.ok_part c.in_ok-id.was c.in-End.is in
    let first = c.innermost in
    let inside = c.requires.within.passed (state.depth - 1) in
    let read = ap (λ k. not (eqb k 3)) c.kind.ensures in
    let empty = read ∙ marked.empty_by_first ws first.result (omega (arith, inside, first.ensures, c.args.frame.whole)) in
    let same = empty ∙ ap (λ j. no_point (run (frames_onward ws j))) first.ensures in
    record {
      result_value = rw (← f) (c.end_fault.ensures ∙ ap (λ b. first_broken (end_tests state.depth state.has_group b)) same);
      id_fits = rw (← f) tt;
    }

pub returns-in_err-id : goal.returns-in_err-id
returns-in_err-id c =
    let none = c.ok_or.ensures.ok_part ∙ ap result_ok c.in_err-id.was in
    let f : malformed ≡ frame_at c.args.frame.catalog.now c.args.frame.index =
    sym (ap to_spec_frame none) ∙ c.read_frame.ensures ∙ frame_within _ _ c.args.frame.whole in
    let exit = err_from_is_err_and c.from_residual.result c.from_residual.ensures.1 in
    let is : c.in_err-id.field-0.0 ≡ MalformedFrame = let v = c.ok_or.ensures.value ∙ ap (λ o. ok_or o MalformedFrame) none in let w = c.in_err-id.was in cc in
    record { result_value = rw (exit.1, exit.2, is, ← f); id_fits = rw (← f) tt }
