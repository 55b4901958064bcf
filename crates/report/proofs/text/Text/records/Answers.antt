-- `records`: the first record's line, and those of the numbers after it.
use Rattle.std.proofs.Common.{◌∙◌, ◌++◌, ℕ, List, sym, rules, ap, arith, length, length-append, append_assoc, append-nil}
use Rattle.std.specs.Slice.Iter.{chunks_exact_rest}
use Rattle.report.specs.Text.{numbers_line}
use Rattle.display.proofs.AppendedTexts.{appended_both, appended_same}
use Rattle.report.proofs.RecordTexts.{first_line, no_line}
use Rattle.report.proofs.text.Text.records.Goals as goal

pub loop-record-preserved : goal.loop-record-preserved
loop-record-preserved c =
    let i = c.loop-record.invariant in
    let steps = c.in-Some.ensures.steps in
    let left = chunks_exact_rest c.next.new.self in
    let size = steps.1.1 ∙ i.2 in
    let lines = first_line _ c.in-Some.record.now left steps.1.0 size in
    let sizes = ap length steps.1.0 ∙ length-append c.in-Some.record.now left in (
      search rules,
      tt,
      steps.0 ∙ i.2,
      omega (arith, i.3, c.line.ensures.upper_bound, sizes, size),
      i.4 ++ numbers_line c.in-Some.record.now,
      appended_both i.5 c.line.ensures.added,
      append_assoc i.4 _ _ ∙ ap (λ (t : List ℕ). i.4 ++ t) (sym lines) ∙ i.6,
    )

pub returns-clause-added : goal.returns-clause-added
returns-clause-added c =
    let i = c.loop-record.invariant in
    let none = no_line (chunks_exact_rest c.loop-record.record-iterator) (omega (arith, c.in-None.ensures.steps.1.0, i.2)) in
    appended_same (rw (none, append-nil) at i.6) i.5
