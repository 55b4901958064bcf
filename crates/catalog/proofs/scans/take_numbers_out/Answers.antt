-- `catalog::scans::take_numbers_out` meets its contract: the numbers of the frames so far are taken out.
use Prim.Native.Nat.{◌+◌, ◌-◌}
use native.Mathlib.Omega.{arith}
use Rattle.number_sets.proofs.MarkLaws as marks
use Rattle.catalog.proofs.WordScans.{number_next, number_nowhere}
use borrow.Author.Rules.{rules}
use Rattle.catalog.proofs.scans.take_numbers_out.Goals as goal

pub loop-index-init : goal.loop-index-init
loop-index-init c =
    let a = c.args in
    let none = a.first - a.first in
    (search rules, search rules, marks.marks_none _ _ _ (λ n. number_nowhere a.catalog.now a.first n none (omega arith)))

pub loop-index-preserved : goal.loop-index-preserved
loop-index-preserved c =
    let l = c.loop-index in
    let a = c.args in
    let first = a.first in (
      omega arith,
      omega arith,
      marks.marks_then _ _ _ _ _ _ _ l.invariant.2 c.mark_number.ensures
          (λ n. number_next a.catalog.now first n (l.index + 1 - first) (l.index - first) l.index (omega arith) (omega arith)),
    )
