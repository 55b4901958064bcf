-- `catalog::scans::mark_run` meets its contract: the rest of the run is still to be marked.
use mathlib.Core.List.{List}
use Prim.Native.Nat.{ℕ}
use Rattle.number_sets.specs.NumberSets.{Marks}
use Rattle.catalog.specs.InternalMarks.{in_run}
use Rattle.catalog.proofs.scans.mark_run.Given as goal

abbrev pub invariant-loop-index : goal.invariant-loop-index
invariant-loop-index l =
    (after : List ℕ) → Marks l.set after (in_run l.catalog l.index l.target) l.present
    → Marks l.initial.set after (in_run l.catalog l.from l.target) l.present
