-- `catalog::scans::take_numbers_out` meets its contract: the numbers of the frames so far are taken out.
use mathlib.Core.Bool.{false}
use Prim.Native.Nat.{◌-◌, ◌≤◌}
use Rattle.lists.specs.Members.{among}
use Rattle.number_sets.specs.NumberSets.{Marks}
use Rattle.catalog.specs.InternalScans.{numbers_in}
use Rattle.catalog.proofs.scans.take_numbers_out.Given as goal

abbrev pub invariant-loop-index : goal.invariant-loop-index
invariant-loop-index l =
    (l.first ≤ l.index)
    × (l.index ≤ l.end)
    × Marks l.initial.numbers l.numbers (λ n. among n (numbers_in l.catalog l.first (l.index - l.first))) false
