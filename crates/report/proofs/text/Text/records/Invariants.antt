-- `records`: the lines so far, and those of the numbers that are left, are the lines of all.
use Rattle.std.proofs.Common.{◌≡◌, ℕ, ◌+◌, ◌*◌, ◌≤◌, List, ◌++◌, length}
use Rattle.std.specs.Slice.Iter.{chunks_exact_rest, chunks_exact_size}
use Rattle.listing.specs.Listing.{record_width}
use Rattle.report.specs.InternalContracts.{Added, lines_of}
use Rattle.report.proofs.text.Text.records.Given as goal

abbrev pub invariant-loop-record : goal.invariant-loop-record
invariant-loop-record l =
    goal.iterator-loop-record.can_next l.record-iterator
    × goal.iterator-loop-record.is_finite l.record-iterator
    × (chunks_exact_size l.record-iterator ≡ record_width)
    × (l.self.length + length (chunks_exact_rest l.record-iterator) * 21 ≤ l.initial.self.length + length l.numbers * 21)
    × (done : List ℕ) × Added l.initial.self l.self done
    × (done ++ lines_of (chunks_exact_rest l.record-iterator) ≡ lines_of l.numbers)
