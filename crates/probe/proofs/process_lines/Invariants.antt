-- `probe::process_lines` meets its contract, and ends: each line leaves less of the input.
use Rattle.std.proofs.Common.{◌≤◌, length}
use Rattle.probe.proofs.process_lines.Given as goal

abbrev pub invariant-loop-length : goal.invariant-loop-length
invariant-loop-length l = length l.rest ≤ length l.input

abbrev pub decreases-loop-length : goal.decreases-loop-length
decreases-loop-length l = length l.rest
