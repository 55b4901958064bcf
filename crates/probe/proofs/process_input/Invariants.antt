-- `probe::process_input` is safe. The loop's invariant: the bytes kept fit in the buffer.
use Rattle.std.proofs.Common.{◌≤◌, length}
use Rattle.probe.proofs.process_input.Given as goal

abbrev pub invariant-loop : goal.invariant-loop
invariant-loop g l = l.kept ≤ length l.input
