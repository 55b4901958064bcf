-- `writing::put_registers`: storing the registers that are left gives what storing all gives.
use mathlib.Core.Path.{◌≡◌}
use Prim.Native.Nat.{◌+◌, ◌-◌}
use lib.Seq.{sets}
use Rattle.registers.specs.Registers.{split}
use Rattle.writing.proofs.put_registers.Given as goal

abbrev pub invariant-loop-k : goal.invariant-loop-k
invariant-loop-k l =
    sets l.map (l.address + l.k) (split (l.size - l.k) l.raw) ≡ sets l.initial.map l.address (split l.size l.raw)
