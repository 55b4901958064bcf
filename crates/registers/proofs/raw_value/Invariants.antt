-- `raw_value` joins up to four registers. The invariant: the value joined so far fits the registers joined so far; and shifted past the
-- registers left, plus their value, it is the whole value.
use mathlib.Core.Path.{◌≡◌}
use Prim.Native.Nat.{◌+◌, ◌-◌, ◌*◌, ◌^◌, ◌<◌}
use lib.ListN.{length, drop}
use Rattle.registers.specs.Registers.{join}
use Rattle.registers.proofs.raw_value.Given as goal

abbrev pub invariant-loop-register : goal.invariant-loop-register
invariant-loop-register l =
    (l.raw < 65536 ^ l.register-index)
    × (l.raw * 65536 ^ (length l.registers - l.register-index) + join (drop l.register-index l.registers) ≡ join l.registers)
