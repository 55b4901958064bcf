-- `text_length`: the text is the registers read so far, then the text of those left.
use mathlib.Core.Path.{◌≡◌}
use Prim.Native.Nat.{◌+◌}
use lib.ListN.{length, drop}
use Rattle.strings.specs.Text.{until_zero_byte}
use Rattle.strings.proofs.text_length.Given as goal

abbrev pub invariant-loop-i : goal.invariant-loop-i
invariant-loop-i l = l.i + length (until_zero_byte (drop l.i l.string)) ≡ length (until_zero_byte l.string)
