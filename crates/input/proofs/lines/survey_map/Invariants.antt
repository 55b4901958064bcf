-- `survey_map`: the lines give the registers so far and what the lines left give.
use Prim.Native.Nat.{◌+◌, ◌≤◌}
use lib.ListN.{length}
use Rattle.input.specs.Lines.{lines}
use Rattle.input.specs.Parsing.{map_from}
use Rattle.input.specs.InternalContracts.{RegistersFound}
use Rattle.input.proofs.MapLines.{LeftIn}
use Rattle.input.proofs.lines.survey_map.Given as goal

abbrev pub invariant-loop-line : goal.invariant-loop-line
invariant-loop-line l =
    RegistersFound (map_from l.first l.capacity (lines l.text)) l.capacity l.registers (LeftIn l.rest l.number l.capacity l.registers)
    × (l.number + length l.rest ≤ l.first + length l.text)

abbrev pub decreases-loop-line : goal.decreases-loop-line
decreases-loop-line l = length l.rest
