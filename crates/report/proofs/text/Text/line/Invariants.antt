-- `line`: the first i numbers, with a space between two, are appended.
use Rattle.std.proofs.Common.{◌+◌, ◌-◌, ◌*◌, ◌≤◌, take}
use Rattle.report.specs.InternalContracts.{Added}
use Rattle.report.proofs.NumberTexts.{spaced}
use Rattle.report.proofs.text.Text.line.Given as goal

abbrev pub invariant-loop-i : goal.invariant-loop-i
invariant-loop-i l = Added l.initial.self l.self (spaced (take l.i l.numbers)) × (l.self.length ≤ l.initial.self.length + (l.i * 21 - 1))
