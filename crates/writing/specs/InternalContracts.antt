-- Internal: the result of the private function `judge`; no public contract cites this file.
use Rattle.std.proofs.Math.Option.{Option, none, some}
use Rattle.std.specs.Prelude.{ℕ, Result, Ok, Err}
use Rattle.refusals.specs.Refusals.{number}
use Rattle.refusals.specs.declared.Refusal.{Refusal}

-- The number of the refusal, if there is one.
abbrev pub to_spec_verdict : Result (Unit {0}) Refusal → Option ℕ
to_spec_verdict (Ok takes) = none
to_spec_verdict (Err r) = some (number r)
