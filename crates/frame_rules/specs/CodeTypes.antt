-- The results of the public calls in the terms of the definitions.
use Rattle.std.specs.Prelude.{ℕ, Result, Ok, Err}
use Rattle.std.proofs.Math.Option.{Option, none, some}
use Rattle.refusals.specs.Refusals.{number}
use Rattle.refusals.specs.declared.Refusal.{Refusal}

-- The number of the first rule that is broken, if one is.
abbrev pub to_spec_fault : Result (Unit {0}) Refusal → Option ℕ
to_spec_fault (Ok done) = none
to_spec_fault (Err refusal) = some (number refusal)
