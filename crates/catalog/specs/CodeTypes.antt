-- The result of `check` in the terms of the definitions.
use Rattle.std.specs.Prelude.{ℕ, Result, Ok, Err}
use Rattle.refusals.specs.Refusals.{number}
use Rattle.refusals.specs.declared.Refused.{Refused}
use Rattle.catalog.specs.Checking as Checking

-- The code's result as the definition's `Verdict`.
abbrev pub to_spec_checked : Result ℕ Refused → Checking.Verdict
to_spec_checked (Ok n) = Checking.accepted n
to_spec_checked (Err r) = Checking.refused (number r.refusal) r.place
