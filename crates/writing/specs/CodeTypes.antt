-- From the code's types to the definitions' types.
use Rattle.std.specs.Prelude.{Result, Ok, Err}
use Rattle.refusals.specs.Refusals.{number}
use Rattle.refusals.specs.declared.Refused.{Refused}
use Rattle.writing.specs.Writing as Writing
use Rattle.writing.specs.Writing.{refused_result, written_result}

-- What `write` returns.
abbrev pub Written : Type 0
Written = Result (Unit {0}) Refused

-- The result that it tells.
abbrev pub to_spec_written : Written → Writing.Result
to_spec_written (Ok done) = written_result
to_spec_written (Err r) = refused_result (number r.refusal) r.place
