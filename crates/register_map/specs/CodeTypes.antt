-- From the code's types to those of the definitions.
use Rattle.std.proofs.Math.Option.{Option, none, some}
use Rattle.std.specs.Prelude.{ℕ, Result, Ok, Err}
use Rattle.refusals.specs.Refusals.{number}
use Rattle.refusals.specs.declared.Refusal.{Refusal}
use Rattle.register_map.specs.Headers as Headers
use Rattle.register_map.specs.declared.Header.{Header}

-- The result of `header_at` as the definition's `Header`.
abbrev pub to_spec_header : Result Header Refusal → Headers.Header
to_spec_header (Ok (Header.Model id len)) = Headers.model id len
to_spec_header (Ok Header.End) = Headers.end_marker
to_spec_header (Err r) = Headers.refused (number r)

-- The result of `opened`: the number of the refusal, if there is one.
abbrev pub to_spec_opening : Result (Unit {0}) Refusal → Option ℕ
to_spec_opening (Ok x) = none
to_spec_opening (Err r) = some (number r)
