-- The code's types and the values of the definitions that they represent.
use Rattle.std.proofs.Math.Option as Maybe
use Rattle.std.specs.Prelude.{List, ℕ, ◌*◌, ◌/◌, ◌≤◌, length, Option, Some, None, Result, Ok, Err}
use Rattle.refusals.specs.declared.Refused.{Refused}
use Rattle.refusals.specs.Refusals.{number}
use Rattle.input.specs.Parsing as Parsing
use Rattle.input.specs.declared.Parsed.{Parsed}

-- The value of a digit, or none.
abbrev pub to_spec_digit : Option ℕ → Maybe.Option ℕ
to_spec_digit (Some value) = Maybe.some value
to_spec_digit None = Maybe.none

-- The input that `parse` reads: the capacity is the length of the two lists, eight words a frame.
abbrev pub parsed_into : List ℕ → List ℕ → List ℕ → Parsing.Input
parsed_into text catalog map = Parsing.parsed text (length catalog / 8) (length map)

-- The result: the number of frames and of registers, or the number of a refusal and its place.
pub data Parse : Type 0 where
  parsed_result : ℕ → ℕ → Parse
  refused_result : ℕ → ℕ → Parse

-- The result for an input.
abbrev pub result : Parsing.Input → Parse
result (Parsing.words catalog map) = parsed_result (length catalog / 8) (length map)
result (Parsing.refused number place) = refused_result number place

-- The value that `parse` returns, as a result.
abbrev pub to_spec_parsed : Result Parsed Refused → Parse
to_spec_parsed (Ok counts) = parsed_result counts.frames counts.registers
to_spec_parsed (Err r) = refused_result (number r.refusal) r.place

-- The counts are within the lists, so that a caller may take that many words from them. (`stored_catalog` and `stored_map` say what the
-- lists hold.)
abbrev pub CountsFit : List ℕ → List ℕ → Result Parsed Refused → Type 0
CountsFit catalog map (Ok counts) = (counts.frames * 8 ≤ length catalog) × (counts.registers ≤ length map)
CountsFit catalog map (Err r) = Unit {0}
