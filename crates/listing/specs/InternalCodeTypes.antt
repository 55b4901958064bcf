-- Internal: the results of private functions as values of the definitions; no public contract cites this file.
use Rattle.std.proofs.Math.Option as Math
use Rattle.std.proofs.Math.Option.{none, some}
use Rattle.std.specs.Prelude.{Option, Some, None, Result, Ok, Err, List, ℕ}
use Rattle.refusals.specs.Refusals.{number}
use Rattle.refusals.specs.declared.Refusal.{Refusal}
use Rattle.catalog_frames.specs.CodeTypes.{to_spec_point}
use Rattle.model_definitions.specs.Definitions.{Content}
use Rattle.layout.specs.Locating as Locating
use Rattle.layout.specs.InternalWalks.{content_from, Surveyed, surveyed_unknown, surveyed_refused, surveyed_points}
use Rattle.listing.specs.declared.surveys.Survey.{Survey}
use Rattle.listing.specs.declared.locating.Location.{Location}

-- The top group of the definition that `find_model` found, if any.
abbrev pub to_spec_found : List ℕ → Option ℕ → Math.Option Content
to_spec_found ws (Some i) = some (content_from ws i)
to_spec_found ws None = none

-- The result of a survey of a model that the catalog knows.
abbrev pub to_spec_known : Result Survey Refusal → Surveyed
to_spec_known (Ok s) = surveyed_points s.points
to_spec_known (Err r) = surveyed_refused (number r)

-- The result of a survey.
abbrev pub to_spec_survey : Result (Option Survey) Refusal → Surveyed
to_spec_survey (Ok None) = surveyed_unknown
to_spec_survey (Ok (Some s)) = surveyed_points s.points
to_spec_survey (Err r) = surveyed_refused (number r)

-- The point that was located, if any.
abbrev pub to_spec_located : Option Location → Math.Option Locating.Located
to_spec_located (Some l) = some (record { offset = l.offset; definition = to_spec_point l.point })
to_spec_located None = none
