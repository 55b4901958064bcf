-- `listing::surveys::survey_model` meets its contract: it surveys by the definition that is found.
use mathlib.Core.Path.{◌≡◌, sym, ap, ◌∙◌}
use Rattle.std.proofs.Common.{rules}
use Rattle.model_definitions.specs.Definitions.{definitions}
use Rattle.layout.specs.InternalWalks.{content_from, surveyed}
use Rattle.layout.proofs.AcceptedModels.{read_known, read_unknown}
use Rattle.listing.specs.InternalCodeTypes.{to_spec_survey, to_spec_known}
use Rattle.listing.proofs.surveys.survey_model.Goals as goal

pub returns-clause-result_value : goal.returns-clause-result_value
returns-clause-result_value c =
    let a = c.args in
    let ws = a.catalog.now.words.now in
    let known = sym c.in-Some.ensures.result_value in
    let read = read_known (definitions ws) a.model.now.id a.model.now.body.now (content_from ws c.in-Some.first) known in
    let mapped : to_spec_survey c.map.result ≡ to_spec_known c.survey_known.result = search rules in
    mapped ∙ c.survey_known.ensures.result_value ∙ sym (ap surveyed read)

pub returns-in_default-clause-result_value : goal.returns-in_default-clause-result_value
returns-in_default-clause-result_value c =
    let a = c.args in
    let ws = a.catalog.now.words.now in
    let none = sym c.in_default.ensures.result_value in
    sym (ap surveyed (read_unknown (definitions ws) a.model.now.id a.model.now.body.now none))
