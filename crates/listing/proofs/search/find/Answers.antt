-- `listing::search::find` meets its contract: 1 to 29 as for listing, then the search in the map.
use mathlib.Core.Path.{sym, ap, ◌∙◌}
use Rattle.std.specs.Prelude.{Err}
use Rattle.std.proofs.lemmas.Result.{err_from_is_err_and}
use Rattle.refusals.specs.Refusals.{number}
use Rattle.listing.specs.Listing as Listing
use Rattle.listing.specs.Listing.{all_records, walked}
use Rattle.listing.specs.Finding.{finding_in, finding, result}
use Rattle.listing.specs.CodeTypes.{to_spec_finding}
use Rattle.listing.proofs.CheckedPlants.{records_walked}
use Rattle.listing.proofs.ResultCases.{result_refused}
use Rattle.listing.proofs.search.find.Goals as goal

pub returns-in_err-plant : goal.returns-in_err-plant
unfolding finding
returns-in_err-plant c =
    let v = c.args in
    let r = c.in_err-plant.field-0.0 in
    let out = err_from_is_err_and c.from_residual.result c.from_residual.ensures.1 in
    let refused = result_refused (all_records v.catalog.now v.map.now) (number r.refusal) r.place r.headers c.in_err-plant.ensures in
    ap to_spec_finding out.1
    ∙ ap (λ e. to_spec_finding (Err e)) out.2
    ∙ sym (ap (λ a. result (finding_in v.model v.point v.path.instances a)) refused)

pub returns-in_err-survey_map : goal.returns-in_err-survey_map
unfolding finding
returns-in_err-survey_map c =
    let v = c.args in
    let r = c.in_err-survey_map.field-0.0 in
    let plant = c.in_ok-plant.plant in
    let walk = records_walked plant.catalog.accepted plant.opens c.in_ok-plant.ensures in
    let residual = c.from_residual-in_err-survey_map in
    let out = err_from_is_err_and residual.result residual.ensures.1 in
    let e = c.in_err-survey_map.ensures ∙ ap Listing.result walk in
    let refused = result_refused (all_records v.catalog.now v.map.now) (number r.refusal) r.place r.headers e in
    ap to_spec_finding out.1
    ∙ ap (λ e. to_spec_finding (Err e)) out.2
    ∙ sym (ap (λ a. result (finding_in v.model v.point v.path.instances a)) refused)

pub returns : goal.returns
unfolding finding
returns c =
    let v = c.args in
    let plant = c.in_ok-plant.plant in
    let walk = records_walked plant.catalog.accepted plant.opens c.in_ok-plant.ensures in
    c.search_map.ensures
    ∙ ap (λ a. result (finding_in v.model v.point v.path.instances a)) walk
