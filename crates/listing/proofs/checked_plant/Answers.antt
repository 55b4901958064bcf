-- `listing::checked_plant` meets its contract: 1 to 11 come first, then 20 and 21.
use Rattle.std.proofs.Common.{rules, sym, ap, ◌∙◌}
use Rattle.std.specs.Prelude.{Err}
use Rattle.std.proofs.lemmas.Result.{err_from_is_err_and}
use Rattle.model_definitions.specs.Definitions.{definitions}
use Rattle.layout.specs.Reading.{reading}
use Rattle.listing.specs.Listing.{result}
use Rattle.listing.proofs.ListingCases.{unopened, records_accepted, records_refused}
use Rattle.listing.specs.InternalAccepted.{is_accepted, IsAccepted}
use Rattle.listing.proofs.CheckedPlants.{frames_few, matched_err}
use Rattle.listing.proofs.checked_plant.Goals as goal

pub returns-in_err-check : goal.returns-in_err-check
returns-in_err-check c =
    let v = c.args in
    let exit = err_from_is_err_and c.from_residual.result c.from_residual.ensures.1 in
    matched_err _ _ (exit.1 ∙ ap Err exit.2) (sym (ap result (records_refused v.catalog.now v.map.now (sym c.in_err-check.ensures))))

pub returns-in_err-opened : goal.returns-in_err-opened
returns-in_err-opened c =
    let v = c.args in
    let residual = c.from_residual-in_err-opened in
    let exit = err_from_is_err_and residual.result residual.ensures.1 in
    let all = records_accepted v.catalog.now v.map.now (sym c.in_ok-check.ensures)
    ∙ unopened (reading (definitions v.catalog.now)) v.map.now (sym c.in_err-opened.ensures) in
    matched_err _ _ (exit.1 ∙ ap Err exit.2) (sym (ap result all))

pub invariant_of-result : goal.invariant_of-result
invariant_of-result c =
    let accepted : IsAccepted c.args.catalog.now = sym (ap is_accepted c.in_ok-check.ensures) in
    record {
      accepted = accepted;
      few = frames_few _ accepted;
      sixteen_bits = search rules;
    }
