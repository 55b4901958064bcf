-- `listing::list` meets its contract: the survey refuses or counts, then 30 is decided, then the records are written.
use Rattle.std.proofs.Common.{◌≡◌, ℕ, List, length, ap, ◌∙◌, arith}
use Rattle.std.specs.Prelude.{Result, Ok, Err}
use Rattle.std.proofs.lemmas.Result.{err_from_is_err_and}
use Rattle.refusals.specs.Refusals.{number}
use Rattle.listing.specs.declared.Listed.{Listed}
use Rattle.listing.specs.declared.NotListed.{NotListed}
use Rattle.listing.specs.Listing.{all_records, listing, result, stored}
use Rattle.listing.specs.CodeTypes.{to_spec_listing, HeadersCounted}
use Rattle.listing.specs.Calls.{ListCall}
use Rattle.listing.proofs.ListingCases.{listing_records}
use Rattle.listing.proofs.CheckedPlants.{records_walked}
use Rattle.listing.proofs.HeadersCounted.{headers_counted}
use Rattle.listing.proofs.WholeAnswer.{Answered, answered_by_lem, too_short, has_capacity, before_capacity}
use Rattle.listing.proofs.list.Goals as goal

-- The headers follow from the result, and both equations make the call.
with_headers : (catalog map out : List ℕ) (r : Result Listed NotListed) {out' : List ℕ}
    → Answered (listing catalog map (length out)) out (to_spec_listing r) out'
    → (to_spec_listing r ≡ result (listing catalog map (length out)))
    × (out' ≡ stored (listing catalog map (length out)) out)
    × HeadersCounted map r
    × ListCall catalog map out r out'
with_headers catalog map out r w =
    (w.0, w.1, headers_counted catalog map (length out) r w.0, record { result = w.0; list = w.1 })

pub returns-in_err-plant : goal.returns-in_err-plant
returns-in_err-plant c =
    let v = c.args in
    let out = v.out.now in
    let r = c.in_err-plant.field-0.0 in
    let exit = err_from_is_err_and c.from_residual.result c.from_residual.ensures.1 in
    let n = before_capacity out (all_records v.catalog.now v.map.now) (number r.refusal) r.place r.headers c.in_err-plant.ensures in
    let w = with_headers v.catalog.now v.map.now out c.from_residual.result
    (answered_by_lem out (listing_records v.catalog.now v.map.now (length out))
    (ap to_spec_listing exit.1 ∙ ap (λ e. to_spec_listing (Err e)) exit.2 ∙ n.0, n.1)) in
    record { result_value = w.0; out_after = w.1; headers_counted = w.2; list_call = w.3 }

pub returns-in_err-listed : goal.returns-in_err-listed
returns-in_err-listed c =
    let v = c.args in
    let out = v.out.now in
    let plant = c.in_ok-plant.plant in
    let walk = records_walked plant.catalog.accepted plant.opens c.in_ok-plant.ensures in
    let r = c.in_err-listed.field-0.0 in
    let residual = c.from_residual-in_err-listed in
    let exit = err_from_is_err_and residual.result residual.ensures.1 in
    let e = c.in_err-listed.ensures ∙ ap result walk in
    let n = before_capacity out (all_records v.catalog.now v.map.now) (number r.refusal) r.place r.headers e in
    let w = with_headers v.catalog.now v.map.now out residual.result
    (answered_by_lem out (listing_records v.catalog.now v.map.now (length out))
    (ap to_spec_listing exit.1 ∙ ap (λ e. to_spec_listing (Err e)) exit.2 ∙ n.0, n.1)) in
    record { result_value = w.0; out_after = w.1; headers_counted = w.2; list_call = w.3 }

pub returns-then-out-listed : goal.returns-then-out-listed
returns-then-out-listed c =
    let v = c.args in
    let out = v.out.now in
    let plant = c.in_ok-plant.plant in
    let walk = records_walked plant.catalog.accepted plant.opens c.in_ok-plant.ensures in
    let a = all_records v.catalog.now v.map.now in
    let listed = c.in_ok-listed.listed in
    let n = too_short out a listed.points listed.headers (c.in_ok-listed.ensures ∙ ap result walk) (omega arith) in
    let w = with_headers v.catalog.now v.map.now out c.refused.result
    (answered_by_lem out (listing_records v.catalog.now v.map.now (length out)) (c.refused.ensures ∙ n.0, n.1)) in
    record { result_value = w.0; out_after = w.1; headers_counted = w.2; list_call = w.3 }

pub returns : goal.returns
returns c =
    let v = c.args in
    let out = v.out.now in
    let plant = c.in_ok-plant.plant in
    let walk = records_walked plant.catalog.accepted plant.opens c.in_ok-plant.ensures in
    let a = all_records v.catalog.now v.map.now in
    let listed = c.in_ok-listed.listed in
    let e = c.in_ok-listed.ensures ∙ ap result walk in
    let capacity = has_capacity out a listed.points listed.headers e (omega arith) in
    let w = with_headers v.catalog.now v.map.now out (Ok listed)
    (answered_by_lem out (listing_records v.catalog.now v.map.now (length out) ∙ capacity.1)
    (e, c.put_map.ensures ∙ ap (λ x. stored x out) walk)) in
    record { result_value = w.0; out_after = w.1; headers_counted = w.2; list_call = w.3 }
