-- `listing::search::search_model` meets its contract: the point that is located is the first with the number and the path.
use mathlib.Core.Path.{◌≡◌, sym, ap, ◌∙◌}
use mathlib.Core.List.{List, []}
use Prim.Native.Nat.{ℕ}
use native.Mathlib.Omega.{arith}
use lib.ListN.{length}
use Rattle.std.proofs.Common.{rules}
use Rattle.std.specs.Prelude.{None, Ok}
use Rattle.lists.specs.Tests.{first_with}
use Rattle.layout.specs.Points.{ModelPoint}
use Rattle.layout.specs.Paths.{is_point}
use Rattle.layout.specs.InternalWalks.{read_in}
use Rattle.listing.specs.CodeTypes.{to_spec_finding}
use Rattle.listing.specs.Finding.{nothing_result, found_result}
use Rattle.listing.specs.InternalContracts.{result_at}
use Rattle.listing.proofs.MapSurvey.{no_points_unknown, no_points_refused, has_points}
use Rattle.listing.proofs.LocatedModels as model
use Rattle.listing.proofs.ReadyModels.{few_instances}
use Rattle.listing.proofs.CheckedPlants.{accepted_of}
use Rattle.listing.proofs.search.search_model.Goals as goal

-- In a model without points nothing is found.
nothing_found : (number : ℕ) (path : List ℕ) (at : ℕ) {ps : List ModelPoint} → ps ≡ []
    → nothing_result ≡ result_at at (first_with (is_point number path) ps)
unfolding first_with
nothing_found number path at e = sym (ap (λ qs. result_at at (first_with (is_point number path) qs)) e)

pub returns-in_default : goal.returns-in_default
returns-in_default c =
    let unknown : c.in_default.field-0 ≡ None = cc in
    let read = read_in c.args.catalog.now.words.now c.args.model.now.id c.args.model.now.body.now in
    nothing_found c.args.key.number c.args.key.path.instances c.args.model.now.address (no_points_unknown read (rw (c.in_default.is, unknown) at c.survey_model.ensures.result_value))

pub returns-in_default-2 : goal.returns-in_default-2
returns-in_default-2 c =
    let read = read_in c.args.catalog.now.words.now c.args.model.now.id c.args.model.now.body.now in
    nothing_found c.args.key.number c.args.key.path.instances c.args.model.now.address (no_points_refused read (rw c.in_default.is at c.survey_model.ensures.result_value))

pub invariant_of-search : goal.invariant_of-search
invariant_of-search c =
    let survey = rw c.in-Ok-Some.field-0-is at c.in-Ok-Some.ensures in
    record { few_instances = few_instances survey.ready_by c.args.model.now.short }

pub locate_model-requires : goal.locate_model-requires
locate_model-requires c =
    let words = c.args.catalog.now.sixteen_bits in
    let three : length c.args.key.path.instances ≡ 3 = search rules in
    let survey = rw c.in-Ok-Some.field-0-is at c.in-Ok-Some.ensures in
    let has = has_points (read_in c.args.catalog.now.words.now c.args.model.now.id c.args.model.now.body.now) survey.result_value in
    model.model_asks (accepted_of _ c.args.catalog.now.accepted) survey.ready_by words has c.args.model.now.short

pub target_at-requires : goal.target_at-requires
target_at-requires c =
    let words = c.args.catalog.now.sixteen_bits in
    let three : length c.args.key.path.instances ≡ 3 = search rules in
    let survey = rw c.in-Ok-Some.field-0-is at c.in-Ok-Some.ensures in
    let has = has_points (read_in c.args.catalog.now.words.now c.args.model.now.id c.args.model.now.body.now) survey.result_value in
    let short = c.args.model.now.short in
    let found = model.one_found (accepted_of _ c.args.catalog.now.accepted) survey.ready_by words has short c.args.key.number c.args.key.path.instances
    three c.args.model.now.address (sym c.in_ok-location.ensures) in
    (c.args.model.now.low, omega (arith, found.0, short))

pub returns : goal.returns
returns c =
    let words = c.args.catalog.now.sixteen_bits in
    let three : length c.args.key.path.instances ≡ 3 = search rules in
    let survey = rw c.in-Ok-Some.field-0-is at c.in-Ok-Some.ensures in
    let has = has_points (read_in c.args.catalog.now.words.now c.args.model.now.id c.args.model.now.body.now) survey.result_value in
    let found = model.one_found (accepted_of _ c.args.catalog.now.accepted) survey.ready_by words has c.args.model.now.short c.args.key.number
    c.args.key.path.instances three c.args.model.now.address (sym c.in_ok-location.ensures) in
    ap found_result c.target_at.ensures ∙ found.1

pub returns-in_err-location : goal.returns-in_err-location
returns-in_err-location c =
    let words = c.args.catalog.now.sixteen_bits in
    let three : length c.args.key.path.instances ≡ 3 = search rules in
    let survey = rw c.in-Ok-Some.field-0-is at c.in-Ok-Some.ensures in
    let has = has_points (read_in c.args.catalog.now.words.now c.args.model.now.id c.args.model.now.body.now) survey.result_value in
    ap (λ o. to_spec_finding (Ok o)) c.from_residual.ensures
    ∙ model.none_found (accepted_of _ c.args.catalog.now.accepted) survey.ready_by words has c.args.model.now.short c.args.key.number
    c.args.key.path.instances three c.args.model.now.address (sym c.in_err-location.ensures)
