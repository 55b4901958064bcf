-- `listing::survey_map` meets its contract: at each header, the points so far and the remaining models give the whole result.
use mathlib.Core.Path.{◌≡◌, sym, ap, subst, ◌∙◌}
use mathlib.Core.List.{List}
use Prim.Native.Nat.{ℕ, ◌+◌}
use native.Mathlib.Omega.{arith}
use lib.Dec.{eqb}
use Rattle.register_map.proofs.HeaderCases.{model_ends}
use Rattle.model_definitions.specs.Definitions.{definitions}
use Rattle.register_map.specs.Scan.{Model}
use Rattle.register_map.proofs.HeaderLaws.{opening_none}
use Rattle.layout.specs.Reading.{Reading, reading}
use Rattle.layout.specs.InternalWalks.{Surveyed, surveyed}
use Rattle.layout.proofs.PointsInside.{points_few}
use Rattle.listing.proofs.MapSurvey.{Surveying, survey_starts, survey_ends, survey_refused}
use Rattle.listing.proofs.MapSurvey.{survey_count, survey_faulty, survey_on}
use Rattle.std.proofs.Common.{rules}
use Rattle.listing.proofs.CheckedPlants.{accepted_of}
use Rattle.listing.proofs.survey_map.Goals as goal

-- A survey of the model as the code keeps it is one of the model there.
of_model : (read : Model → Reading) {id here : ℕ} {body kept : List ℕ} → here ≡ id → kept ≡ body → {s : Surveyed}
    → s ≡ surveyed (read (record { id = here; body = kept })) → s ≡ surveyed (read (record { id = id; body = body }))
of_model read {id} {here} {body} {kept} same is e =
    e ∙ ap (λ n. surveyed (read (record { id = n; body = kept }))) same ∙ ap (λ b. surveyed (read (record { id = id; body = b }))) is

pub loop-id-init : goal.loop-id-init
loop-id-init c =
    survey_starts (reading (definitions c.args.plant.now.catalog.words.now)) c.args.plant.now.map.now

pub returns-in-Err-survey_model : goal.returns-in-Err-survey_model
returns-in-Err-survey_model c =
    let l = c.loop-id in
    let h = sym (rw c.in-Ok-Model.field-0-is at c.in-Ok-Model.ensures) in
    let short = (opening_none c.args.plant.now.map.now c.args.plant.now.opens).0 in
    let survey = c.in-Err-survey_model.ensures.result_value in
    let e = of_model (reading (definitions c.args.plant.now.catalog.words.now)) c.model_at-model.ensures.id c.model_at-model.ensures.body survey in
    c.refused.ensures ∙ survey_faulty l.invariant short h e

pub overflow_add-points : goal.overflow_add-points
overflow_add-points c =
    let l = c.loop-id in
    let h = sym (rw c.in-Ok-Model.field-0-is at c.in-Ok-Model.ensures) in
    let short = (opening_none c.args.plant.now.map.now c.args.plant.now.opens).0 in
    let survey = c.in-Ok.ensures.result_value in
    let e = of_model (reading (definitions c.args.plant.now.catalog.words.now)) c.model_at-model.ensures.id c.model_at-model.ensures.body survey in
    let on = survey_on l.invariant short h (points_few c.args.plant.now.catalog.words.now (accepted_of _ c.args.plant.now.catalog.accepted)) c.in-Ok.survey e in
    let more : c.map_or-points.result ≡ survey_count c.in-Ok.survey = search rules in
    record { fits = omega (arith, on.0) }

pub loop-id-preserved : goal.loop-id-preserved
loop-id-preserved c =
    let l = c.loop-id in
    let h = sym (rw c.in-Ok-Model.field-0-is at c.in-Ok-Model.ensures) in
    let short = (opening_none c.args.plant.now.map.now c.args.plant.now.opens).0 in
    let read = reading (definitions c.args.plant.now.catalog.words.now) in
    let survey = c.in-Ok.ensures.result_value in
    let e = of_model read c.model_at-model.ensures.id c.model_at-model.ensures.body survey in
    let on = survey_on l.invariant short h (points_few c.args.plant.now.catalog.words.now (accepted_of _ c.args.plant.now.catalog.accepted)) c.in-Ok.survey e in
    let more : c.map_or-points.result ≡ survey_count c.in-Ok.survey = search rules in
    let Reached : ℕ → ℕ → Type 0 = λ at n. Surveying read c.args.plant.now.map.now at (l.headers + 1) (l.points + n) in
    let at_next = subst (λ at. Reached at (survey_count c.in-Ok.survey)) (sym c.after_model-at.ensures) on.1 in
    subst (Reached c.after_model-at.result) (sym more) at_next

pub returns-in-Ok-End : goal.returns-in-Ok-End
returns-in-Ok-End c =
    let l = c.loop-id in
    survey_ends l.invariant (sym (rw c.in-Ok-End.field-0-is at c.in-Ok-End.ensures))

pub returns-in-Err : goal.returns-in-Err
returns-in-Err c =
    let l = c.loop-id in
    c.refused-in-Err.ensures ∙ survey_refused l.invariant (sym c.in-Err.ensures)

pub model_at-model-requires : goal.model_at-model-requires
model_at-model-requires c =
    let map = c.args.plant.now.map.now in
    let ends = model_ends (eqb c.loop-id.at 2) map c.loop-id.at (sym (rw c.in-Ok-Model.field-0-is at c.in-Ok-Model.ensures)) in
    (ends, (opening_none map c.args.plant.now.opens).0)
