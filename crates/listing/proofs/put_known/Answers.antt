-- `listing::put_known` meets its contract: the survey decides whether the model has records to write.
use Rattle.std.proofs.Common.{◌≡◌}
use Rattle.std.specs.Prelude.{None}
use Rattle.layout.specs.InternalWalks.{read_in}
use Rattle.listing.specs.InternalContracts.{visit_of}
use Rattle.listing.proofs.MapSurvey.{no_points_unknown, no_points_refused}
use Rattle.listing.proofs.MapRecords.{nothing_written}
use Rattle.listing.proofs.ReadyModels.{few_instances}
use Rattle.listing.proofs.put_known.Goals as goal

pub returns-in_default-clause-out_after : goal.returns-in_default-clause-out_after
returns-in_default-clause-out_after c =
    let unknown : c.in_default.field-0 ≡ None = cc in
    let v = c.args in
    let m = v.model.now in
    let none = no_points_unknown (read_in v.catalog.now.words.now m.id m.body.now) (rw (c.in_default.is, unknown) at c.survey_model.ensures.result_value) in
    (nothing_written (visit_of v.index m) v.records _ v.out.now none).1

pub returns-in_default-2-clause-out_after : goal.returns-in_default-2-clause-out_after
returns-in_default-2-clause-out_after c =
    let v = c.args in
    let m = v.model.now in
    let none = no_points_refused (read_in v.catalog.now.words.now m.id m.body.now) (rw c.in_default.is at c.survey_model.ensures.result_value) in
    (nothing_written (visit_of v.index m) v.records _ v.out.now none).1

pub invariant_of-model : goal.invariant_of-model
invariant_of-model c =
    let m = c.args.model.now in
    let survey = rw c.in-Ok-Some.field-0-is at c.in-Ok-Some.ensures in
    record {
      registers = m.sixteen_bits;
      short = m.short;
      address = m.low;
      few_instances = few_instances survey.ready_by m.short;
    }
