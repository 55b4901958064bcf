-- `listing::records::Model::put_points` meets its contract: the top points are written, then the groups.
use Rattle.std.proofs.Common.{◌≡◌, ap, ◌∙◌, arith, length}
use Rattle.model_definitions.specs.Definitions.{points_size}
use Rattle.layout.specs.Layout.{no_instance}
use Rattle.layout.specs.PointTables.{present_within}
use Rattle.layout.specs.InternalWalks.{content_from, instance_in}
use Rattle.layout.proofs.PointCounts as counts
use Rattle.listing.specs.InternalContracts.{written}
use Rattle.listing.proofs.ModelWriting as model
use Rattle.listing.proofs.CheckedPlants.{accepted_of}
use Rattle.listing.proofs.records.Model.put_points.Goals as goal

pub put_run-after_points-requires : goal.put_run-after_points-requires
put_run-after_points-requires c =
    let v = c.args in
    let m = v.self.now in
    let pre = c.requires in
    let words = m.catalog.sixteen_bits in
    model.run_asks m.visit v.records v.out.now (accepted_of _ m.catalog.accepted) pre.ready words
    pre.has_points pre.capacity

pub returns-then-after_points-self : goal.returns-then-after_points-self
returns-then-after_points-self c =
    let v = c.args in
    let m = v.self.now in
    let pre = c.requires in
    let words = m.catalog.sixteen_bits in
    let run = c.put_run-after_points.ensures.after_run in
    let present = present_within (length m.body.now) 0 (content_from m.catalog.words.now m.survey.first).points in
    let e : points_size present ≡ length m.body.now = omega (arith, run.offset) in
    let a = model.all_points m.visit v.records v.out.now (accepted_of _ m.catalog.accepted) pre.ready words
    pre.has_points pre.capacity e in
    let n = counts.points_counted m.body.now (instance_in v.table.now no_instance) 0 present in
    record {
      value = omega (arith, run.records, n, ap length a);
      out_after = c.put_run-after_points.ensures.out_after ∙ ap (λ x. written m.visit v.records x v.out.now) a;
    }

pub put_groups-requires : goal.put_groups-requires
put_groups-requires c =
    let v = c.args in
    let m = v.self.now in
    let pre = c.requires in
    let words = m.catalog.sixteen_bits in
    let run = c.put_run-after_points.ensures.after_run in
    let full = model.else_full m.visit v.records v.out.now (accepted_of _ m.catalog.accepted) pre.ready words
    pre.has_points pre.capacity (λ e. c.if-after_points-self.false (omega (arith, run.offset, e))) in
    model.groups_ask m.visit v.records v.out.now (accepted_of _ m.catalog.accepted) pre.ready words
    pre.has_points pre.capacity run full.0 full.1 c.put_run-after_points.ensures.out_after

pub returns : goal.returns
returns c =
    let v = c.args in
    let m = v.self.now in
    let pre = c.requires in
    let words = m.catalog.sixteen_bits in
    let run = c.put_run-after_points.ensures.after_run in
    let full = model.else_full m.visit v.records v.out.now (accepted_of _ m.catalog.accepted) pre.ready words
    pre.has_points pre.capacity (λ e. c.if-after_points-self.false (omega (arith, run.offset, e))) in
    let wrote = c.put_run-after_points.ensures.out_after in
    let g = c.put_groups.ensures in
    record {
      value = model.records_after m.visit v.records v.out.now (accepted_of _ m.catalog.accepted) pre.ready words pre.has_points pre.capacity run full.0 full.1 wrote g.after_groups;
      out_after = model.list_after m.visit v.records v.out.now (accepted_of _ m.catalog.accepted) pre.ready words pre.has_points pre.capacity run full.0 full.1 wrote g.out_after;
    }
