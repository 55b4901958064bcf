-- `listing::surveys::survey_known` meets its contract: frames and table give the survey by the definition.
use mathlib.Core.Path.{◌≡◌, sym, ◌∙◌}
use mathlib.Core.Bool.{Bool}
use mathlib.Core.List.{List}
use Prim.Native.Nat.{ℕ, ◌≤◌, ◌<◌}
use native.Mathlib.Omega.{arith}
use Rattle.std.proofs.Common.{rules}
use lib.ListN.{length, take}
use Rattle.catalog.specs.Rules.{run}
use Rattle.catalog_frames.specs.Frames.{frame_in}
use Rattle.model_definitions.specs.Definitions.{points_size}
use Rattle.layout.specs.Reading.{pad_left_out}
use Rattle.layout.specs.FrameWalk.{onward, head_of}
use Rattle.layout.specs.InternalWalks.{content_from, ParsesAt, Accepted}
use Rattle.layout.proofs.FrameRuns.{content_recorded}
use Rattle.layout.proofs.AcceptedModels.{accepted_few}
use Rattle.definition_frames.specs.CodeTypes.{to_spec_run, run_of, lacks_pad}
use Rattle.definition_frames.specs.declared.runs.Run.{Run}
use Rattle.definition_frames.proofs.RunSteps.{content_run}
use Rattle.definition_frames.proofs.PadTests.{content_pad}
use Rattle.listing.specs.InternalContracts.{RunOf}
use Rattle.listing.proofs.SurveyedModels as models
use Rattle.listing.proofs.SurveyedByFrames as laws
use Rattle.listing.proofs.CheckedPlants.{accepted_of}
use Rattle.listing.proofs.surveys.survey_known.Goals as goal

-- The run is that of the definition's points.
top_run : (ws : List ℕ) (first : ℕ) → Accepted ws → ParsesAt ws first → (r : Run)
    → to_spec_run r ≡ run_of (take 4096 (run (onward ws first))) first → RunOf ws first r
top_run ws first accepted parses r e = content_run ws first parses (accepted_few ws accepted) r e

-- The code's test for a pad that is left out is the definition's.
pad_test : (ws : List ℕ) (first : ℕ) → ParsesAt ws first → {r : Run} → RunOf ws first r → (id len : ℕ) {b value : Bool}
    → b ≡ lacks_pad id (to_spec_run r) (head_of (frame_in ws r.next)) len → b ≡ value
    → pad_left_out id (content_from ws first) len ≡ value
pad_test ws first parses {r} run id len e is = sym (e ∙ content_pad ws first parses r run id len) ∙ is

pub returns-then-is_pad_left_out : goal.returns-then-is_pad_left_out
returns-then-is_pad_left_out c =
    let a = c.args in
    let is_table : length a.table.now ≡ 65536 = search rules in
    let ws = a.catalog.now.words.now in
    let known = c.requires in
    let r = top_run ws a.first (accepted_of _ c.args.catalog.now.accepted) known.0 _ c.run_extent-run.ensures in
    let e = pad_test ws a.first known.0 r a.model.now.id (length a.model.now.body.now) c.is_pad_left_out.ensures c.if-is_pad_left_out.true in
    let recorded = c.record_run.ensures ∙ content_recorded ws a.first known.0 a.model.now.body.now 0 a.table.now in
    let surveyed = laws.pad_left_out_lem a.model.now.id (accepted_of _ c.args.catalog.now.accepted) known.0 known.1 a.model.now.body.now a.table.now is_table
    recorded r e in
    record { result_value = surveyed.0; ready_by = surveyed.1.0 }

pub returns-then-body-run : goal.returns-then-body-run
returns-then-body-run c =
    let a = c.args in
    let ws = a.catalog.now.words.now in
    let known = c.requires in
    let r = top_run ws a.first (accepted_of _ c.args.catalog.now.accepted) known.0 _ c.run_extent-run.ensures in
    let e = pad_test ws a.first known.0 r a.model.now.id (length a.model.now.body.now) c.is_pad_left_out.ensures c.if-is_pad_left_out.false in
    let short : length a.model.now.body.now < points_size (content_from ws a.first).points = omega (arith, c.if-body-run.true, r.size) in
    record {
      result_value = models.below_surveyed a.model.now.id (content_from ws a.first) a.model.now.body.now e short;
      ready_by = tt;
    }

pub groups_extent-groups-requires : goal.groups_extent-groups-requires
groups_extent-groups-requires c =
    let a = c.args in
    let ws = a.catalog.now.words.now in
    let known = c.requires in
    let r = top_run ws a.first (accepted_of _ c.args.catalog.now.accepted) known.0 _ c.run_extent-run.ensures in
    let recorded = c.record_run-2.ensures ∙ content_recorded ws a.first known.0 a.model.now.body.now 0 a.table.now in
    record {
      at_groups = laws.at_groups a.model.now.id (accepted_of _ c.args.catalog.now.accepted) known.0 known.1 r;
      levels_bound = omega arith;
    }

pub returns-then-groups : goal.returns-then-groups
returns-then-groups c =
    let a = c.args in
    let is_table : length a.table.now ≡ 65536 = search rules in
    let ws = a.catalog.now.words.now in
    let known = c.requires in
    let r = top_run ws a.first (accepted_of _ c.args.catalog.now.accepted) known.0 _ c.run_extent-run.ensures in
    let e = pad_test ws a.first known.0 r a.model.now.id (length a.model.now.body.now) c.is_pad_left_out.ensures c.if-is_pad_left_out.false in
    let recorded = c.record_run-2.ensures ∙ content_recorded ws a.first known.0 a.model.now.body.now 0 a.table.now in
    let words = c.args.catalog.now.sixteen_bits in
    let long : points_size (content_from ws a.first).points ≤ length a.model.now.body.now = omega (arith, c.if-body-run.false, r.size) in
    record {
      result_value = laws.unimplemented a.model.now.id (accepted_of _ c.args.catalog.now.accepted) known.0 known.1 a.model.now.body.now a.table.now is_table
          recorded words a.model.now.short e long r c.groups_extent-groups.ensures.extent_of c.if-groups.true;
      ready_by = tt;
    }

pub fitted-requires : goal.fitted-requires
fitted-requires c =
    let a = c.args in
    let known = c.requires in
    let r = top_run a.catalog.now.words.now a.first (accepted_of _ c.args.catalog.now.accepted) known.0 _ c.run_extent-run.ensures in
    let few = laws.few_points_lem a.model.now.id (accepted_of _ c.args.catalog.now.accepted) known.0 known.1 r in
    let groups = c.groups_extent-groups.ensures.extent_of in
    record {
      size_in_bounds = (omega (arith, c.if-body-run.false), a.model.now.short, few);
      size_bound = (omega (arith, groups.size), omega (arith, groups.points), omega (arith, groups.fill_points));
    }

pub returns : goal.returns
returns c =
    let a = c.args in
    let is_table : length a.table.now ≡ 65536 = search rules in
    let ws = a.catalog.now.words.now in
    let known = c.requires in
    let r = top_run ws a.first (accepted_of _ c.args.catalog.now.accepted) known.0 _ c.run_extent-run.ensures in
    let e = pad_test ws a.first known.0 r a.model.now.id (length a.model.now.body.now) c.is_pad_left_out.ensures c.if-is_pad_left_out.false in
    let recorded = c.record_run-2.ensures ∙ content_recorded ws a.first known.0 a.model.now.body.now 0 a.table.now in
    let words = c.args.catalog.now.sixteen_bits in
    let long : points_size (content_from ws a.first).points ≤ length a.model.now.body.now = omega (arith, c.if-body-run.false, r.size) in
    let surveyed = laws.surveyed_here a.model.now.id (accepted_of _ c.args.catalog.now.accepted) known.0 known.1 a.model.now.body.now a.table.now is_table
    recorded words a.model.now.short e long r c.groups_extent-groups.ensures.extent_of c.if-groups.false c.fitted.ensures in
    record { result_value = surveyed.0; ready_by = surveyed.1.0 }
