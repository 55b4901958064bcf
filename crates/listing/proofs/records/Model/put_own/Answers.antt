-- `listing::records::Model::put_own` meets its contract: the points are recorded in the table, and then written by it.
use mathlib.Core.Path.{◌≡◌, ap, ◌∙◌}
use mathlib.Core.List.{List}
use Prim.Native.Nat.{ℕ, ◌+◌}
use native.Mathlib.Omega.{arith}
use Rattle.std.proofs.Common.{rules}
use lib.ListN.{length}
use Rattle.catalog_frames.specs.Frames.{Point}
use Rattle.layout.specs.Points.{ModelPoint}
use Rattle.layout.specs.PointTables.{table_with, present_within}
use Rattle.layout.specs.InternalWalks.{content_from}
use Rattle.layout.proofs.FramePosition.{parses_within}
use Rattle.layout.proofs.FrameRuns.{content_recorded}
use Rattle.layout.proofs.RecordedPoints.{numbers_in_table, present_all, own_points_lem}
use Rattle.listing.specs.InternalContracts.{written, RunAsks}
use Rattle.listing.specs.declared.records.Progress.{Progress}
use Rattle.listing.proofs.records.Model.put_own.Goals as goal

-- The points that begin before the end of the body are all of them.
all_are_present : (ws body out : List ℕ) (at : Progress)
    → RunAsks ws body out at (content_from ws at.frame).points
    → present_within (length body) at.offset (content_from ws at.frame).points ≡ (content_from ws at.frame).points
all_are_present ws body out at asks =
    present_all (length body) at.offset (content_from ws at.frame).points asks.sized asks.inside

pub overflow_add-first : goal.overflow_add-first
overflow_add-first c =
    omega (arith, parses_within c.args.self.now.catalog.words.now (c.args.at.frame + 1) c.requires.parses, c.args.self.now.catalog.few)

pub put_run-requires : goal.put_run-requires
put_run-requires c =
    rw (all_are_present _ _ _ _ c.requires) c.requires

pub returns : goal.returns
returns c =
    let a = c.args in
    let body = a.self.now.body.now in
    let own = (content_from a.self.now.catalog.words.now (a.at.frame + 1)).points in
    let all = all_are_present _ _ _ _ c.requires in
    let filled = c.record_run.ensures
    ∙ content_recorded a.self.now.catalog.words.now (a.at.frame + 1) c.requires.parses body a.at.offset a.table.now in
    let words = c.args.self.now.catalog.sixteen_bits in
    let numbers = numbers_in_table a.self.now.catalog.words.now words (a.at.frame + 1) c.requires.parses in
    let points = own_points_lem body a.at.offset own a.table.now a.path.instances
    c.record_run.new.table (search rules) numbers all filled in
    record {
      after_run = rw all at c.put_run.ensures.after_run;
      out_after = c.put_run.ensures.out_after ∙ ap (λ (ps : List ModelPoint). written a.self.now.visit a.at.records ps a.out.now) points;
      table_after = filled ∙ ap (λ (ps : List Point). table_with body a.at.offset ps a.table.now) all;
    }
