-- `listing::records::Model::put_record` meets its contract: the ten numbers of a point's record are written.
use mathlib.Core.Path.{ap, ◌∙◌}
use mathlib.Core.List.{List}
use Prim.Native.Nat.{ℕ, ◌*◌}
use lib.Seq.{sets}
use Rattle.catalog_frames.specs.CodeTypes.{to_spec_point}
use Rattle.layout.specs.Points.{point_at}
use Rattle.layout.specs.PointTables.{scope_in}
use Rattle.layout.specs.InternalWalks.{instance_in}
use Rattle.shown_points.proofs.PointClasses.{shown_at_lem}
use Rattle.listing.specs.Listing.{record_width}
use Rattle.listing.proofs.PointRuns.{shown_numbers}
use Rattle.listing.proofs.WrittenRecords.{written_one}
use Rattle.listing.proofs.records.Model.put_record.Goals as goal

pub returns : goal.returns
returns c =
    let a = c.args in
    let p = to_spec_point a.point in
    let register = scope_in a.table.now p.scale in
    let shown = c.show-shown.result in
    let fits = c.requires.point_fits in
    let part = c.part-registers in
    let is = shown_at_lem p a.self.now.body.now a.at.offset a.self.now.registers fits.sized
    fits.inside part.result.now part.ensures register shown c.show-shown.ensures in
    c.put.ensures
    ∙ ap (λ (ns : List ℕ). sets a.out.now (record_width * a.at.records) ns)
    (shown_numbers a.self.now.visit a.self.now.body.now a.table.now a.path.instances a.at.offset
    c.body_address.result p shown c.number.result c.body_address.ensures c.number.ensures is)
    ∙ written_one a.self.now.visit a.at.records
    (point_at a.self.now.body.now (instance_in a.table.now a.path.instances) a.at.offset p) a.out.now
