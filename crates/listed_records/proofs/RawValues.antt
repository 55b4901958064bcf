-- The registers of each record lie in the map, and its raw value is what they hold.
use mathlib.Core.Path.{◌≡◌, sym, ap, ◌∙◌}
use mathlib.Core.List.{List}
use Prim.Native.Nat.{ℕ, ◌+◌, ◌≤◌}
use lib.ListN.{length, take, drop}
use Rattle.lists.specs.Members.{In}
use Rattle.registers.specs.Registers.{shown_raw}
use Rattle.register_map.proofs.BodyReplaced.{inside_map, registers_in_map}
use Rattle.layout.proofs.PointPlaces.{point_inside, point_reads}
use Rattle.listing.specs.Listing.{Record, listed, all_records}
use Rattle.listed_records.proofs.RecordSources.{record_source}

module _ (catalog map : List ℕ) (rs : List Record) (headers : ℕ) (all : all_records catalog map ≡ listed rs headers)
    (r : Record) (there : In r rs) where
  -- The registers of a record lie in the map,
  pub record_inside : r.address + r.point.definition.size ≤ length map
  record_inside =
      let o = record_source catalog map rs headers all r there in
      let d = o.by.definition in
      let inside = point_inside d o.by.sound o.own.body o.all o.by.reads r.point o.holds in
      inside_map map o.preceding o.own o.following o.made r.point.offset r.point.definition.size inside r.address
      o.address

  -- and its raw value is what they hold.
  pub record_raw : r.point.raw ≡ shown_raw (take r.point.definition.size (drop r.address map))
  record_raw =
      let o = record_source catalog map rs headers all r there in
      let d = o.by.definition in
      let inside = point_inside d o.by.sound o.own.body o.all o.by.reads r.point o.holds in
      point_reads d o.by.sound o.own.body o.all o.by.reads r.point o.holds
      ∙ ap shown_raw (sym (registers_in_map map o.preceding o.own o.following o.made r.point.offset
      r.point.definition.size inside r.address o.address))
