-- The records of a map rise: they are in the order of their addresses, and no two overlap.
use mathlib.Core.Path.{◌≡◌, refl, sym, subst}
use mathlib.Core.List.{List, [], ◌∷◌, ◌++◌, map}
use mathlib.Core.Logic.{⊎_elim}
use Prim.Native.Nat.{ℕ, ◌+◌, ◌≤◌}
use native.Mathlib.Omega.{arith}
use lib.ListN.{length}
use Rattle.lists.specs.Members.{In}
use Rattle.model_definitions.specs.Definitions.{definitions}
use Rattle.register_map.specs.Scan.{Model, size_of, Ending, scan}
use Rattle.layout.specs.Points.{ModelPoint}
use Rattle.layout.specs.Reading.{Reading, unknown, faulty, points, reading}
use Rattle.layout.specs.InternalWalks.{points_of}
use Rattle.layout.specs.Tiling.{PointsTile}
use Rattle.layout.proofs.TiledApart.{rises_lower, tiles_rise, above, apart, same_start}
use Rattle.layout.proofs.PointsInside.{accepted_tiled}
use Rattle.listing.specs.Listing.{Record, record_of, listed, walk, all_records, listing}
use Rattle.listing.proofs.ListingCases.{records_walk}
use Rattle.listed_records.proofs.AllRecords.{all_shown}
use Rattle.listed_records.specs.RecordOrder.{RecordsRise, RecordsApart}
use Rattle.listed_records.proofs.ModelRecords.{end_listed}
use Rattle.listed_records.proofs.WalkedModels.{records_first}
use Rattle.listed_records.proofs.RecordsTiling.{records_tile}

-- The address and the size of a record.
abbrev address : Record → ℕ
address r = r.address

abbrev size : Record → ℕ
size r = r.point.definition.size

-- The records of a walk rise, if the points of each model that is read tile its body.
walk_rises : (read : Model → Reading) (ending : Ending)
    → ((m : Model) (ps : List ModelPoint) → read m ≡ points ps → PointsTile 0 (length m.body) ps)
    → (ms : List Model) (index at : ℕ) (rs : List Record) (headers : ℕ) → walk read ending index at ms ≡ listed rs headers
    → RecordsRise (at + 2) rs
walk_rises read ending tile [] index at rs headers e =
    subst (RecordsRise (at + 2)) (sym (end_listed read ending index at rs headers e)) tt
walk_rises read ending tile (m ∷ ms) index at rs headers e =
    let s = records_first read ending index at m ms rs headers e in
    subst (RecordsRise (at + 2)) (sym s.2)
    (go (read m) refl s.0 (walk_rises read ending tile ms (index + 1) (at + size_of m) s.0 headers s.1))
  where
    go : (r : Reading) → read m ≡ r → (ss : List Record) → RecordsRise (at + size_of m + 2) ss
        → RecordsRise (at + 2) (map (record_of index at m.id) (points_of r) ++ ss)
    go unknown q ss u = rises_lower address size (at + 2) (at + size_of m + 2) ss (omega arith) u
    go (faulty fault) q ss u = rises_lower address size (at + 2) (at + size_of m + 2) ss (omega arith) u
    go (points ps) q ss u =
        let n = length m.body in
        let own = map (record_of index at m.id) ps in
        rises_lower address size (at + 2) (at + 2 + 0) (own ++ ss) (omega arith)
        (tiles_rise address size (at + 2 + 0) (at + 2 + n) own ss (records_tile index at m 0 n ps (tile m ps q))
        (rises_lower address size (at + 2 + n) (at + size_of m + 2) ss (omega arith) u))

module _ (catalog map : List ℕ) (rs : List Record) (headers : ℕ) (all : all_records catalog map ≡ listed rs headers) where
  -- The records of a map rise from address 4, the first register after the first header.
  pub records_rise : RecordsRise 4 rs
  records_rise =
      let w = records_walk catalog map all in
      walk_rises (reading (definitions catalog)) (scan map).ending
      (λ m ps q. (accepted_tiled catalog w.models w.accepted m ps q).1.tiles) (scan map).models 0 2 rs headers w.walks

  -- So each takes at least one register,
  pub record_sized : (r : Record) → In r rs → 1 ≤ r.point.definition.size
  record_sized r i = (above address size 4 rs records_rise r i).1

  -- and two of them do not overlap, or are the same.
  pub records_apart : (r w : Record) → In r rs → In w rs → (w ≡ r → ⊥) → RecordsApart r w
  records_apart r w i j n = ⊎_elim (λ e. absurd (n e)) (λ a. a) (apart address size 4 rs records_rise r w i j)

  -- Records with the same address are the same.
  pub one_address : (r w : Record) → In r rs → In w rs → w.address ≡ r.address → w ≡ r
  one_address = same_start address size 4 rs records_rise

-- The records that a listing shows rise.
pub listed_rise : (catalog registers : List ℕ) (capacity : ℕ) (rs : List Record) (headers : ℕ)
    → listing catalog registers capacity ≡ listed rs headers → RecordsRise 4 rs
listed_rise catalog registers capacity rs headers e =
    records_rise catalog registers rs headers (all_shown catalog registers capacity rs headers e)
