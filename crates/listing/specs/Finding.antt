-- Finding a point of a map (document 01, "Writing": by its model's place, its number and a path of three instance numbers).
use Rattle.std.specs.Prelude.{Bool, ◌&&◌, List, ℕ, eqb}
use Rattle.std.proofs.Math.Option.{none, some}
use Rattle.lists.specs.Tests.{first_with}
use Rattle.catalog_frames.specs.Frames.{Point}
use Rattle.layout.specs.Paths.{is_point}
use Rattle.listing.specs.Listing.{Record, all_records}
use Rattle.listing.specs.Listing as Listing

-- Is it the record of point `number` at `path` in model `index` of the map?
abbrev pub is_record : ℕ → ℕ → List ℕ → Record → Bool
is_record index number path r = eqb r.index index && is_point number path r.point

-- The outcome of finding a point: a refusal of listing (1 to 29) with its place, no such point, or its record.
pub data Finding : Type 0 where
  refused : ℕ → ℕ → Finding
  nothing : Finding
  found : Record → Finding

-- Point `number` at `path` in model `index`, found in an answer of listing: its first record, or the answer's refusal.
abbrev pub finding_in : ℕ → ℕ → List ℕ → Listing.Answer → Finding
finding_in index number path (Listing.refused n place headers) = refused n place
finding_in index number path (Listing.listed rs headers) =
    elim (first_with (is_record index number path) rs) [ none ↦ nothing | some r ↦ found r ]

-- The same, for the listing of a map by a catalog with any list capacity.
unfoldable pub finding : List ℕ → List ℕ → ℕ → ℕ → List ℕ → Finding
finding catalog map index number path = finding_in index number path (all_records catalog map)

-- The part of a record that a write needs: the point's address, its definition in the catalog, and its raw value.
pub record Target : Type 0 where
  pub address : ℕ
  pub definition : Point
  pub raw : ℕ

-- That part of a record.
abbrev pub target_of : Record → Target
target_of r = record { address = r.address; definition = r.point.definition; raw = r.point.raw }

-- What a call of `find` returns: a refusal's number and place, no such point, or the part of the record that a write needs.
pub data Result : Type 0 where
  refused_result : ℕ → ℕ → Result
  nothing_result : Result
  found_result : Target → Result

-- The result of an outcome.
abbrev pub result : Finding → Result
result (refused n place) = refused_result n place
result nothing = nothing_result
result (found r) = found_result (target_of r)
