-- What a listing shows are all records of the map.
use mathlib.Core.Path.{◌≡◌}
use mathlib.Core.List.{List}
use Prim.Native.Nat.{ℕ}
use Rattle.listing.specs.Listing.{Record, listed, all_records, listing}
use Rattle.listing.proofs.ListingCases.{walk_records}
use Rattle.listing.proofs.ListingInversion.{listed_walks}

pub all_shown : (catalog map : List ℕ) (capacity : ℕ) (rs : List Record) (headers : ℕ) → listing catalog map capacity ≡ listed rs headers
    → all_records catalog map ≡ listed rs headers
all_shown catalog map capacity rs headers e = walk_records catalog map (listed_walks catalog map capacity rs headers e).0
