-- Removing models from a catalog (document 01, "The map", on striking out): a map that the catalog accepts is accepted by the
-- remaining catalog. The records are exactly those of the remaining models, unchanged and in their order, and the headers stay.
use mathlib.Core.Path.{◌≡◌, ap, ◌∙◌}
use mathlib.Core.Bool.{Bool, true}
use mathlib.Core.List.{List}
use Prim.Native.Nat.{ℕ}
use native.Mathlib.Omega.{arith}
use Rattle.lists.specs.Each.{Each}
use Rattle.lists.proofs.SelectedLaws.{selected_fewer}
use Rattle.catalog.specs.Checking.{checked, accepted}
use Rattle.model_definitions.specs.Definitions.{definitions}
use Rattle.model_definitions.specs.Removal.{keeping}
use Rattle.model_definitions.proofs.Removal as catalogs
use Rattle.listing.specs.Listing.{Record, listed, with_capacity, listing}
use Rattle.listing.proofs.ListingCases.{with_capacity_lem, listing_walks}
use Rattle.listing.proofs.ListingInversion.{listed_walks}
use Rattle.stability.specs.Removed.{keeps_id, remaining_records}
use Rattle.stability.proofs.MapWalkAfterRemoval.{listed_after_removal}

-- With lists of any two lengths: the remaining records and the same headers, or 30 if the second list is too short for them.
pub removal_any_capacity : (choice : List Bool) (catalog map : List ℕ) (capacity capacity' : ℕ) (rs : List Record) (headers : ℕ)
    → listing catalog map capacity ≡ listed rs headers
    → listing (keeping choice catalog) map capacity' ≡ with_capacity capacity' (listed (remaining_records choice (definitions catalog) rs) headers)
removal_any_capacity choice catalog map capacity capacity' rs headers e =
    let w = (listed_walks catalog map capacity rs headers e).0 in
    listing_walks (keeping choice catalog) map capacity' (listed_after_removal choice catalog map w)

-- For every map that the catalog accepts, every choice of its models and lists of the same length: the remaining records, with all
-- their numbers and in their order, and the same headers. (They are no more than before, so the list has capacity for them.)
pub removal : (choice : List Bool) (catalog map : List ℕ) (capacity : ℕ) (rs : List Record) (headers : ℕ)
    → listing catalog map capacity ≡ listed rs headers
    → listing (keeping choice catalog) map capacity ≡ listed (remaining_records choice (definitions catalog) rs) headers
removal choice catalog map capacity rs headers e =
    let fewer = selected_fewer (λ r. keeps_id choice (definitions catalog) r.id) rs in
    let fits = (listed_walks catalog map capacity rs headers e).1 in
    removal_any_capacity choice catalog map capacity capacity rs headers e
    ∙ with_capacity_lem capacity (remaining_records choice (definitions catalog) rs) headers (omega arith)

-- If no model is removed, the listing is the same.
pub nothing_removed : (choice : List Bool) (catalog map : List ℕ) (capacity models : ℕ) → Each (λ c. c ≡ true) choice
    → checked catalog ≡ accepted models → listing (keeping choice catalog) map capacity ≡ listing catalog map capacity
nothing_removed choice catalog map capacity models all e =
    ap (λ ws. listing ws map capacity) (catalogs.nothing_removed choice catalog models all e)
