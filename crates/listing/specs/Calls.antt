-- A call of `list`: the equations of its contract, and how to read the records in its output list.
use Rattle.std.specs.Prelude.{◌≡◌, Result, List, [], ◌∷◌, ℕ, zero, suc, length, take, drop, get_or}
use Rattle.listing.specs.Listing as Listing
use Rattle.listing.specs.Listing.{refused_result, listed_result, listing, stored, record_width}
use Rattle.listing.specs.declared.Listed.{Listed}
use Rattle.listing.specs.declared.NotListed.{NotListed}
use Rattle.listing.specs.CodeTypes.{to_spec_listing}

-- A call of `list` whose output list was `before`, which returned `returned` and left the list `after`: the two equations of its
-- contract for the result and the list. The contract cites this.
pub record ListCall (catalog map before : List ℕ) (returned : Result Listed NotListed) (after : List ℕ) : Type 0 where
  pub result : to_spec_listing returned ≡ Listing.result (listing catalog map (length before))
  pub list : after ≡ stored (listing catalog map (length before)) before

-- The count of points in a result.
abbrev pub points_in : Listing.Result → ℕ
points_in (refused_result number place headers count) = count
points_in (listed_result count headers) = count

-- The first n records of an output list, ten numbers each.
unfoldable pub records_in : ℕ → List ℕ → List (List ℕ)
records_in zero list = []
records_in (suc n) list = take record_width list ∷ records_in n (drop record_width list)

-- The model's index, its id and the point's address in a record's ten numbers (document 01: the first, second and seventh).
abbrev pub index_in : List ℕ → ℕ
index_in numbers = get_or numbers 0 0

abbrev pub id_in : List ℕ → ℕ
id_in numbers = get_or numbers 1 0

abbrev pub address_in : List ℕ → ℕ
address_in numbers = get_or numbers 6 0
