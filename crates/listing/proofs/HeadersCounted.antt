-- The number of headers that `list` returns on acceptance and on 30.
use mathlib.Core.Path.{◌≡◌, ap, ◌∙◌}
use mathlib.Core.List.{List}
use Prim.Native.Nat.{ℕ}
use Rattle.std.specs.Prelude.{Result, Ok, Err}
use Rattle.refusals.specs.Refusals.{number}
use Rattle.listing.specs.Listing.{Record, refused, listed, result, listing}
use Rattle.listing.specs.declared.Listed.{Listed}
use Rattle.listing.specs.declared.NotListed.{NotListed}
use Rattle.listing.specs.CodeTypes.{to_spec_listing, AllHeaders, HeadersCounted}
use Rattle.listing.proofs.ListingCases.{Walks}
use Rattle.listing.proofs.ResultCases.{result_listed, result_refused}
use Rattle.listing.proofs.ListingInversion.{headers_marked, listed_walks, short_walks}

-- A walk to the end marker counts all headers.
pub walked_headers : (catalog map : List ℕ) {rs : List Record} {headers : ℕ} → Walks catalog map (listed rs headers)
    → AllHeaders map headers
walked_headers catalog map w = let h = headers_marked catalog map w in record { counted = h.0; bounded = h.1 }

pub headers_counted : (catalog map : List ℕ) (capacity : ℕ) (r : Result Listed NotListed)
    → to_spec_listing r ≡ result (listing catalog map capacity) → HeadersCounted map r
headers_counted catalog map capacity (Ok l) e =
    let r = result_listed (listing catalog map capacity) l.points l.headers e in
    walked_headers catalog map (listed_walks catalog map capacity r.records l.headers r.is).0
headers_counted catalog map capacity (Err r) e = λ thirty.
    let is = result_refused (listing catalog map capacity) (number r.refusal) r.place r.headers e in
    walked_headers catalog map (short_walks catalog map capacity r.place r.headers (is ∙ ap (λ n. refused n r.place r.headers) thirty)).1
