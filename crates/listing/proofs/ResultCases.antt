-- From a result back to the answer: a result with counts comes from an answer with records, and they fit the list.
use mathlib.Core.Path.{◌≡◌}
use mathlib.Core.List.{List}
use Prim.Native.Nat.{ℕ, ◌*◌, ◌≤◌}
use lib.ListN.{length}
use Rattle.lists.proofs.TestOutcomes.{impossible}
use Rattle.listing.specs.Listing.{Record, Answer, refused, listed, refused_result, listed_result, result, record_width, listing}
use Rattle.listing.proofs.ListingCases.{Case, listing_case}

pub result_refused : (a : Answer) (number place headers : ℕ) → refused_result number place headers 0 ≡ result a → a ≡ refused number place headers
result_refused (refused n p h) number place headers e = cc
result_refused (listed rs h) number place headers e = impossible (cc)

-- The answer lists records, `points` of them, and this number of headers.
pub record Records (a : Answer) (points headers : ℕ) : Type 0 where
  pub records : List Record
  pub is : a ≡ listed records headers
  pub count : points ≡ length records

pub result_listed : (a : Answer) (points headers : ℕ) → listed_result points headers ≡ result a → Records a points headers
result_listed (refused n p h) points headers e = impossible (cc)
result_listed (listed rs h) points headers e = record { records = rs; is = cc; count = cc }

-- The records of an accepted listing fit the list.
pub records_fit : (catalog map : List ℕ) (capacity : ℕ) (rs : List Record) (headers : ℕ) → listing catalog map capacity ≡ listed rs headers
    → record_width * length rs ≤ capacity
records_fit catalog map capacity rs headers e = go (listing catalog map capacity) (listing_case catalog map capacity) e
  where
    go : (a : Answer) → Case catalog map capacity a → a ≡ listed rs headers → record_width * length rs ≤ capacity
    go a (Case.catalog_refused c) q = impossible (cc)
    go a (Case.opening_refused c o) q = impossible (cc)
    go a (Case.walk_refused w) q = impossible (cc)
    go a (Case.too_short w h) q = impossible (cc)
    go a (Case.all_listed {rs = ss} w h) q = let s : ss ≡ rs = cc in rw (← s) h
