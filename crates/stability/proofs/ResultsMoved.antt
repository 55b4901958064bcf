-- Inserted models, seen in the result and the output list of a moved answer.
use mathlib.Core.Path.{◌≡◌, refl, ap}
use mathlib.Core.List.{List, [], ◌∷◌, ◌++◌, map}
use Prim.Native.Nat.{ℕ, ◌+◌, ◌*◌}
use lib.ListN.{length, drop, length-map}
use Rattle.lists.specs.Each.{Each}
use Rattle.lists.proofs.EachLaws.{each_map}
use Rattle.register_map.specs.Scan.{Model}
use Rattle.register_map.specs.Insertion.{Placed, gaps_before}
use Rattle.listing.specs.Listing.{Record, record_numbers, record_width, Answer, refused, listed, entries, stored, consecutive}
use Rattle.listing.specs.Listing as Listing
use Rattle.listing.specs.Calls.{points_in, records_in, index_in, address_in}
use Rattle.listing.proofs.OutputRecords.{records_back, rest_back}
use Rattle.stability.specs.Stability.{shifted, moved_answer, AreLower, MovedByLower}
use Rattle.stability.specs.TwoCalls.{moved_numbers, moved_list, moved_result, ResultByLower}

-- The result of a moved answer is the result, moved.
pub result_moved : (n : ℕ) (gaps : List (List Model)) (a : Answer)
    → Listing.result (moved_answer n gaps a) ≡ moved_result n gaps (Listing.result a)
unfolding moved_answer moved_result
result_moved n gaps (listed rs headers) =
    ap (λ k. Listing.listed_result k (headers + length (gaps_before n gaps))) (length-map rs (λ r. shifted (gaps_before r.index gaps) r))
result_moved n gaps (refused number place headers) = refl

-- The entries of shifted records are the moved numbers of the records.
entries_moved : (gaps : List (List Model)) (rs : List Record)
    → entries (map (λ r. shifted (gaps_before r.index gaps) r) rs) ≡ consecutive (map (moved_numbers gaps) (map record_numbers rs))
unfolding consecutive record_numbers
entries_moved gaps [] = refl
entries_moved gaps (r ∷ rs) = ap (λ ns. moved_numbers gaps (record_numbers r) ++ ns) (entries_moved gaps rs)

-- The output list of a moved answer has the records of the output list, moved.
pub list_moved : (n : ℕ) (gaps : List (List Model)) (a : Answer) (out out' : List ℕ)
    → stored (moved_answer n gaps a) out' ≡ moved_list gaps (points_in (Listing.result a)) (stored a out) out'
unfolding moved_answer stored records_in consecutive
list_moved n gaps (listed rs headers) out out' =
    rw (
      length-map rs (λ r. shifted (gaps_before r.index gaps) r),
      records_back rs (drop (record_width * length rs) out),
      entries_moved gaps rs,
    )
list_moved n gaps (refused number place headers) out out' = refl

-- After the records an output list stays.
pub rest_stays : (a : Answer) (out : List ℕ)
    → drop (record_width * points_in (Listing.result a)) (stored a out) ≡ drop (record_width * points_in (Listing.result a)) out
unfolding stored
rest_stays (listed rs headers) out = rest_back rs (drop (record_width * length rs) out)
rest_stays (refused number place headers) out = refl

-- The index and the address of a record, taken from its ten numbers.
numbers_lower : (ps : List Placed) (gaps : List (List Model)) (rs : List Record) → Each (λ r. AreLower ps gaps r.index r.address) rs
    → Each (λ r. AreLower ps gaps (index_in (record_numbers r)) (address_in (record_numbers r))) rs
unfolding record_numbers
numbers_lower ps gaps rs m = m

-- Which models move the records and the refused header, stated of the output list and the result.
pub records_lower : (ps : List Placed) (gaps : List (List Model)) (a : Answer) (out : List ℕ) → MovedByLower ps gaps a
    → Each (λ numbers. AreLower ps gaps (index_in numbers) (address_in numbers)) (records_in (points_in (Listing.result a)) (stored a out))
unfolding MovedByLower stored records_in
records_lower ps gaps (listed rs headers) out m =
    rw (records_back rs (drop (record_width * length rs) out)) (each_map (λ numbers. AreLower ps gaps (index_in numbers) (address_in numbers)) record_numbers rs (numbers_lower ps gaps rs m))
records_lower ps gaps (refused number place headers) out m = tt

pub header_lower : (ps : List Placed) (gaps : List (List Model)) (a : Answer) → MovedByLower ps gaps a
    → ResultByLower ps gaps (Listing.result a)
unfolding MovedByLower
header_lower ps gaps (listed rs headers) m = tt
header_lower ps gaps (refused number place headers) m = m
