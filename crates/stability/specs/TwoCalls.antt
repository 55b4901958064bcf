-- Two calls of `list` compared (document 01, "The map"): how inserted or removed models change the result and the output list. The
-- records of a call are decoded from its own output list.
use Rattle.std.specs.Prelude.{◌≡◌, List, ◌++◌, map, ℕ, ◌+◌, ◌*◌, length, drop, set}
use Rattle.std.specs.Prelude as Std
use Rattle.lists.specs.Each.{Each}
use Rattle.lists.specs.Members.{among}
use Rattle.lists.specs.Tests.{selected}
use Rattle.catalog_frames.specs.Frames.{frames}
use Rattle.model_definitions.specs.Definitions.{model_ids}
use Rattle.register_map.specs.Scan.{Model, total_size, scan}
use Rattle.register_map.specs.Insertion.{Placed, placed, gaps_before}
use Rattle.listing.specs.Listing.{Result, refused_result, listed_result, record_width, consecutive}
use Rattle.listing.specs.declared.Listed.{Listed}
use Rattle.listing.specs.declared.NotListed.{NotListed}
use Rattle.listing.specs.CodeTypes.{to_spec_listing}
use Rattle.listing.specs.Calls.{points_in, records_in, index_in, id_in, address_in}
use Rattle.stability.specs.Stability.{AreLower, HeaderByLower, moved_place, moved_headers}

-- What a call of `list` returns.
abbrev pub Returned : Type 0
Returned = Std.Result Listed NotListed

-- ---- Models inserted into the map

-- A record's ten numbers, moved by the models inserted before its model: the index rises by their number, the address by the sum
-- of 2 + length over them. The other eight numbers stay.
abbrev pub moved_numbers : List (List Model) → List ℕ → List ℕ
moved_numbers gaps numbers =
    let before : List Model = gaps_before (index_in numbers) gaps in
    set (set numbers 0 (index_in numbers + length before)) 6 (address_in numbers + total_size before)

-- The list that was `out`, with the first n records of `list` written to its head, moved.
abbrev pub moved_list : List (List Model) → ℕ → List ℕ → List ℕ → List ℕ
moved_list gaps n list out = consecutive (map (moved_numbers gaps) (records_in n list)) ++ drop (record_width * n) out

-- The result for a map with n models, moved: on acceptance the headers rise by the number inserted; a refusal's place and headers are
-- moved. Number and count never change.
unfoldable pub moved_result : ℕ → List (List Model) → Result → Result
moved_result n gaps (listed_result count headers) = listed_result count (headers + length (gaps_before n gaps))
moved_result n gaps (refused_result number place headers count) =
    refused_result number (moved_place gaps number place headers) (moved_headers n gaps number headers) count

-- A header refused by 27 to 29 is moved by exactly the inserted models with lower addresses.
abbrev pub ResultByLower : List Placed → List (List Model) → Result → Type 0
ResultByLower ps gaps (listed_result count headers) = Unit {0}
ResultByLower ps gaps (refused_result number place headers count) = HeaderByLower ps gaps number place headers

-- The claim of insertion (`insertion_calls`). The first call listed a map made of whole models (`MadeOfWholeModels`), the second the map
-- with unknown models (`UnknownModel`) inserted in its gaps, at most 65,536 registers long, into a list of the same length that was
-- `out`. The second's result and records are the first's, moved, and the rest of its list stays. Each record and each header refused by
-- 27 to 29 is moved by exactly the inserted models with lower addresses.
pub record InsertionMoves (map : List ℕ) (gaps : List (List Model)) (first : Returned) (first_list out : List ℕ)
    (second : Returned) (second_list : List ℕ) : Type 0 where
  pub result : to_spec_listing second ≡ moved_result (length (scan map).models) gaps (to_spec_listing first)
  pub list : second_list ≡ moved_list gaps (points_in (to_spec_listing first)) first_list out
  pub records_by_lower : Each (λ numbers. AreLower (placed (scan map).models gaps) gaps (index_in numbers) (address_in numbers))
      (records_in (points_in (to_spec_listing first)) first_list)
  pub header_by_lower : ResultByLower (placed (scan map).models gaps) gaps (to_spec_listing first)

-- ---- Models removed from the catalog

-- The records, as ten numbers each, of the models that a catalog has: their ids are among those of its model frames.
abbrev pub known_records : List ℕ → List (List ℕ) → List (List ℕ)
known_records catalog = selected (λ numbers. among (id_in numbers) (model_ids (frames catalog)))

-- The claim of removal (`removal_calls`). The first call accepted the map and returned `points` and `headers`. The second listed the map
-- by the remaining catalog, into a list of the same length that was `out`: it accepts the map too, with the same headers. Its records are
-- exactly those of the first call whose models the remaining catalog has, in their order and with all their numbers; its count is
-- their number, and the rest of its list stays.
pub record RemovalKeeps (remaining : List ℕ) (points headers : ℕ) (first_list out : List ℕ) (second : Returned)
    (second_list : List ℕ) : Type 0 where
  pub result : to_spec_listing second ≡ listed_result (length (known_records remaining (records_in points first_list))) headers
  pub list : second_list
      ≡ consecutive (known_records remaining (records_in points first_list))
      ++ drop (record_width * length (known_records remaining (records_in points first_list))) out
