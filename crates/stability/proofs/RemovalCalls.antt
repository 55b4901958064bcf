-- Removal, stated of two calls of `list` with lists of the same length: a map that the catalog accepts is accepted by the remaining
-- catalog. The second list has exactly the first call's records of the remaining models, in their order and with all their numbers. It
-- always has the capacity for them.
use mathlib.Core.Path.{◌≡◌, sym, ap, ◌∙◌}
use mathlib.Core.Bool.{Bool}
use mathlib.Core.List.{List, ◌++◌}
use mathlib.Core.List as Lists
use Prim.Native.Nat.{ℕ, ◌*◌}
use lib.ListN.{length, drop, length-map}
use Rattle.std.specs.Prelude.{Ok}
use Rattle.lists.specs.Members.{among}
use Rattle.lists.proofs.SelectedLaws.{selected_map}
use Rattle.catalog_frames.specs.Frames.{frames}
use Rattle.model_definitions.specs.Definitions.{model_ids, definitions}
use Rattle.model_definitions.specs.Removal.{keeping}
use Rattle.model_definitions.proofs.ModelIds.{ids_of_model_frames}
use Rattle.listing.specs.Listing.{Record, record_numbers, record_width, listing, stored, listed_result, consecutive}
use Rattle.listing.specs.Listing as Listing
use Rattle.listing.specs.Calls.{ListCall, records_in, id_in}
use Rattle.listing.proofs.ResultCases.{result_listed}
use Rattle.listing.proofs.OutputRecords.{records_back}
use Rattle.stability.specs.Removed.{remaining_records, records_of}
use Rattle.stability.specs.TwoCalls.{Returned, known_records, RemovalKeeps}
use Rattle.stability.proofs.Removal.{removal}
use Rattle.stability.proofs.RemovalById.{remaining_by_id}

-- The records of a catalog's models among the numbers are the numbers of these records.
known_numbers : (catalog : List ℕ) (rs : List Record)
    → known_records catalog (Lists.map record_numbers rs) ≡ Lists.map record_numbers (records_of (model_ids (frames catalog)) rs)
unfolding record_numbers
known_numbers catalog rs = selected_map record_numbers (λ numbers. among (id_in numbers) (model_ids (frames catalog))) rs

pub removal_calls : (choice : List Bool) (catalog map out out' : List ℕ) → length out' ≡ length out
    → (points headers : ℕ) (first_list : List ℕ)
    → ListCall catalog map out (Ok (record { points = points; headers = headers })) first_list
    → (second : Returned) (second_list : List ℕ) → ListCall (keeping choice catalog) map out' second second_list
    → RemovalKeeps (keeping choice catalog) points headers first_list out' second second_list
unfolding stored
removal_calls choice catalog map out out' same points headers first_list one second second_list two =
    let remaining = keeping choice catalog in
    let l = result_listed (listing catalog map (length out)) points headers one.result in
    let rs = l.records in
    let left = remaining_records choice (definitions catalog) rs in
    let kept = Lists.map record_numbers left in
    let answer = ap (listing remaining map) same ∙ removal choice catalog map (length out) rs headers l.is in
    let decoded = ap (λ n. records_in n first_list) l.count
    ∙ ap (records_in (length rs)) (one.list ∙ ap (λ a. stored a out) l.is)
    ∙ records_back rs (drop (record_width * length rs) out) in
    let by_id = remaining_by_id choice catalog map (length out) rs headers l.is
    ∙ ap (λ ids. records_of ids rs) (ids_of_model_frames remaining) in
    let known = ap (Lists.map record_numbers) by_id ∙ sym (ap (known_records remaining) decoded ∙ known_numbers remaining rs) in
    let count : length left ≡ length kept = sym (length-map left record_numbers) in
    record {
      result = two.result ∙ ap Listing.result answer ∙ ap (λ n. listed_result n headers) (count ∙ ap length known);
      list = two.list
          ∙ ap (λ a. stored a out') answer
          ∙ ap (λ n. consecutive kept ++ drop (record_width * n) out') count
          ∙ ap (λ ks. consecutive ks ++ drop (record_width * length ks) out') known;
    }
