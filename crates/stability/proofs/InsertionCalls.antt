-- Insertion, stated of two calls of `list` with lists of the same length: for every catalog, every map made of whole models, every list
-- of well-formed unknown models for each of its gaps, and all output lists: if the lengthened map has at most 65,536 registers, the call
-- for it returns the result of the call for the map, moved, and writes the records that the call for the map writes, moved. It is one
-- claim over all inserted models.
use mathlib.Core.Path.{◌≡◌, refl, sym, ap, subst, ◌∙◌}
use mathlib.Core.List.{List, ◌++◌}
use mathlib.Core.List as Lists
use Prim.Native.Nat.{ℕ, ◌*◌, ◌≤◌}
use lib.ListN.{length, drop}
use Rattle.lists.specs.Each.{Each}
use Rattle.register_map.specs.Scan.{Model, scan}
use Rattle.register_map.specs.Insertion.{placed, lengthened}
use Rattle.listing.specs.Listing.{record_width, listing, stored, consecutive}
use Rattle.listing.specs.Listing as Listing
use Rattle.listing.specs.CodeTypes.{to_spec_listing}
use Rattle.listing.specs.Calls.{ListCall, points_in, records_in, index_in, address_in}
use Rattle.stability.specs.Stability.{MadeOfWholeModels, UnknownModel, AreLower}
use Rattle.stability.specs.TwoCalls.{Returned, moved_numbers, moved_list, moved_result, ResultByLower, InsertionMoves}
use Rattle.stability.proofs.Insertion.{insertion}
use Rattle.stability.proofs.ResultsMoved.{result_moved, list_moved, rest_stays, records_lower, header_lower}

pub insertion_calls : (catalog map : List ℕ) (gaps : List (List Model))
    → MadeOfWholeModels map
    → Each (Each (UnknownModel catalog)) gaps
    → length (lengthened map gaps) ≤ 65536
    → (out out' : List ℕ) → length out' ≡ length out
    → (first : Returned) (first_list : List ℕ) → ListCall catalog map out first first_list
    → (second : Returned) (second_list : List ℕ) → ListCall catalog (lengthened map gaps) out' second second_list
    → InsertionMoves map gaps first first_list out' second second_list
insertion_calls catalog map gaps whole unknown short out out' same first first_list one second second_list two =
    let a = listing catalog map (length out) in
    let n = length (scan map).models in
    let ps = placed (scan map).models gaps in
    let moved = insertion catalog map gaps (length out) whole unknown short in
    let answer = ap (listing catalog (lengthened map gaps)) same ∙ moved.0 in
    let points = points_in (to_spec_listing first) in
    let Lower : List ℕ → Type 0 = λ numbers. AreLower ps gaps (index_in numbers) (address_in numbers) in
    record {
      result = two.result ∙ ap Listing.result answer ∙ result_moved n gaps a ∙ ap (moved_result n gaps) (sym one.result);
      list = two.list
          ∙ ap (λ x. stored x out') answer
          ∙ list_moved n gaps a out out'
          ∙ ap (λ r. moved_list gaps (points_in r) (stored a out) out') (sym one.result)
          ∙ ap (λ l. moved_list gaps points l out') (sym one.list);
      records_by_lower = subst (λ l. Each Lower (records_in points l)) (sym one.list)
          (subst (λ r. Each Lower (records_in (points_in r) (stored a out))) (sym one.result) (records_lower ps gaps a out moved.1));
      header_by_lower = subst (ResultByLower ps gaps) (sym one.result) (header_lower ps gaps a moved.1);
    }

-- With lists of the same contents too, the whole second list is the first, moved.
pub insertion_same_list : (catalog map : List ℕ) (gaps : List (List Model))
    → MadeOfWholeModels map
    → Each (Each (UnknownModel catalog)) gaps
    → length (lengthened map gaps) ≤ 65536
    → (out : List ℕ)
    → (first : Returned) (first_list : List ℕ) → ListCall catalog map out first first_list
    → (second : Returned) (second_list : List ℕ) → ListCall catalog (lengthened map gaps) out second second_list
    → second_list ≡ moved_list gaps (points_in (to_spec_listing first)) first_list first_list
insertion_same_list catalog map gaps whole unknown short out first first_list one second second_list two =
    let a = listing catalog map (length out) in
    let points = points_in (to_spec_listing first) in
    let moves = insertion_calls catalog map gaps whole unknown short out out refl first first_list one second second_list two in
    let rest = subst (λ r. drop (record_width * points_in r) (stored a out) ≡ drop (record_width * points_in r) out) (sym one.result)
    (rest_stays a out) in
    moves.list
    ∙ ap (λ l. consecutive (Lists.map (moved_numbers gaps) (records_in points first_list)) ++ l)
    (sym (ap (drop (record_width * points)) one.list ∙ rest))
