-- The catalog and the map that `read_plant` takes from its lists, and what the program writes of the text.
use mathlib.Core.Path.{◌≡◌, refl, sym, ap, ◌∙◌}
use mathlib.Core.List.{List, ◌++◌}
use Prim.Native.Nat.{ℕ, ◌*◌, ◌≤◌}
use native.Mathlib.Omega.{arith}
use lib.ListN.{length, take, drop}
use lib.Seq.{take_at, take-append_seam}
use Rattle.lists.proofs.TestOutcomes.{impossible}
use Rattle.listing.specs.Listing.{Record, Answer, refused, listed, listing, record_width, stored}
use Rattle.listing.proofs.ResultCases.{records_fit}
use Rattle.input.specs.Parsing as Parsing
use Rattle.input.specs.CodeTypes.{parsed_result, refused_result, result}
use Rattle.input.proofs.ParsedResults.{result_refused, result_words, whole_frames}
use Rattle.report.specs.Text.{refused_word}
use Rattle.report.specs.Program.{parsed_input, found, found_in, printed, text_of, stored_text, stored_list, list_capacity, frame_capacity, register_capacity}
use Rattle.report.specs.CodeTypes.{to_code_report, written_by}
use Rattle.report.specs.declared.Report.{Report}

-- ---- The catalog and the map

-- The words that `parse` stores are those that are listed.
pub same_listing : (input : List ℕ) (frames registers : ℕ) (old_catalog old_map : List ℕ) {catalog map : List ℕ}
    → parsed_result frames registers ≡ result (parsed_input input)
    → catalog ≡ Parsing.stored_catalog (parsed_input input) old_catalog → map ≡ Parsing.stored_map (parsed_input input) old_map
    → listing (take (frames * 8) catalog) (take registers map) list_capacity ≡ found input
unfolding found
same_listing input frames registers old_catalog old_map {catalog} {map} e f g =
    let w = result_words (parsed_input input) frames registers e in
    let c = w.catalog in
    let m = w.map in
    let n : length c ≡ frames * 8 = omega (arith, w.frame_count, whole_frames input frame_capacity register_capacity c m w.is) in
    let all : catalog ≡ c ++ drop (length c) old_catalog = f ∙ ap (λ (x : Parsing.Input). Parsing.stored_catalog x old_catalog) w.is in
    let every : map ≡ m ++ drop (length m) old_map = g ∙ ap (λ (x : Parsing.Input). Parsing.stored_map x old_map) w.is in
    rw (all, take_at c (drop (length c) old_catalog) (frames * 8) n, every, take_at m (drop (length m) old_map) registers (sym w.register_count))
    (sym (ap found_in w.is))

pub found_refused : (input : List ℕ) (number place : ℕ) → refused_result number place ≡ result (parsed_input input)
    → found input ≡ refused number place 0
unfolding found
found_refused input number place e = ap found_in (result_refused (parsed_input input) number place e)

-- What is stored in the output list.
pub list_stored : (input old : List ℕ) → stored (found input) old ≡ stored_list (parsed_input input) old
unfolding found stored
list_stored input old = go (parsed_input input)
  where
    go : (x : Parsing.Input) → stored (found_in x) old ≡ stored_list x old
    go (Parsing.refused number place) = refl
    go (Parsing.words catalog map) = refl

-- The records that are listed fit the output list.
pub found_fits : (input : List ℕ) (rs : List Record) (headers : ℕ) → found input ≡ listed rs headers → record_width * length rs ≤ list_capacity
unfolding found
found_fits input rs headers = go (parsed_input input)
  where
    go : (x : Parsing.Input) → found_in x ≡ listed rs headers → record_width * length rs ≤ list_capacity
    go (Parsing.refused number place) e = impossible (cc)
    go (Parsing.words catalog map) e = records_fit catalog map list_capacity rs headers e

-- ---- What is written

-- If the buffer holds the text of an answer, the bytes that the program writes are what is printed for the answer.
pub written : (a : Answer) (old out : List ℕ) (report : Report) → report ≡ to_code_report a → out ≡ stored_text a old
    → written_by report out ≡ printed a
written a old out report e s = ap (λ (r : Report). written_by r out) e ∙ ap (written_by (to_code_report a)) s ∙ go a
  where
    go : (b : Answer) → written_by (to_code_report b) (stored_text b old) ≡ printed b
    go (refused n p h) = ap (λ (t : List ℕ). refused_word ++ t) (take-append_seam (text_of (refused n p h)) _)
    go (listed rs h) = take-append_seam (text_of (listed rs h)) _
