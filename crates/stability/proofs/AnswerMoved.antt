-- The answer for a lengthened map, by the walk over its models: the capacity for its records, and which models move them.
use mathlib.Core.Path.{◌≡◌, refl, sym, ap, ◌∙◌}
use mathlib.Core.Bool.{Bool, true, false}
use mathlib.Core.List.{List, map}
use mathlib.Core.Logic.{⊎_elim}
use Prim.Native.Nat.{ℕ, ◌+◌, ◌*◌, ◌≤◌, ◌<◌}
use native.Mathlib.Nat.{eq-or-lt_of_le}
use native.Mathlib.Omega.{arith}
use borrow.Author.Tests.{ne_eqb, le-leb, lt-leb, leb-true}
use lib.Dec.{leb, ltb}
use lib.ListN.{length, length-map}
use Rattle.lists.proofs.TestOutcomes.{impossible, clash, by_test, both}
use Rattle.lists.proofs.EachLaws.{each_implied}
use Rattle.register_map.specs.Scan.{Model, total_size, marked}
use Rattle.register_map.specs.Insertion.{placed, gaps_before}
use Rattle.register_map.proofs.Before.{before_model}
use Rattle.layout.specs.Reading.{Reading}
use Rattle.listing.specs.Listing.{Record, record_width, Answer, refused, listed, walk, with_capacity}
use Rattle.listing.proofs.RefusalNumbers.{Between}
use Rattle.listing.proofs.WalkHeaders.{HeadersWalked, walk_headers}
use Rattle.stability.specs.Stability.{shifted, is_model_refusal, moved_place, moved_headers, moved_answer, AreLower, MovedByLower}
use Rattle.stability.proofs.WalkMoved.{moved_walk}
use Rattle.stability.proofs.RecordPlaces.{InModel, AllInModels}

-- ---- The refusals of a walk to the end marker are 27 to 29

abbrev pub By27To29 : Answer → Type 0
By27To29 (refused number place headers) = Between 27 29 number
By27To29 (listed rs headers) = Unit {0}

marked_refusals : (index at : ℕ) (ms : List Model) (a : Answer) → HeadersWalked marked index at ms a → By27To29 a
marked_refusals index at ms (listed rs headers) w = tt
marked_refusals index at ms (refused number place headers) w =
    ⊎_elim (λ e. impossible (cc (w.at_end e))) (λ l. w.at_model l)
    (eq-or-lt_of_le w.within)

pub walk_refusals : (read : Model → Reading) (index at : ℕ) (ms : List Model) → By27To29 (walk read marked index at ms)
walk_refusals read index at ms = marked_refusals index at ms (walk read marked index at ms) (walk_headers read marked index at ms)

-- ---- The answer

module _ (n : ℕ) (gaps : List (List Model)) where
  -- 27 to 29 are moved like the walk's refusals, and 1 to 11 stay.
  moved_model : (number place headers : ℕ) → Between 27 29 number
      → moved_answer n gaps (refused number place headers) ≡ moved_walk gaps n (refused number place headers)
  unfolding moved_answer
  moved_model number place headers b =
      let other : number ≡ 30 → ⊥ = λ e. let high = b.1 in omega arith in
      simp (moved_answer, moved_place, moved_headers, is_model_refusal, ne_eqb number 30 other, le-leb 27 number b.0, le-leb number 29 b.1)

  pub moved_catalog : (number place headers : ℕ) → number ≤ 11
      → moved_answer n gaps (refused number place headers) ≡ refused number place headers
  unfolding moved_answer
  moved_catalog number place headers h =
      let other : number ≡ 30 → ⊥ = λ e. omega arith in
      let below : number < 27 = omega arith in
      simp (moved_answer, moved_place, moved_headers, is_model_refusal, ne_eqb number 30 other, lt-leb 27 number below)

  -- The list has capacity for the moved records if and only if it has capacity for the records.
  pub moved_with_capacity : (capacity : ℕ) (a : Answer) → By27To29 a
      → with_capacity capacity (moved_walk gaps n a) ≡ moved_answer n gaps (with_capacity capacity a)
  unfolding with_capacity moved_answer
  moved_with_capacity capacity (refused number place headers) h = sym (moved_model number place headers h)
  moved_with_capacity capacity (listed rs headers) h =
      let answer : ℕ → Answer = λ k.
      elim (ltb capacity (record_width * k)) [ true ↦ refused 30 k later | false ↦ listed moved later ] in
      ap answer (length-map rs (λ r. shifted (gaps_before r.index gaps) r)) ∙ by_capacity (ltb capacity (record_width * length rs))
    where
      moved : List Record
      moved = map (λ r. shifted (gaps_before r.index gaps) r) rs

      later : ℕ
      later = headers + length (gaps_before n gaps)

      by_capacity : (b : Bool) → elim b [ true ↦ refused 30 (length rs) later | false ↦ listed moved later ]
          ≡ moved_answer n gaps (elim b [ true ↦ refused 30 (length rs) headers | false ↦ listed rs headers ])
      by_capacity true = refl
      by_capacity false = refl

-- ---- Which models move it

module _ (ms : List Model) (gaps : List (List Model)) where
  -- The models in the gaps before model `index` are exactly the inserted ones with addresses lower than an address in that model.
  lower_in_model : (index address : ℕ) → InModel 2 ms index address → AreLower (placed ms gaps) gaps index address
  lower_in_model index address i =
      let inserted = total_size (gaps_before (length i.preceding) gaps) in
      let header = 2 + total_size i.preceding + inserted in
      let l = i.low in
      let h = i.high in
      rw (i.counted, i.split)
      (before_model i.preceding i.own i.rest gaps 2 header (address + inserted) refl (omega arith) (omega arith))

  pub lower_with_capacity : (capacity : ℕ) (a : Answer) → AllInModels 2 ms a → MovedByLower (placed ms gaps) gaps (with_capacity capacity a)
  unfolding with_capacity MovedByLower
  lower_with_capacity capacity (refused number place headers) i = λ t. lower_in_model headers place i
  lower_with_capacity capacity (listed rs headers) i =
      by_test (MovedByLower (placed ms gaps) gaps) (ltb capacity (record_width * length rs)) (λ t e. clash (sym e)) (λ t.
      each_implied (λ r. InModel 2 ms r.index r.address) (λ r. AreLower (placed ms gaps) gaps r.index r.address)
      (λ r. lower_in_model r.index r.address) rs i)

  pub lower_catalog : (number place headers : ℕ) → number ≤ 11 → MovedByLower (placed ms gaps) gaps (refused number place headers)
  unfolding MovedByLower
  lower_catalog number place headers h e =
      let l = leb-true 27 number (both (leb 27 number) (leb number 29) e).0 in
      absurd (omega arith)
