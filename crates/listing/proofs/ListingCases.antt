-- The cases of listing's answer.
use mathlib.Core.Path.{◌≡◌, refl, sym, ap, ◌∙◌}
use mathlib.Core.List.{List}
use mathlib.Core.Option.{Option, none, some}
use Prim.Native.Nat.{ℕ, ◌*◌, ◌≤◌, ◌<◌}
use borrow.Author.Tests.{ltb-true, ltb-false, le-ltb}
use lib.Dec.{ltb}
use lib.ListN.{length}
use Rattle.lists.proofs.TestOutcomes.{impossible, by_test}
use Rattle.catalog.specs.Checking as Checking
use Rattle.model_definitions.specs.Definitions.{definitions}
use Rattle.register_map.specs.Headers.{opening}
use Rattle.register_map.specs.Scan.{Model}
use Rattle.layout.specs.Reading.{Reading, reading}
use Rattle.listing.specs.Listing.{Record, record_width, Answer, refused, listed, walked, records_by, all_records, with_capacity, listing}

-- ---- 1 to 11, 20 and 21, and 30

-- A catalog that is refused.
pub catalog_refused_lem : (catalog map : List ℕ) (capacity : ℕ) {number place : ℕ}
    → Checking.checked catalog ≡ Checking.refused number place
    → listing catalog map capacity ≡ refused number place 0
unfolding all_records with_capacity listing
catalog_refused_lem catalog map capacity e = rw (e, all_records, listing)

pub accepted_listed : (catalog map : List ℕ) (capacity : ℕ) {n : ℕ} → Checking.checked catalog ≡ Checking.accepted n
    → listing catalog map capacity ≡ with_capacity capacity (records_by (reading (definitions catalog)) map)
unfolding all_records listing
accepted_listed catalog map capacity e = rw (e, all_records, listing)

-- A map that is refused as a whole.
module _ (read : Model → Reading) (map : List ℕ) where
  pub unopened : {n : ℕ} → opening map ≡ some n → records_by read map ≡ refused n 0 0
  unfolding records_by
  unopened o = rw (o, records_by)

  pub opened : opening map ≡ none → records_by read map ≡ walked read map
  unfolding records_by
  opened o = rw (o, records_by)

-- Records are listed if the list has the capacity for them.
pub with_capacity_lem : (capacity : ℕ) (rs : List Record) (headers : ℕ) → record_width * length rs ≤ capacity
    → with_capacity capacity (listed rs headers) ≡ listed rs headers
unfolding with_capacity
with_capacity_lem capacity rs headers fits = rw (le-ltb capacity (record_width * length rs) fits, with_capacity)

-- ---- All cases

-- None of 1 to 11, 20 and 21 arises, and the walk over the models yields `answer`.
pub record Walks (catalog map : List ℕ) (answer : Answer) : Type 0 where
  pub models : ℕ
  pub accepted : Checking.checked catalog ≡ Checking.accepted models
  pub opens : opening map ≡ none
  pub walks : walked (reading (definitions catalog)) map ≡ answer

-- The answers of listing, by what decides them.
pub data Case (catalog map : List ℕ) (capacity : ℕ) : Answer → Type 0 where
  catalog_refused : {n place : ℕ} → Checking.checked catalog ≡ Checking.refused n place → Case catalog map capacity (refused n place 0)
  opening_refused : {models n : ℕ} → Checking.checked catalog ≡ Checking.accepted models → opening map ≡ some n
      → Case catalog map capacity (refused n 0 0)
  walk_refused : {n place headers : ℕ} → Walks catalog map (refused n place headers)
      → Case catalog map capacity (refused n place headers)
  too_short : {rs : List Record} {headers : ℕ} → Walks catalog map (listed rs headers) → capacity < record_width * length rs
      → Case catalog map capacity (refused 30 (length rs) headers)
  all_listed : {rs : List Record} {headers : ℕ} → Walks catalog map (listed rs headers) → record_width * length rs ≤ capacity
      → Case catalog map capacity (listed rs headers)

-- The case of a walk's answer, by the capacity.
module _ (catalog map : List ℕ) (capacity : ℕ) where
  by_capacity : (answer : Answer) → Walks catalog map answer → Case catalog map capacity (with_capacity capacity answer)
  unfolding with_capacity
  by_capacity (refused n place headers) w = walk_refused w
  by_capacity (listed rs headers) w =
      by_test (Case catalog map capacity) (ltb capacity (record_width * length rs))
      (λ t. too_short w (ltb-true capacity (record_width * length rs) t)) (λ t. all_listed w (ltb-false capacity (record_width * length rs) t))

  by_opening : (n : ℕ) → Checking.checked catalog ≡ Checking.accepted n → (o : Option ℕ) → opening map ≡ o
      → Case catalog map capacity (with_capacity capacity (records_by (reading (definitions catalog)) map))
  unfolding with_capacity
  by_opening n a (some k) o = rw (unopened (reading (definitions catalog)) map o) (opening_refused a o)
  by_opening n a none o =
      let answer = walked (reading (definitions catalog)) map in
      rw (opened (reading (definitions catalog)) map o)
      (by_capacity answer (record { models = n; accepted = a; opens = o; walks = refl }))

  by_verdict : (v : Checking.Verdict) → Checking.checked catalog ≡ v → Case catalog map capacity (listing catalog map capacity)
  by_verdict (Checking.refused n place) c = rw (catalog_refused_lem catalog map capacity c) (catalog_refused c)
  by_verdict (Checking.accepted n) c = rw (accepted_listed catalog map capacity c) (by_opening n c (opening map) refl)

  -- Every answer is one of these cases.
  pub listing_case : Case catalog map capacity (listing catalog map capacity)
  listing_case = by_verdict (Checking.checked catalog) refl

  -- If a walk yields an answer, listing returns it if the list has the capacity.
  pub listing_walks : {answer : Answer} → Walks catalog map answer → listing catalog map capacity ≡ with_capacity capacity answer
  listing_walks w =
      accepted_listed catalog map capacity w.accepted
      ∙ ap (with_capacity capacity) (opened (reading (definitions catalog)) map w.opens ∙ w.walks)

  -- If a map is refused as a whole (20, 21), every accepted catalog gives that answer.
  pub listing_unopened : {models n : ℕ} → Checking.checked catalog ≡ Checking.accepted models → opening map ≡ some n
      → listing catalog map capacity ≡ refused n 0 0
  unfolding with_capacity
  listing_unopened a o =
      accepted_listed catalog map capacity a ∙ ap (with_capacity capacity) (unopened (reading (definitions catalog)) map o)

-- ---- All records, whatever the capacity

module _ (catalog map : List ℕ) where
  pub records_refused : {number place : ℕ} → Checking.checked catalog ≡ Checking.refused number place
      → all_records catalog map ≡ refused number place 0
  unfolding all_records
  records_refused e = rw (e, all_records)

  pub records_accepted : {n : ℕ} → Checking.checked catalog ≡ Checking.accepted n
      → all_records catalog map ≡ records_by (reading (definitions catalog)) map
  unfolding all_records
  records_accepted e = rw (e, all_records)

  -- If the records are listed, a walk yields them.
  pub records_walk : {rs : List Record} {headers : ℕ} → all_records catalog map ≡ listed rs headers
      → Walks catalog map (listed rs headers)
  records_walk {rs} {headers} e = by_verdict (Checking.checked catalog) refl
    where
      by_opening : {n : ℕ} → Checking.checked catalog ≡ Checking.accepted n → (o : Option ℕ) → opening map ≡ o
          → Walks catalog map (listed rs headers)
      by_opening a (some k) o =
          let q = sym e ∙ records_accepted a ∙ unopened (reading (definitions catalog)) map o in
          impossible (cc)
      by_opening {n} a none o =
          record {
            models = n;
            accepted = a;
            opens = o;
            walks = sym (opened (reading (definitions catalog)) map o) ∙ sym (records_accepted a) ∙ e;
          }

      by_verdict : (v : Checking.Verdict) → Checking.checked catalog ≡ v → Walks catalog map (listed rs headers)
      by_verdict (Checking.refused n place) c =
          let q = sym e ∙ records_refused c in
          impossible (cc)
      by_verdict (Checking.accepted n) c = by_opening c (opening map) refl

  -- Conversely, the answer that a walk yields is that of all records.
  pub walk_records : {answer : Answer} → Walks catalog map answer → all_records catalog map ≡ answer
  walk_records w = records_accepted w.accepted ∙ opened (reading (definitions catalog)) map w.opens ∙ w.walks

-- Listing returns all records if the list has the capacity.
pub listing_records : (catalog map : List ℕ) (capacity : ℕ) → listing catalog map capacity ≡ with_capacity capacity (all_records catalog map)
unfolding listing
listing_records catalog map capacity = refl
