-- The law of `writing`: a write is decided by what finding its point returns, which is a refusal, nothing or the target to write to.
-- The cases of a write follow from it.
use mathlib.Core.Path.{◌≡◌, refl, ap, ◌∙◌}
use mathlib.Core.List.{List}
use mathlib.Core.Option.{Option, none, some}
use Prim.Native.Nat.{ℕ}
use Rattle.lists.specs.Tests.{first_with}
use Rattle.lists.proofs.TestOutcomes.{impossible}
use Rattle.listing.specs.Listing.{Record, all_records}
use Rattle.listing.specs.Listing as Listing
use Rattle.listing.specs.Finding.{is_record, finding, Target, target_of}
use Rattle.listing.specs.Finding as Finding
use Rattle.writing.specs.Writing.{refusal, rewritten, Answer, refused, written, writing_to, writing, result}

-- Writing `raw` by what finding the point returned: its refusal, 31 for nothing, or what writing to the target results in.
abbrev pub writing_by : Finding.Result → ℕ → List ℕ → Answer
writing_by (Finding.refused_result n place) raw map = refused n place
writing_by Finding.nothing_result raw map = refused 31 0
writing_by (Finding.found_result t) raw map = writing_to t raw map

module _ (catalog map : List ℕ) (index number : ℕ) (path : List ℕ) (raw : ℕ) where
  -- A write is decided by what finding its point returns.
  pub by_target : writing catalog map index number path raw
      ≡ writing_by (Finding.result (finding catalog map index number path)) raw map
  unfolding writing
  by_target = go (finding catalog map index number path)
    where
      go : (f : Finding.Finding)
          → ◌≡◌ {A = Answer} (elim f [
            | Finding.refused n place ↦ refused n place
            | Finding.nothing ↦ refused 31 0
            | Finding.found r ↦ writing_to (target_of r) raw map
          ]) (writing_by (Finding.result f) raw map)
      go (Finding.refused n place) = refl
      go Finding.nothing = refl
      go (Finding.found r) = refl

-- ---- Writing to a target

-- What writing to a target results in, by its refusal.
abbrev pub by_refusal : Option ℕ → Target → ℕ → List ℕ → Answer
by_refusal o t raw map = elim o [ some n ↦ refused n 0 | none ↦ written (rewritten t raw map) ]

-- What it returns depends on the refusal only.
pub same_refusal : (t s : Target) (raw : ℕ) (map map' : List ℕ) → refusal t raw ≡ refusal s raw
    → result (writing_to t raw map) ≡ result (writing_to s raw map')
same_refusal t s raw map map' e = go (refusal t raw) ∙ ap (λ o. result (by_refusal o s raw map')) e
  where
    go : (o : Option ℕ) → result (by_refusal o t raw map) ≡ result (by_refusal o s raw map')
    go none = refl
    go (some n) = refl

-- So what a write returns depends on what finding returned and on the raw value, and on nothing else of the map.
pub same_result : (f : Finding.Result) (raw : ℕ) (map map' : List ℕ) → result (writing_by f raw map) ≡ result (writing_by f raw map')
same_result (Finding.refused_result n place) raw map map' = refl
same_result Finding.nothing_result raw map map' = refl
same_result (Finding.found_result t) raw map map' = same_refusal t t raw map map' refl

module _ (t : Target) (raw : ℕ) (map : List ℕ) where
  -- The answer by the refusal of the target: its number,
  pub target_refused : {n : ℕ} → refusal t raw ≡ some n → writing_to t raw map ≡ refused n 0
  target_refused e = ap (λ o. by_refusal o t raw map) e

  -- or the new map.
  pub target_written : refusal t raw ≡ none → writing_to t raw map ≡ written (rewritten t raw map)
  target_written e = ap (λ o. by_refusal o t raw map) e

-- ---- By the records of the map

-- What is returned of the record that is found.
abbrev pub result_of : Option Record → Finding.Result
result_of none = Finding.nothing_result
result_of (some r) = Finding.found_result (target_of r)

module _ (catalog map : List ℕ) (index number : ℕ) (path : List ℕ) where
  -- If listing is refused, finding returns that refusal.
  refusal_returned : {n place headers : ℕ} → all_records catalog map ≡ Listing.refused n place headers
      → Finding.result (finding catalog map index number path) ≡ Finding.refused_result n place
  unfolding finding
  refusal_returned e = ap (λ a. Finding.result (Finding.finding_in index number path a)) e

  -- Else it returns the target of the first record with this index, number and path, or that there is none.
  pub target_returned : {rs : List Record} {headers : ℕ} → all_records catalog map ≡ Listing.listed rs headers
      → Finding.result (finding catalog map index number path) ≡ result_of (first_with (is_record index number path) rs)
  unfolding finding
  target_returned {rs} e =
      ap (λ a. Finding.result (Finding.finding_in index number path a)) e ∙ go (first_with (is_record index number path) rs)
    where
      go : (o : Option Record)
          → Finding.result (elim o [ none ↦ Finding.nothing | some r ↦ Finding.found r ]) ≡ result_of o
      go none = refl
      go (some r) = refl

  -- The record itself, if there is one.
  pub finding_found : {rs : List Record} {headers : ℕ} → all_records catalog map ≡ Listing.listed rs headers
      → {w : Record} → first_with (is_record index number path) rs ≡ some w
      → finding catalog map index number path ≡ Finding.found w
  unfolding finding
  finding_found e f =
      ap (Finding.finding_in index number path) e
      ∙ ap {B = Finding.Finding} (λ o. elim o [ none ↦ Finding.nothing | some r ↦ Finding.found r ]) f

  -- A target is returned only if the map has records,
  pub found_records : {t : Target} → Finding.found_result t ≡ Finding.result (finding catalog map index number path)
      → (rs : List Record) × (headers : ℕ) × (all_records catalog map ≡ Listing.listed rs headers)
  found_records {t} e = go (all_records catalog map) refl
    where
      go : (a : Listing.Answer) → all_records catalog map ≡ a
          → (rs : List Record) × (headers : ℕ) × (all_records catalog map ≡ Listing.listed rs headers)
      go (Listing.refused n place headers) q = let r = e ∙ refusal_returned q in impossible (cc)
      go (Listing.listed rs headers) q = (rs, headers, q)

  -- and is that of the first record with this index, number and path.
  pub found_record : {rs : List Record} {headers : ℕ} → all_records catalog map ≡ Listing.listed rs headers
      → {t : Target} → Finding.found_result t ≡ Finding.result (finding catalog map index number path)
      → (r : Record) × (first_with (is_record index number path) rs ≡ some r) × (t ≡ target_of r)
  found_record {rs} q {t} e = go (first_with (is_record index number path) rs) refl (e ∙ target_returned q)
    where
      go : (o : Option Record) → first_with (is_record index number path) rs ≡ o → Finding.found_result t ≡ result_of o
          → (r : Record) × (first_with (is_record index number path) rs ≡ some r) × (t ≡ target_of r)
      go none f g = impossible (cc)
      go (some r) f g = (r, f, cc)

  module _ (raw : ℕ) where
    -- So a write is refused as listing is,
    pub decided_by_listing : {n place headers : ℕ} → all_records catalog map ≡ Listing.refused n place headers
        → writing catalog map index number path raw ≡ refused n place
    decided_by_listing e = by_target catalog map index number path raw ∙ ap (λ f. writing_by f raw map) (refusal_returned e)

    -- or decided by the record that is found, if there is one.
    pub decided_by_record : {rs : List Record} {headers : ℕ} → all_records catalog map ≡ Listing.listed rs headers
        → {o : Option Record} → first_with (is_record index number path) rs ≡ o
        → writing catalog map index number path raw ≡ writing_by (result_of o) raw map
    decided_by_record e f =
        by_target catalog map index number path raw
        ∙ ap (λ r. writing_by r raw map) (target_returned e ∙ ap result_of f)
