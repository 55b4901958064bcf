-- The answer of a write, case by case: the numbers of refusals, and what an accepted write has found.
use mathlib.Core.Path.{◌≡◌, refl, sym, ap, ◌∙◌}
use mathlib.Core.Bool.{true, false}
use mathlib.Core.List.{List}
use mathlib.Core.Option.{Option, none, some}
use Prim.Native.Nat.{ℕ, ◌≤◌}
use native.Mathlib.Omega.{arith}
use borrow.Author.Tests.{eqb-false, ltb-false}
use lib.Dec.{eqb, ltb}
use Rattle.lists.specs.Tests.{first_with}
use Rattle.lists.proofs.TestOutcomes.{impossible, by_test}
use Rattle.values.specs.Classes.{is_unimplemented_class}
use Rattle.catalog_frames.specs.Frames.{read_only}
use Rattle.layout.specs.Points.{point_class}
use Rattle.listing.specs.Listing.{Record, all_records, with_capacity, listing}
use Rattle.listing.specs.Listing as Listing
use Rattle.listing.specs.Finding.{is_record, finding, Target, target_of}
use Rattle.listing.specs.Finding as Finding
use Rattle.listing.proofs.RefusalNumbers.{Between, catalog_number, opening_number}
use Rattle.listing.proofs.WalkSteps.{not_listed}
use Rattle.listing.proofs.ListingInversion.{walk_number}
use Rattle.listing.proofs.ListingCases as listings
use Rattle.listing.proofs.ListingCases.{catalog_refused, opening_refused, walk_refused, too_short, all_listed, listing_case, listing_records, walk_records}
use Rattle.writing.specs.Writing.{can_hold, refusal, rewritten, refused, written, writing_to, writing}
use Rattle.writing.proofs.DecidedByTarget.{writing_by, by_target, target_refused, target_written, found_records, found_record}

-- ---- The numbers of refusals

module _ (catalog map : List ℕ) where
  -- A refusal by listing, case by case,
  number_case : {n place headers : ℕ} (answer : Listing.Answer) → listings.Case catalog map 0 answer
      → all_records catalog map ≡ Listing.refused n place headers → answer ≡ Listing.refused n place headers → Between 1 29 n
  number_case {n} answer (catalog_refused {n = k} {place = p} c) q e =
      let b = catalog_number k p catalog c in let same : k ≡ n = cc in (omega arith, omega arith)
  number_case {n} answer (opening_refused {n = k} a c) q e =
      let b = opening_number map k c in let same : k ≡ n = cc in (omega arith, omega arith)
  number_case {n} answer (walk_refused {n = k} w) q e =
      let b = walk_number catalog map w in let same : k ≡ n = cc in (omega arith, omega arith)
  number_case {n} answer (too_short w l) q e = not_listed (sym q ∙ walk_records catalog map w)
  number_case {n} answer (all_listed w l) q e = not_listed (sym e)

  -- has one of the numbers 1 to 29.
  pub records_number : {n place headers : ℕ} → all_records catalog map ≡ Listing.refused n place headers → Between 1 29 n
  unfolding with_capacity
  records_number e =
      number_case (listing catalog map 0) (listing_case catalog map 0) e
      (listing_records catalog map 0 ∙ ap (with_capacity 0) e)

-- A target that is not refused: it is not read-only, takes up to four registers, is implemented and can hold the raw value.
pub record Writable (t : Target) (raw : ℕ) : Type 0 where
  pub access : t.definition.access ≡ read_only → ⊥
  pub small : t.definition.size ≤ 4
  pub implemented : is_unimplemented_class (point_class t.definition t.raw) ≡ false
  pub holds : can_hold t.definition raw ≡ true

module _ (t : Target) (raw : ℕ) where
  -- What the refusal says: its number is 32 to 35, or the target is writable.
  abbrev Outcome : Option ℕ → Type 0
  Outcome none = Writable t raw
  Outcome (some n) = Between 32 35 n

  -- This holds of the refusal of the target.
  outcome : Outcome (refusal t raw)
  unfolding refusal
  outcome =
      by_test Outcome (eqb t.definition.access read_only) (λ _. (omega arith, omega arith)) (λ a.
      by_test Outcome (ltb 4 t.definition.size) (λ _. (omega arith, omega arith)) (λ s.
      by_test Outcome (is_unimplemented_class (point_class t.definition t.raw)) (λ _. (omega arith, omega arith)) (λ g.
      by_test Outcome (can_hold t.definition raw) (λ h. record {
        access = eqb-false t.definition.access read_only a;
        small = ltb-false 4 t.definition.size s;
        implemented = g;
        holds = h;
      }) (λ _. (omega arith, omega arith)))))

  -- The number of a refusal is 32 to 35,
  refusal_number_lem : {n : ℕ} → refusal t raw ≡ some n → Between 32 35 n
  refusal_number_lem e = rw e at outcome

  -- and a target that is not refused is writable.
  pub refusal_none : refusal t raw ≡ none → Writable t raw
  refusal_none e = rw e at outcome

  -- So writing to a target is refused by 32 to 35 only.
  pub target_number : {n place : ℕ} (map : List ℕ) → writing_to t raw map ≡ refused n place → Between 32 35 n
  target_number {n} map e = go (refusal t raw) refl
    where
      go : (o : Option ℕ) → refusal t raw ≡ o → Between 32 35 n
      go none q = let a = sym (target_written t raw map q) ∙ e in impossible (cc)
      go (some k) q =
          let a = sym (target_refused t raw map q) ∙ e in
          let same : k ≡ n = cc in
          let b = refusal_number_lem q in
          (omega (arith, b.0), omega (arith, b.1))

-- ---- An accepted write

-- The point that an accepted write has found among the records rs of the map, and the new map.
pub record Accepted (rs : List Record) (index number : ℕ) (path : List ℕ) (raw : ℕ) (map new : List ℕ) : Type 0 where
  pub point : Record
  pub found : first_with (is_record index number path) rs ≡ some point
  pub accepted : refusal (target_of point) raw ≡ none
  pub rewrites : new ≡ rewritten (target_of point) raw map

module _ (catalog map : List ℕ) (index number : ℕ) (path : List ℕ) (raw : ℕ) (new : List ℕ)
    (writes : writing catalog map index number path raw ≡ written new) where
  -- An accepted write has found a target that is not refused.
  accepted_target : (t : Target) × (Finding.found_result t ≡ Finding.result (finding catalog map index number path))
      × (refusal t raw ≡ none) × (new ≡ rewritten t raw map)
  accepted_target =
      by_finding (Finding.result (finding catalog map index number path)) (sym (by_target catalog map index number path raw) ∙ writes)
    where
      by_refusal_lem : (t : Target) (o : Option ℕ) → refusal t raw ≡ o → writing_to t raw map ≡ written new
          → (refusal t raw ≡ none) × (new ≡ rewritten t raw map)
      by_refusal_lem t (some n) r q = let a = sym (target_refused t raw map r) ∙ q in impossible (cc)
      by_refusal_lem t none r q = let a = sym (target_written t raw map r) ∙ q in (r, cc)

      by_finding : (f : Finding.Result) → writing_by f raw map ≡ written new
          → (t : Target) × (Finding.found_result t ≡ f) × (refusal t raw ≡ none) × (new ≡ rewritten t raw map)
      by_finding (Finding.refused_result n place) q = impossible (cc)
      by_finding Finding.nothing_result q = impossible (cc)
      by_finding (Finding.found_result t) q = let r = by_refusal_lem t (refusal t raw) refl q in (t, refl, r.0, r.1)

  -- So the map has records,
  pub accepted_records : (rs : List Record) × (headers : ℕ) × (all_records catalog map ≡ Listing.listed rs headers)
  accepted_records = found_records catalog map index number path accepted_target.1

  -- and the target is that of one of them.
  pub accepted_write : (rs : List Record) (headers : ℕ) → all_records catalog map ≡ Listing.listed rs headers
      → Accepted rs index number path raw map new
  accepted_write rs headers e =
      let t = accepted_target in
      let r = found_record catalog map index number path e t.1 in
      record {
        point = r.0;
        found = r.1;
        accepted = ap (λ (x : Target). refusal x raw) (sym r.2) ∙ t.2;
        rewrites = t.3 ∙ ap (λ (x : Target). rewritten x raw map) r.2;
      }
