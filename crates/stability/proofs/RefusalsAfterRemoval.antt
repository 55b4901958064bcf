-- Removing models from a catalog when listing refuses: 20 to 26 stay, 27 to 29 stay if the model's definition is kept, and 30 is
-- decided again for the remaining records.
use mathlib.Core.Path.{◌≡◌, refl, sym, ap, ◌∙◌}
use mathlib.Core.Bool.{Bool, true}
use mathlib.Core.List.{List, [], ◌∷◌}
use Prim.Native.Nat.{ℕ, ◌*◌, ◌≤◌}
use native.Mathlib.Omega.{arith}
use lib.ListN.{length}
use Rattle.lists.proofs.TestOutcomes.{impossible}
use Rattle.model_definitions.specs.Definitions.{Definition, definitions}
use Rattle.model_definitions.specs.Removal.{keeping}
use Rattle.model_definitions.proofs.Removal as catalogs
use Rattle.register_map.specs.Scan.{Model, scan}
use Rattle.listing.specs.Listing.{Record, record_width, Answer, refused, listed, with_capacity, listing}
use Rattle.listing.proofs.RefusalNumbers.{Between, catalog_number}
use Rattle.listing.proofs.ListingCases.{with_capacity_lem, Case, catalog_refused, opening_refused, walk_refused, too_short, all_listed, listing_case, listing_walks, listing_unopened}
use Rattle.listing.proofs.ListingInversion.{walk_number, short_walks, refused_walks}
use Rattle.listed_records.proofs.Headers.{headers_at_end}
use Rattle.stability.specs.Removed.{remaining_records, keeps_at}
use Rattle.stability.proofs.MapWalkAfterRemoval.{listed_after_removal, refused_after_removal}

-- Past the last model there is no definition to remove.
end_kept : (choice : List Bool) (ds : List Definition) (ms : List Model) → keeps_at choice ds (length ms) ms ≡ true
unfolding keeps_at
end_kept choice ds [] = refl
end_kept choice ds (m ∷ ms) = end_kept choice ds ms

-- A refusal at a header stays if the definition of the model there is kept.
refusal_stays : (choice : List Bool) (catalog map : List ℕ) (capacity capacity' n place headers : ℕ) → Between 22 29 n
    → keeps_at choice (definitions catalog) headers (scan map).models ≡ true
    → listing catalog map capacity ≡ refused n place headers → listing (keeping choice catalog) map capacity' ≡ refused n place headers
unfolding with_capacity
refusal_stays choice catalog map capacity capacity' n place headers range kept e =
    let w = refused_walks catalog map capacity n place headers range e in
    listing_walks (keeping choice catalog) map capacity' (refused_after_removal choice catalog map w kept)

-- 22 to 26 are at the header after the last model, so they stay.
header_refusal : (choice : List Bool) (catalog map : List ℕ) (capacity capacity' n place headers : ℕ) → 22 ≤ n → n ≤ 26
    → listing catalog map capacity ≡ refused n place headers → listing (keeping choice catalog) map capacity' ≡ refused n place headers
header_refusal choice catalog map capacity capacity' n place headers low high e =
    let ms : List Model = (scan map).models in
    let at_end_lem = headers_at_end catalog map capacity n place headers e low high in
    let kept = ap (λ i. keeps_at choice (definitions catalog) i ms) at_end_lem ∙ end_kept choice (definitions catalog) ms in
    refusal_stays choice catalog map capacity capacity' n place headers (low, omega arith) kept e

-- 20 and 21 do not depend on the catalog.
module _ (choice : List Bool) (catalog map : List ℕ) (capacity capacity' : ℕ) where
  map_case : (n place headers : ℕ) → 20 ≤ n → n ≤ 26 → listing catalog map capacity ≡ refused n place headers
      → (answer : Answer) → Case catalog map capacity answer → answer ≡ refused n place headers
      → listing (keeping choice catalog) map capacity' ≡ answer
  map_case n place headers low high e answer (catalog_refused {n = k} c) q =
      let same : k ≡ n = cc in let b = catalog_number _ _ catalog c in absurd (omega arith)
  map_case n place headers low high e answer (opening_refused {models = k} a o) q =
      listing_unopened (keeping choice catalog) map capacity' (catalogs.removal choice catalog k a).0 o
  map_case n place headers low high e answer (walk_refused {n = k} w) q =
      let same : k ≡ n = cc in
      let b = walk_number catalog map w in
      header_refusal choice catalog map capacity capacity' n place headers (omega arith) high e ∙ sym q
  map_case n place headers low high e answer (too_short w s) q = let same : 30 ≡ n = cc in absurd (omega arith)
  map_case n place headers low high e answer (all_listed w s) q = impossible (cc)

-- 20 to 26 stay.
pub map_refusal_stays : (choice : List Bool) (catalog map : List ℕ) (capacity capacity' n place headers : ℕ)
    → listing catalog map capacity ≡ refused n place headers → 20 ≤ n → n ≤ 26
    → listing (keeping choice catalog) map capacity' ≡ refused n place headers
map_refusal_stays choice catalog map capacity capacity' n place headers e low high =
    map_case choice catalog map capacity capacity' n place headers low high e (listing catalog map capacity) (listing_case catalog map capacity) e
    ∙ e

-- 27 to 29 stay if the definition of the model at that header is kept.
pub model_refusal_stays : (choice : List Bool) (catalog map : List ℕ) (capacity capacity' n place headers : ℕ)
    → listing catalog map capacity ≡ refused n place headers → 27 ≤ n → n ≤ 29
    → keeps_at choice (definitions catalog) headers (scan map).models ≡ true
    → listing (keeping choice catalog) map capacity' ≡ refused n place headers
model_refusal_stays choice catalog map capacity capacity' n place headers e low high kept =
    refusal_stays choice catalog map capacity capacity' n place headers (omega arith, high) kept e

-- 30 with n points needed: then the remaining ones of these n records with the same headers, or 30 again if the list is too short
-- for them.
pub removal_without_capacity : (choice : List Bool) (catalog map : List ℕ) (capacity capacity' n headers : ℕ)
    → listing catalog map capacity ≡ refused 30 n headers
    → (rs : List Record)
    × (length rs ≡ n)
    × (listing catalog map (record_width * n) ≡ listed rs headers)
    × (listing (keeping choice catalog) map capacity' ≡ with_capacity capacity' (listed (remaining_records choice (definitions catalog) rs) headers))
removal_without_capacity choice catalog map capacity capacity' n headers e =
    let s = short_walks catalog map capacity n headers e in
    let rs = s.0 in
    let w = s.1 in
    let count : length rs ≡ n = s.2 in (
      rs,
      count,
      listing_walks catalog map (record_width * n) w ∙ with_capacity_lem (record_width * n) rs headers (omega arith),
      listing_walks (keeping choice catalog) map capacity' (listed_after_removal choice catalog map w),
    )
