-- The walk over a map by an accepted catalog, after models are removed from the catalog.
use mathlib.Core.Path.{◌≡◌, sym, ap, subst, ◌∙◌}
use mathlib.Core.Bool.{Bool, true}
use mathlib.Core.List.{List}
use Prim.Native.Nat.{ℕ}
use native.Mathlib.Omega.{arith}
use lib.ListN.{length}
use Rattle.lists.specs.Tests.{kept_by}
use Rattle.model_definitions.specs.Definitions.{definitions}
use Rattle.model_definitions.specs.Removal.{keeping}
use Rattle.model_definitions.proofs.ModelIds.{ids_distinct}
use Rattle.model_definitions.proofs.Removal as catalogs
use Rattle.register_map.specs.Scan.{Model, scan}
use Rattle.layout.specs.Reading.{reading}
use Rattle.listing.specs.Listing.{Record, Answer, refused, listed, walked}
use Rattle.listing.proofs.ListingCases.{Walks}
use Rattle.stability.specs.Removed.{keeps_id, remaining_records, keeps_at}
use Rattle.stability.proofs.ReadingAfterRemoval.{reading_if, reading_after_removal}
use Rattle.stability.proofs.WalkAfterRemoval.{AfterRemoval, walk_after_removal}

module _ (choice : List Bool) (catalog map : List ℕ) where
  -- The remaining catalog is accepted and the map is not refused as a whole, so the walk by this catalog yields the answer.
  walks_on : {answer : Answer} → Walks catalog map answer → (reduced : Answer)
      → walked (reading (definitions (keeping choice catalog))) map ≡ reduced → Walks (keeping choice catalog) map reduced
  walks_on w reduced e =
      record {
        models = length (kept_by choice (definitions catalog));
        accepted = (catalogs.removal choice catalog w.models w.accepted).0;
        opens = w.opens;
        walks = e;
      }

  -- The two answers, compared.
  answers : {answer : Answer} → Walks catalog map answer
      → AfterRemoval choice (definitions catalog) 0 (scan map).models answer
      (walked (reading (definitions (keeping choice catalog))) map)
  answers {answer} w =
      let ds = definitions catalog in
      let less = reading (definitions (keeping choice catalog)) in
      let same = (catalogs.removal choice catalog w.models w.accepted).1 in
      let distinct = ids_distinct catalog w.models w.accepted in
      let by_choice : (m : Model) → less m ≡ reading_if (keeps_id choice ds m.id) (reading ds m) =
      λ m. ap (λ cs. reading cs m) same ∙ reading_after_removal choice ds m distinct in
      subst (λ a. AfterRemoval choice ds 0 (scan map).models a (walked less map)) w.walks
      (walk_after_removal choice ds (reading ds) less by_choice (scan map).ending 0 2 (scan map).models)

  -- If no model is refused, none is after removal, and the records are the remaining ones.
  pub listed_after_removal : {rs : List Record} {headers : ℕ} → Walks catalog map (listed rs headers)
      → Walks (keeping choice catalog) map (listed (remaining_records choice (definitions catalog) rs) headers)
  listed_after_removal {rs} {headers} w = walks_on w (listed (remaining_records choice (definitions catalog) rs) headers) (answers w)

  -- A refusal stays if the definition of the model at its header is kept.
  pub refused_after_removal : {n place headers : ℕ} → Walks catalog map (refused n place headers)
      → keeps_at choice (definitions catalog) headers (scan map).models ≡ true
      → Walks (keeping choice catalog) map (refused n place headers)
  refused_after_removal {n} {place} {headers} w k =
      let l = answers w in
      let counted = l.1 in
      let same : headers ≡ l.0 = omega arith in
      let kept = ap (λ i. keeps_at choice (definitions catalog) i (scan map).models) (sym same) ∙ k in
      walks_on w (refused n place headers) (l.2 kept)
