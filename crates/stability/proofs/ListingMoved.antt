-- Listing a lengthened map, by a catalog that is accepted and by one that is refused.
use mathlib.Core.Path.{◌≡◌, refl, sym, ap, ◌∙◌}
use mathlib.Core.List.{List, []}
use Prim.Native.Nat.{ℕ}
use lib.ListN.{length}
use Rattle.lists.specs.Each.{Each}
use Rattle.lists.specs.Members.{among}
use Rattle.lists.proofs.EachLaws.{each_implied}
use Rattle.catalog.specs.Checking.{Verdict, accepted, checked}
use Rattle.catalog.specs.Checking as Checking
use Rattle.model_definitions.specs.Definitions.{definitions}
use Rattle.model_definitions.proofs.ModelIds.{ids_of_model_frames}
use Rattle.register_map.specs.Scan.{Model, marked}
use Rattle.register_map.specs.Insertion.{all_models, placed}
use Rattle.layout.specs.Reading.{unknown, reading}
use Rattle.layout.proofs.ReadingSteps.{unknown_left}
use Rattle.layout.proofs.PointsInside.{accepted_inside}
use Rattle.listing.specs.Listing.{Answer, walk, with_capacity, listing}
use Rattle.listing.proofs.RefusalNumbers.{catalog_number}
use Rattle.listing.proofs.ListingCases.{catalog_refused_lem, listing_walks}
use Rattle.stability.specs.Stability.{UnknownModel, moved_answer, MovedByLower}
use Rattle.stability.proofs.WalkMoved.{walk_moved}
use Rattle.stability.proofs.RecordPlaces.{walk_in_models}
use Rattle.stability.proofs.AnswerMoved.{walk_refusals, moved_catalog, moved_with_capacity, lower_with_capacity, lower_catalog}
use Rattle.stability.proofs.WholeMaps.{HasModels}

-- The answer for the map `new` is the answer for `map`, which has the models ms, moved by the models in the gaps.
abbrev pub Moved : List ℕ → ℕ → List ℕ → List ℕ → List Model → List (List Model) → Type 0
Moved catalog capacity map new ms gaps =
    (listing catalog new capacity ≡ moved_answer (length ms) gaps (listing catalog map capacity))
    × MovedByLower (placed ms gaps) gaps (listing catalog map capacity)

-- If no model frame of a catalog has a model's id, the catalog's definitions read the model as unknown.
model_unknown : (catalog : List ℕ) (m : Model) → UnknownModel catalog m → reading (definitions catalog) m ≡ unknown
model_unknown catalog m u =
    unknown_left [] (definitions catalog) m (ap (among m.id) (ids_of_model_frames catalog) ∙ u.not_known)

module _ (catalog : List ℕ) (capacity : ℕ) where
  -- With an accepted catalog, listing a map is the walk over its models.
  listing_models : (map : List ℕ) (ms : List Model) (n : ℕ) → HasModels map ms → checked catalog ≡ accepted n
      → listing catalog map capacity ≡ with_capacity capacity (walk (reading (definitions catalog)) marked 0 2 ms)
  listing_models map ms n h e =
      let read = reading (definitions catalog) in
      listing_walks catalog map capacity (record {
        models = n;
        accepted = e;
        opens = h.opens;
        walks = ap {B = Answer} (λ s. walk read s.ending 0 2 s.models) h.scanned;
      })

  module _ (map new : List ℕ) (ms : List Model) (gaps : List (List Model)) where
    by_refused : (number place : ℕ) → checked catalog ≡ Checking.refused number place → Moved catalog capacity map new ms gaps
    by_refused number place e =
        let few = (catalog_number number place catalog e).1 in
        rw (catalog_refused_lem catalog map capacity e, catalog_refused_lem catalog new capacity e) (sym (moved_catalog (length ms) gaps number place 0 few), lower_catalog ms gaps number place 0 few)

    by_accepted : (n : ℕ) → checked catalog ≡ accepted n → HasModels map ms → HasModels new (all_models (placed ms gaps))
        → Each (Each (λ m. reading (definitions catalog) m ≡ unknown)) gaps → Moved catalog capacity map new ms gaps
    by_accepted n e old longer unread =
        let read = reading (definitions catalog) in
        let answer = walk read marked 0 2 ms in
        rw (
          listing_models map ms n old e,
          listing_models new (all_models (placed ms gaps)) n longer e,
          walk_moved read 2 ms gaps unread,
        ) (
          moved_with_capacity (length ms) gaps capacity answer (walk_refusals read 0 2 ms),
          lower_with_capacity ms gaps capacity answer (walk_in_models read (accepted_inside catalog n e) 2 ms),
        )

    pub listing_moved : HasModels map ms → HasModels new (all_models (placed ms gaps)) → Each (Each (UnknownModel catalog)) gaps
        → Moved catalog capacity map new ms gaps
    listing_moved old longer unknowns = by_verdict (checked catalog) refl
      where
        by_verdict : (v : Verdict) → checked catalog ≡ v → Moved catalog capacity map new ms gaps
        by_verdict (Checking.refused number place) e = by_refused number place e
        by_verdict (accepted n) e =
            let Unread : Model → Type 0 = λ m. reading (definitions catalog) m ≡ unknown in
            let unread = each_implied (UnknownModel catalog) Unread (model_unknown catalog) in
            by_accepted n e old longer (each_implied (Each (UnknownModel catalog)) (Each Unread) unread gaps unknowns)
