-- The walk over a map's models by the remaining definitions, compared with the walk by all of them.
use mathlib.Core.Path.{◌≡◌, refl, ap, ◌∙◌}
use mathlib.Core.Bool.{Bool, true, false}
use mathlib.Core.List.{List, [], ◌∷◌, map}
use Prim.Native.Nat.{ℕ, suc, ◌+◌}
use native.Mathlib.Omega.{arith}
use Rattle.lists.specs.Tests.{selected}
use Rattle.lists.proofs.EachLaws.{each_map, each_all}
use Rattle.lists.proofs.SelectedLaws.{selected_append, selected_all, selected_none}
use Rattle.model_definitions.specs.Definitions.{Definition}
use Rattle.register_map.specs.Scan.{Model, size_of, Ending, marked, broken}
use Rattle.layout.specs.Points.{ModelPoint}
use Rattle.layout.specs.Reading.{Fault, fault_number, Reading, unknown, faulty, points}
use Rattle.listing.specs.Listing.{Record, record_of, Answer, refused, listed, with_records, walk}
use Rattle.listing.proofs.WalkSteps.{walk_no_records, walk_faulty, walk_points}
use Rattle.stability.specs.Removed.{keeps_id, remaining_records, keeps_at}
use Rattle.stability.proofs.ReadingAfterRemoval.{reading_if}

-- An unknown model stays unknown.
unknown_if : (b : Bool) → reading_if b unknown ≡ unknown
unknown_if true = refl
unknown_if false = refl

module _ (choice : List Bool) (ds : List Definition) where
  -- The answer `reduced` by the remaining definitions: the remaining records and the same headers; or the same refusal, if the
  -- definition of the refused model is kept.
  abbrev pub AfterRemoval : ℕ → List Model → Answer → Answer → Type 0
  AfterRemoval index ms (refused number place headers) reduced =
      (n : ℕ) × (headers ≡ index + n) × (keeps_at choice ds n ms ≡ true → reduced ≡ refused number place headers)
  AfterRemoval index ms (listed rs headers) reduced = reduced ≡ listed (remaining_records choice ds rs) headers

  -- After the last model the answers are the same.
  end_after_removal : (read less : Model → Reading) (ending : Ending) (index at : ℕ)
      → AfterRemoval index [] (walk read ending index at []) (walk less ending index at [])
  unfolding walk selected
  end_after_removal read less marked index at = refl
  end_after_removal read less (broken number) index at = (0, omega arith, λ k. refl)

  -- Records added to the answer, and the remaining ones of them to the reduced answer.
  prepended_after_removal : (index : ℕ) (m : Model) (ms : List Model) (rs : List Record) (all reduced : Answer)
      → AfterRemoval (index + 1) ms all reduced → AfterRemoval index (m ∷ ms) (with_records rs all) (with_records (remaining_records choice ds rs) reduced)
  unfolding keeps_at
  prepended_after_removal index m ms rs (refused number place headers) reduced l =
      let same = l.1 in (suc l.0, omega arith, λ k. ap (with_records (remaining_records choice ds rs)) (l.2 k))
  prepended_after_removal index m ms rs (listed ts headers) reduced l = rw (l, selected_append (λ r. keeps_id choice ds r.id) rs ts)

  module _ (read less : Model → Reading) (by_choice : (m : Model) → less m ≡ reading_if (keeps_id choice ds m.id) (read m))
      (ending : Ending) where
    -- One model, by its reading and whether its definition is kept.
    module _ (index at : ℕ) (m : Model) (ms : List Model) where
      -- The answers for the models after it.
      all : Answer
      all = walk read ending (index + 1) (at + size_of m) ms

      reduced : Answer
      reduced = walk less ending (index + 1) (at + size_of m) ms

      -- The records of the model all remain or are all removed.
      abbrev own : List ModelPoint → List Record
      own = map (record_of index at m.id)

      model_kept : keeps_id choice ds m.id ≡ true → (ps : List ModelPoint) → remaining_records choice ds (own ps) ≡ own ps
      model_kept e ps =
          let T : Record → Type 0 = λ r. keeps_id choice ds r.id ≡ true in
          selected_all (λ r. keeps_id choice ds r.id) (own ps)
          (each_map T (record_of index at m.id) ps (each_all (λ p. T (record_of index at m.id p)) (λ p. e) ps))

      model_removed : keeps_id choice ds m.id ≡ false → (ps : List ModelPoint) → remaining_records choice ds (own ps) ≡ []
      model_removed e ps =
          let T : Record → Type 0 = λ r. keeps_id choice ds r.id ≡ false in
          selected_none (λ r. keeps_id choice ds r.id) (own ps)
          (each_map T (record_of index at m.id) ps (each_all (λ p. T (record_of index at m.id p)) (λ p. e) ps))

      -- The answers with the model's own records.
      with_own_records : (rs ss : List Record) → remaining_records choice ds rs ≡ ss → AfterRemoval (index + 1) ms all reduced
          → walk read ending index at (m ∷ ms) ≡ with_records rs all → walk less ending index at (m ∷ ms) ≡ with_records ss reduced
          → AfterRemoval index (m ∷ ms) (walk read ending index at (m ∷ ms)) (walk less ending index at (m ∷ ms))
      unfolding all reduced
      with_own_records rs ss e l f g = rw (f, g, ← e) (prepended_after_removal index m ms rs all reduced l)

      -- A faulty model stays faulty if its definition is kept.
      fault_stays : (fault : Fault) → read m ≡ faulty fault → keeps_id choice ds m.id ≡ true
          → walk less ending index at (m ∷ ms) ≡ refused (fault_number fault) at index
      fault_stays fault e k = walk_faulty less ending index at m ms {fault = fault} (by_choice m ∙ rw (k, e))

      model_after_removal : AfterRemoval (index + 1) ms all reduced → (r : Reading) → read m ≡ r → (b : Bool) → keeps_id choice ds m.id ≡ b
          → AfterRemoval index (m ∷ ms) (walk read ending index at (m ∷ ms)) (walk less ending index at (m ∷ ms))
      unfolding all reduced keeps_at selected
      model_after_removal l unknown e b k =
          let same : less m ≡ unknown = by_choice m ∙ rw (e, k) (unknown_if b) in
          with_own_records [] [] refl l (walk_no_records read ending index at m ms e) (walk_no_records less ending index at m ms same)
      model_after_removal l (faulty fault) e b k =
          rw (walk_faulty read ending index at m ms e) (0, omega arith, λ t. fault_stays fault e t)
      model_after_removal l (points ps) e true k =
          with_own_records (own ps) (own ps) (model_kept k ps) l
          (walk_points read ending index at m ms e) (walk_points less ending index at m ms {ps = ps} (by_choice m ∙ rw (k, e)))
      model_after_removal l (points ps) e false k =
          with_own_records (own ps) [] (model_removed k ps) l
          (walk_points read ending index at m ms e) (walk_no_records less ending index at m ms (by_choice m ∙ rw k))

    -- The walk over any models.
    pub walk_after_removal : (index at : ℕ) (ms : List Model)
        → AfterRemoval index ms (walk read ending index at ms) (walk less ending index at ms)
    unfolding all reduced
    walk_after_removal index at [] = end_after_removal read less ending index at
    walk_after_removal index at (m ∷ ms) =
        model_after_removal index at m ms (walk_after_removal (index + 1) (at + size_of m) ms) (read m) refl (keeps_id choice ds m.id) refl
