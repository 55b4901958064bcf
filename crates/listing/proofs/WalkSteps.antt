-- Listing model by model: the answer from a model on, by its reading and the answer for the models after it.
use mathlib.Core.Path.{◌≡◌, refl, sym, ap, ◌∙◌}
use mathlib.Core.List.{List, [], ◌∷◌, ◌++◌, map}
use Prim.Native.Nat.{ℕ, ◌+◌}
use Rattle.lists.proofs.TestOutcomes.{impossible}
use Rattle.register_map.specs.Scan.{Model, size_of, Ending}
use Rattle.layout.specs.Points.{ModelPoint}
use Rattle.layout.specs.Reading.{Reading, unknown, faulty, points, Fault, fault_number}
use Rattle.listing.specs.Listing.{Record, record_of, Answer, refused, listed, with_records, walk}

-- Adding no records leaves an answer as it was.
none_prepended : (answer : Answer) → with_records [] answer ≡ answer
none_prepended (refused number place headers) = refl
none_prepended (listed rs headers) = refl

-- No answer is both a refusal and a list.
pub not_listed : {A : Type 0} {number place models headers : ℕ} {rs : List Record}
    → refused number place models ≡ listed rs headers → A
not_listed e = impossible (cc)

-- If an answer with added records is a list, it lists these and then the records of the answer.
pub prepended_listed : (preceding : List Record) (answer : Answer) (rs : List Record) (headers : ℕ)
    → with_records preceding answer ≡ listed rs headers
    → (ss : List Record) × (answer ≡ listed ss headers) × (rs ≡ preceding ++ ss)
prepended_listed preceding (refused number place models) rs headers e = not_listed e
prepended_listed preceding (listed ss n) rs headers e = (ss, ap (λ k. listed ss k) cc, cc)

-- The answer from model m on, by its reading r and the answer `following` for the models after it.
abbrev pub with_model : Reading → ℕ → ℕ → Model → Answer → Answer
with_model r index at m following =
    elim r [
      | unknown ↦ following
      | faulty fault ↦ refused (fault_number fault) at index
      | points ps ↦ with_records (map (record_of index at m.id) ps) following
    ]

-- The first step of a walk.
pub walk_model : (read : Model → Reading) (ending : Ending) (index at : ℕ) (m : Model) (ms : List Model)
    → walk read ending index at (m ∷ ms) ≡ with_model (read m) index at m (walk read ending (index + 1) (at + size_of m) ms)
unfolding walk
walk_model read ending index at m ms = refl

module _ (read : Model → Reading) (ending : Ending) (index at : ℕ) (m : Model) (ms : List Model) where
  -- An unknown model is skipped.
  pub walk_unknown : read m ≡ unknown → walk read ending index at (m ∷ ms) ≡ walk read ending (index + 1) (at + size_of m) ms
  walk_unknown e =
      let rest = walk read ending (index + 1) (at + size_of m) ms in
      walk_model read ending index at m ms ∙ ap (λ r. with_model r index at m rest) e

  pub walk_no_records : read m ≡ unknown
      → walk read ending index at (m ∷ ms) ≡ with_records [] (walk read ending (index + 1) (at + size_of m) ms)
  walk_no_records e = walk_unknown e ∙ sym (none_prepended (walk read ending (index + 1) (at + size_of m) ms))

  -- A faulty model is refused.
  pub walk_faulty : {fault : Fault} → read m ≡ faulty fault
      → walk read ending index at (m ∷ ms) ≡ refused (fault_number fault) at index
  walk_faulty e =
      let rest = walk read ending (index + 1) (at + size_of m) ms in
      walk_model read ending index at m ms ∙ ap (λ r. with_model r index at m rest) e

  -- The records of a model come before those of the models after it.
  pub walk_points : {ps : List ModelPoint} → read m ≡ points ps
      → walk read ending index at (m ∷ ms)
      ≡ with_records (map (record_of index at m.id) ps) (walk read ending (index + 1) (at + size_of m) ms)
  walk_points e =
      let rest = walk read ending (index + 1) (at + size_of m) ms in
      walk_model read ending index at m ms ∙ ap (λ r. with_model r index at m rest) e
