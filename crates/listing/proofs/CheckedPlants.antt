-- What follows from the facts that a `CheckedPlant` keeps: checking accepts its catalog, and its records are those of the walk.
use mathlib.Core.Path.{◌≡◌, refl, sym, subst, ◌∙◌}
use mathlib.Core.Bool.{true}
use mathlib.Core.List.{List}
use mathlib.Core.Option.{none}
use Prim.Native.Nat.{ℕ, ◌/◌, ◌≤◌}
use lib.ListN.{length}
use Rattle.std.specs.Prelude.{Result, Err, MatchResult}
use Rattle.lists.proofs.TestOutcomes.{impossible}
use Rattle.catalog.specs.Checking as Checking
use Rattle.model_definitions.specs.Definitions.{definitions}
use Rattle.register_map.specs.Headers.{opening}
use Rattle.layout.specs.Reading.{reading}
use Rattle.layout.specs.InternalWalks.{Accepted}
use Rattle.layout.proofs.AcceptedModels.{accepted_few}
use Rattle.listing.specs.Listing.{walked, all_records}
use Rattle.listing.specs.InternalAccepted.{is_accepted, IsAccepted}
use Rattle.listing.proofs.ListingCases.{opened, records_accepted}

pub accepted_of : (ws : List ℕ) → IsAccepted ws → Accepted ws
accepted_of ws e = go (Checking.checked ws) refl e
  where
    go : (v : Checking.Verdict) → Checking.checked ws ≡ v → is_accepted v ≡ true → Accepted ws
    go (Checking.accepted models) q f = (models, q)
    go (Checking.refused number place) q f = impossible (cc)

-- An accepted catalog has at most 4,096 frames.
pub frames_few : (ws : List ℕ) → IsAccepted ws → length ws / 8 ≤ 4096
frames_few ws e = accepted_few ws (accepted_of ws e)

-- All records are those of the walk.
pub records_walked : {ws catalog map registers : List ℕ} → IsAccepted ws → opening map ≡ none → (ws ≡ catalog) × (map ≡ registers)
    → walked (reading (definitions ws)) map ≡ all_records catalog registers
records_walked {ws} {catalog} {map} accepted o same =
    let read = reading (definitions ws) in
    let here = sym (opened read map o) ∙ sym (records_accepted ws map (accepted_of ws accepted).1) in
    subst (λ registers. walked read map ≡ all_records catalog registers) same.1
    (subst (λ words. walked read map ≡ all_records words map) same.0 here)

-- A result that is an error.
pub matched_err : {T E : Type 0} (P : T → Type 0) (Q : E → Type 0) {r : Result T E} {e : E} → r ≡ Err e → Q e → MatchResult r P Q
matched_err P Q q h = subst (λ r. MatchResult r P Q) (sym q) h
