-- When a catalog is accepted, step by step: rules 1 and 2, then each frame, then the end.
use mathlib.Core.Path.{◌≡◌, refl, sym, ◌∙◌}
use mathlib.Core.Bool.{true}
use mathlib.Core.List.{List, [], ◌∷◌}
use mathlib.Core.Logic.{◌↔◌}
use mathlib.Core.Option.{Option, none, some}
use Prim.Native.Nat.{ℕ, suc, ◌/◌, ◌%◌, ◌≤◌}
use native.Mathlib.Omega.{arith}
use borrow.Author.Tests.{eqb-true, eqb-false, ltb-true, ltb-false}
use lib.Dec.{eqb, ltb}
use lib.ListN.{length}
use Rattle.lists.proofs.TestOutcomes.{impossible, clash, by_test}
use Rattle.catalog_frames.specs.Frames.{Frame, frames}
use Rattle.catalog.specs.State.{State, start, next}
use Rattle.catalog.specs.Rules.{no_model, run, fault}
use Rattle.catalog.specs.Checking.{Verdict, accepted, refused, check_from, checked}

-- A refusal is not an acceptance.
never_refused : {A : Type 0} (r i n : ℕ) → refused r i ≡ accepted n → A
never_refused r i n e = impossible (cc)

-- A catalog is accepted if and only if it has whole frames, at most 4,096 of them, and these are accepted.
pub accepted_start : (ws : List ℕ) (n : ℕ) → (checked ws ≡ accepted n)
    ↔ ((length ws % 8 ≡ 0) × (length ws / 8 ≤ 4096) × (check_from start 0 (frames ws) ≡ accepted n))
unfolding checked
accepted_start ws n =
    let rest = check_from start 0 (frames ws) ≡ accepted n in
    let P : Verdict → Type 0 = λ v. (v ≡ accepted n) ↔ ((length ws % 8 ≡ 0) × (length ws / 8 ≤ 4096) × rest) in
    by_test P (eqb (length ws % 8) 0)
    (λ whole. by_test P (ltb 4096 (length ws / 8))
    (λ over. (never_refused 2 0 n, λ h. let o = ltb-true 4096 (length ws / 8) over in let m = h.1 in absurd (omega arith)))
    (λ few. (λ e. (eqb-true (length ws % 8) 0 whole, ltb-false 4096 (length ws / 8) few, e), λ h. h.2)))
    (λ part. (never_refused 1 0 n, λ h. absurd (eqb-false (length ws % 8) 0 part h.0)))

-- Frames are accepted if and only if the first breaks no rule and those after it are accepted.
pub accepted_step : (s : State) (i : ℕ) (f : Frame) (fs : List Frame) (n : ℕ) → (check_from s i (f ∷ fs) ≡ accepted n)
    ↔ ((fault s f (run (f ∷ fs)) ≡ none) × (check_from (next s f) (suc i) fs ≡ accepted n))
unfolding check_from
accepted_step s i f fs n = go (fault s f (run (f ∷ fs)))
  where
    go : (o : Option ℕ) → (elim o [ none ↦ check_from (next s f) (suc i) fs | some r ↦ refused r i ] ≡ accepted n)
        ↔ ((o ≡ none) × (check_from (next s f) (suc i) fs ≡ accepted n))
    go none = (λ e. (refl, e), λ h. h.1)
    go (some r) = (never_refused r i n, λ h. let z = h.0 in cc)

-- The end is accepted with n models if and only if no model is open and there are n ids.
pub accepted_end : (s : State) (i n : ℕ) → (check_from s i [] ≡ accepted n)
    ↔ ((no_model s.open_groups ≡ true) × (length s.ids ≡ n))
unfolding check_from
accepted_end s i n =
    let P : Verdict → Type 0 = λ v. (v ≡ accepted n) ↔ ((no_model s.open_groups ≡ true) × (length s.ids ≡ n)) in
    by_test P (no_model s.open_groups) (λ t. (λ e. (t, cc), λ h. let z = h.1 in cc))
    (λ f. (never_refused 11 i n, λ h. clash (sym h.0 ∙ f)))
