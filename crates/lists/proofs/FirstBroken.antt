-- The first rule that is broken, by the outcome of each test up to it.
use mathlib.Core.Path.{◌≡◌, sym, ap, ◌∙◌}
use mathlib.Core.Bool.{Bool, true, false}
use mathlib.Core.List.{List, [], ◌∷◌}
use mathlib.Core.Option.{some}
use Prim.Native.Nat.{ℕ, zero, suc}
use Rattle.lists.specs.Tests.{first_broken}

-- The tests before test k fail, and test k holds; n is the number of its rule.
abbrev pub FirstAt : ℕ → ℕ → List (Bool × ℕ) → Type 0
FirstAt k n [] = ⊥
FirstAt zero n (r ∷ rs) = (r.0 ≡ true) × (n ≡ r.1)
FirstAt (suc k) n (r ∷ rs) = (r.0 ≡ false) × FirstAt k n rs

-- Then rule n is the first that is broken.
pub first_at : (rs : List (Bool × ℕ)) (k n : ℕ) → FirstAt k n rs → some n ≡ first_broken rs
first_at [] k n h = absurd h
first_at (r ∷ rs) zero n h = ap some h.1 ∙ sym (ap (λ (t : Bool). first_broken ((t, r.1) ∷ rs)) h.0)
first_at (r ∷ rs) (suc k) n h = first_at rs k n h.1 ∙ sym (ap (λ (t : Bool). first_broken ((t, r.1) ∷ rs)) h.0)
