-- Tests of the elements of a list.
use Rattle.std.specs.Prelude.{Bool, true, false, ◌||◌, List, [], ◌∷◌, ℕ}
use Rattle.std.specs.List.{list_all}
use Rattle.std.proofs.Math.Option.{Option, none, some}

-- Does one of these tests hold?
abbrev pub one_holds : List Bool → Bool
one_holds [] = false
one_holds (t ∷ ts) = t || one_holds ts

-- The number of the first rule that is broken. A rule is given as its test (is it broken?) and its number.
abbrev pub first_broken : List (Bool × ℕ) → Option ℕ
first_broken [] = none
first_broken (r ∷ rs) = elim r.0 [ true ↦ some r.1 | false ↦ first_broken rs ]

-- Does the test hold of every element?
abbrev pub every : {A : Type 0} → (A → Bool) → List A → Bool
every test xs = list_all test xs

-- The first element for which the test holds.
unfoldable pub first_with : {A : Type 0} → (A → Bool) → List A → Option A
first_with test [] = none
first_with test (x ∷ xs) = elim (test x) [ true ↦ some x | false ↦ first_with test xs ]

-- The elements for which the test holds, in their order.
unfoldable pub selected : {A : Type 0} → (A → Bool) → List A → List A
selected test [] = []
selected test (x ∷ xs) = elim (test x) [ true ↦ x ∷ selected test xs | false ↦ selected test xs ]

-- The elements kept by a choice for each: true keeps it, false removes it. Elements after the last choice stay; choices after the
-- last element have no effect.
abbrev pub kept_by : {A : Type 0} → List Bool → List A → List A
kept_by [] xs = xs
kept_by (c ∷ cs) [] = []
kept_by (true ∷ cs) (x ∷ xs) = x ∷ kept_by cs xs
kept_by (false ∷ cs) (x ∷ xs) = kept_by cs xs
