-- Laws of `selected`: the elements that a test selects.
use mathlib.Core.Path.{◌≡◌, refl, sym, ap}
use mathlib.Core.Bool.{Bool, true, false}
use mathlib.Core.List.{List, [], ◌∷◌, ◌++◌, map}
use Prim.Native.Nat.{suc, ◌≤◌}
use native.Mathlib.Omega.{arith}
use lib.ListN.{length}
use Rattle.lists.specs.Each.{Each}
use Rattle.lists.specs.Tests.{selected}
use Rattle.lists.proofs.TestOutcomes.{clash, by_test}
use Rattle.lists.specs.Members.{In, first, later}
use Rattle.lists.proofs.InLaws.{in_more}

module _ {A : Type 0} (test : A → Bool) where
  -- The selection from two appended lists.
  pub selected_append : (xs ys : List A) → selected test (xs ++ ys) ≡ selected test xs ++ selected test ys
  unfolding selected
  selected_append [] ys = refl
  selected_append (x ∷ xs) ys = go (test x) (selected_append xs ys)
    where
      go : (b : Bool) → selected test (xs ++ ys) ≡ selected test xs ++ selected test ys
          → elim b [ true ↦ x ∷ selected test (xs ++ ys) | false ↦ selected test (xs ++ ys) ]
          ≡ elim b [ true ↦ x ∷ selected test xs | false ↦ selected test xs ] ++ selected test ys
      go true h = ap {B = List A} (λ zs. x ∷ zs) h
      go false h = h

  -- All elements are selected, or none.
  pub selected_all : (xs : List A) → Each (λ x. test x ≡ true) xs → selected test xs ≡ xs
  unfolding selected
  selected_all [] e = refl
  selected_all (x ∷ xs) e = rw (e.0, selected) (ap {B = List A} (λ zs. x ∷ zs) (selected_all xs e.1))

  pub selected_none : (xs : List A) → Each (λ x. test x ≡ false) xs → selected test xs ≡ []
  unfolding selected
  selected_none [] e = refl
  selected_none (x ∷ xs) e = rw (e.0, selected) (selected_none xs e.1)

  -- A selection is no longer than the list.
  pub selected_fewer : (xs : List A) → length (selected test xs) ≤ length xs
  unfolding selected
  selected_fewer [] = omega arith
  selected_fewer (x ∷ xs) =
      let less = selected_fewer xs in
      let W : List A → Type 0 = λ zs. length zs ≤ suc (length xs) in
      by_test W (test x) (λ e. omega arith) (λ e. omega arith)

  -- Tests with the same outcome on each element select the same.
  pub selected_same : (other : A → Bool) (xs : List A) → Each (λ x. test x ≡ other x) xs → selected test xs ≡ selected other xs
  unfolding selected
  selected_same other [] e = refl
  selected_same other (x ∷ xs) e = go (test x) (other x) e.0 (selected_same other xs e.1)
    where
      go : (b c : Bool) → b ≡ c → selected test xs ≡ selected other xs
          → ◌≡◌ {A = List A} (elim b [ true ↦ x ∷ selected test xs | false ↦ selected test xs ])
          (elim c [ true ↦ x ∷ selected other xs | false ↦ selected other xs ])
      go true true same rest = ap {B = List A} (λ zs. x ∷ zs) rest
      go false false same rest = rest
      go true false same rest = clash same
      go false true same rest = clash (sym same)

-- Selecting from a mapped list is mapping the selected elements.
pub selected_map : {A B : Type 0} (f : A → B) (test : B → Bool) (xs : List A)
    → selected test (map f xs) ≡ map f (selected (λ x. test (f x)) xs)
unfolding selected
selected_map f test [] = refl
selected_map {A} {B} f test (x ∷ xs) = go (test (f x)) (selected_map f test xs)
  where
    go : (b : Bool) → selected test (map f xs) ≡ map f (selected (λ y. test (f y)) xs)
        → ◌≡◌ {A = List B} (elim b [ true ↦ f x ∷ selected test (map f xs) | false ↦ selected test (map f xs) ])
        (map f (elim b [ true ↦ x ∷ selected (λ y. test (f y)) xs | false ↦ selected (λ y. test (f y)) xs ]))
    go true h = ap {B = List B} (λ zs. f x ∷ zs) h
    go false h = h

-- An element for which the test holds is selected.
pub in_selected : {A : Type 0} (test : A → Bool) (x : A) (xs : List A) → In x xs → test x ≡ true → In x (selected test xs)
unfolding selected
in_selected test x (y ∷ ys) first e = rw (e, selected) first
in_selected {A} test x (y ∷ ys) (later i) e = go (test y) (in_selected test x ys i e)
  where
    go : (b : Bool) → In x (selected test ys) → In x (elim b [ true ↦ y ∷ selected test ys | false ↦ selected test ys ])
    go true i = later i
    go false i = i
in_selected test x [] i e = elim i [ ]

-- What is selected is an element.
pub selected_in : {A : Type 0} (test : A → Bool) (x : A) (xs : List A) → In x (selected test xs) → In x xs
unfolding selected
selected_in {A} test x (y ∷ ys) i = go (test y) i (selected_in test x ys)
  where
    go : (b : Bool) → In x (elim b [ true ↦ y ∷ selected test ys | false ↦ selected test ys ])
        → (In x (selected test ys) → In x ys) → In x (y ∷ ys)
    go true i rest = in_more x y (selected test ys) ys rest i
    go false i rest = later (rest i)
selected_in test x [] i = elim i [ ]
