-- Laws of `In`: the members of a list.
use mathlib.Core.Path.{◌≡◌, refl}
use mathlib.Core.List.{List, [], ◌∷◌, ◌++◌, map}
use mathlib.Core.Logic.{◌⊎◌, inl, inr}
use Rattle.lists.specs.Each.{Each}
use Rattle.lists.proofs.TestOutcomes.{impossible}
use Rattle.lists.specs.Members.{In, first, later}
use Rattle.lists.proofs.EachLaws.{each_implied}

module _ {A : Type 0} (x : A) where
  -- A member of one of two lists is a member of both appended.
  pub in_append_left : (xs ys : List A) → In x xs → In x (xs ++ ys)
  in_append_left (y ∷ xs) ys first = first
  in_append_left (y ∷ xs) ys (later i) = later (in_append_left xs ys i)
  in_append_left [] ys i = elim i [ ]

  pub in_append_right : (xs ys : List A) → In x ys → In x (xs ++ ys)
  in_append_right [] ys i = i
  in_append_right (y ∷ xs) ys i = later (in_append_right xs ys i)

  -- A member of two appended lists is a member of one of them.
  pub in_either : (xs ys : List A) {B : Type 0} → In x (xs ++ ys) → (In x xs → B) → (In x ys → B) → B
  in_either [] ys i f g = g i
  in_either (y ∷ xs) ys first f g = f first
  in_either (y ∷ xs) ys (later i) f g = in_either xs ys i (λ j. f (later j)) g

  -- A member of a list is its first element or a later one.
  pub in_cases : (y : A) (xs : List A) → In x (y ∷ xs) → (x ≡ y) ⊎ (In x xs)
  in_cases y xs first = inl refl
  in_cases y xs (later i) = inr i

  -- A member that is not the first element is a later one.
  pub in_later : (y : A) (xs : List A) → In x (y ∷ xs) → (x ≡ y → ⊥) → In x xs
  in_later y xs first n = absurd (n refl)
  in_later y xs (later i) n = i

-- Each element of a list is a member of it.
pub all_in : {A : Type 0} (xs : List A) → Each (λ y. In y xs) xs
all_in [] = tt
all_in (x ∷ xs) = (first, each_implied (λ y. In y xs) (λ y. In y (x ∷ xs)) (λ y i. later i) xs (all_in xs))

-- An empty list has no members.
pub not_in_none : {A B : Type 0} (x : A) (xs : List A) → xs ≡ [] → In x xs → B
not_in_none x (y ∷ ys) e i = impossible (cc)
not_in_none x [] e i = elim i [ ]

-- If a member of xs is one of ys, this stays so with the element y added to both lists.
pub in_more : {A : Type 0} (x y : A) (xs ys : List A) → (In x xs → In x ys) → In x (y ∷ xs) → In x (y ∷ ys)
in_more x y xs ys f first = first
in_more x y xs ys f (later i) = later (f i)

-- The image of a member is a member of the images.
pub in_map : {A B : Type 0} (f : A → B) (x : A) (xs : List A) → In x xs → In (f x) (map f xs)
in_map f x (y ∷ ys) first = first
in_map f x (y ∷ ys) (later i) = later (in_map f x ys i)
in_map f x [] i = elim i [ ]
