-- Laws of lists whose elements are related pair by pair.
use mathlib.Core.Path.{◌≡◌, refl, ◌∙◌}
use mathlib.Core.Bool.{Bool, true, false}
use mathlib.Core.List.{List, [], ◌∷◌, ◌++◌, map}
use mathlib.Core.Option.{Option, none, some}
use native.Mathlib.Omega.{arith}
use lib.ListN.{length}
use Rattle.lists.specs.Each.{Pairwise, Each}
use Rattle.lists.specs.Members.{In, first, later}
use Rattle.lists.specs.Tests.{first_with}
use Rattle.lists.proofs.FirstFound.{found_here, found_later}

module _ {A : Type 0} (R : A → A → Type 0) where
  -- Two such pairs of lists, appended.
  pub pairwise_append : (xs ys us vs : List A) → Pairwise R xs ys → Pairwise R us vs → Pairwise R (xs ++ us) (ys ++ vs)
  pairwise_append [] [] us vs p q = q
  pairwise_append [] (y ∷ ys) us vs p q = absurd p
  pairwise_append (x ∷ xs) [] us vs p q = absurd p
  pairwise_append (x ∷ xs) (y ∷ ys) us vs p q = (p.0, pairwise_append xs ys us vs p.1 q)

  -- A list is related to itself if each of its elements is.
  pub pairwise_same : (xs : List A) → ((x : A) → In x xs → R x x) → Pairwise R xs xs
  pairwise_same [] f = tt
  pairwise_same (x ∷ xs) f = (f x first, pairwise_same xs (λ y i. f y (later i)))

  -- Both lists have the same length.
  pub pairwise_length : (xs ys : List A) → Pairwise R xs ys → length ys ≡ length xs
  pairwise_length [] [] p = refl
  pairwise_length [] (y ∷ ys) p = absurd p
  pairwise_length (x ∷ xs) [] p = absurd p
  pairwise_length (x ∷ xs) (y ∷ ys) p = let e = pairwise_length xs ys p.1 in omega arith

  -- The elements at the same position are related.
  pub pairwise_at : (preceding preceding' : List A) (x y : A) (following following' : List A) → length preceding ≡ length preceding'
      → Pairwise R (preceding ++ x ∷ following) (preceding' ++ y ∷ following') → R x y
  pairwise_at [] [] x y following following' e p = p.0
  pairwise_at [] (g ∷ preceding') x y following following' e p = absurd (omega arith)
  pairwise_at (f ∷ preceding) [] x y following following' e p = absurd (omega arith)
  pairwise_at (f ∷ preceding) (g ∷ preceding') x y following following' e p =
      pairwise_at preceding preceding' x y following following' (omega arith) p.1

  -- What a test finds in two lists: a member of xs and an element related to it, or nothing in both.
  abbrev BothFound : (A → Bool) → List A → Option A → Option A → Type 0
  BothFound test xs none none = Unit {0}
  BothFound test xs none (some y) = ⊥
  BothFound test xs (some x) none = ⊥
  BothFound test xs (some x) (some y) = (In x xs) × (test x ≡ true) × R x y

  module _ (test : A → Bool) (same : (x y : A) → R x y → test y ≡ test x) where
    -- If a test has the same outcome on related elements, it finds related elements, or nothing in both lists.
    both_found : (xs ys : List A) → Pairwise R xs ys → BothFound test xs (first_with test xs) (first_with test ys)
    unfolding first_with
    both_found [] [] p = tt
    both_found [] (y ∷ ys) p = absurd p
    both_found (x ∷ xs) [] p = absurd p
    both_found (x ∷ xs) (y ∷ ys) p = go (test x) refl (first_with test xs) (first_with test ys) refl refl (both_found xs ys p.1)
      where
        more : (o q : Option A) → BothFound test xs o q → BothFound test (x ∷ xs) o q
        more none none f = tt
        more none (some v) f = absurd f
        more (some u) none f = absurd f
        more (some u) (some v) f = (later f.0, f.1, f.2)

        go : (b : Bool) → test x ≡ b → (o q : Option A) → first_with test xs ≡ o → first_with test ys ≡ q → BothFound test xs o q
            → BothFound test (x ∷ xs) (first_with test (x ∷ xs)) (first_with test (y ∷ ys))
        go true t o q e f rest =
            rw (found_here test x xs t, found_here test y ys (same x y p.0 ∙ t)) (first, t, p.0)
        go false t o q e f rest =
            rw (found_later test x xs t, found_later test y ys (same x y p.0 ∙ t), e, f) (more o q rest)

    -- So an element that it finds in the first list is related to what it finds in the second,
    pub pairwise_found : (xs ys : List A) → Pairwise R xs ys → (w : A) → first_with test xs ≡ some w
        → (s : A) × (first_with test ys ≡ some s) × R w s
    pairwise_found xs ys p w e = go (first_with test ys) refl (rw e at (both_found xs ys p))
      where
        go : (o : Option A) → first_with test ys ≡ o → BothFound test xs (some w) o → (s : A) × (first_with test ys ≡ some s) × R w s
        go none f b = absurd b
        go (some s) f b = (s, f, b.2)

    -- and a part of what it finds is the same in both, if it is the same in related elements.
    pub pairwise_same_part : {B : Type 0} (part : Option A → B) (xs ys : List A)
        → ((x y : A) → In x xs → R x y → test x ≡ true → part (some y) ≡ part (some x)) → Pairwise R xs ys
        → part (first_with test ys) ≡ part (first_with test xs)
    pairwise_same_part part xs ys same_part p = go (first_with test xs) (first_with test ys) (both_found xs ys p)
      where
        go : (o q : Option A) → BothFound test xs o q → part q ≡ part o
        go none none b = refl
        go none (some y) b = absurd b
        go (some x) none b = absurd b
        go (some x) (some y) b = same_part x y b.0 b.2 b.1

  -- A relation that follows from R for each pair holds pair by pair.
  pub pairwise_implied : (Q : A → A → Type 0) (xs ys : List A) → ((x y : A) → In x xs → R x y → Q x y) → Pairwise R xs ys
      → Pairwise Q xs ys
  pairwise_implied Q [] [] f p = tt
  pairwise_implied Q [] (y ∷ ys) f p = absurd p
  pairwise_implied Q (x ∷ xs) [] f p = absurd p
  pairwise_implied Q (x ∷ xs) (y ∷ ys) f p = (f x y first p.0, pairwise_implied Q xs ys (λ u v i. f u v (later i)) p.1)

-- The images of related elements are related.
pub pairwise_map : {A B : Type 0} (R : A → A → Type 0) (Q : B → B → Type 0) (f g : A → B)
    → ((x y : A) → R x y → Q (f x) (g y)) → (xs ys : List A) → Pairwise R xs ys → Pairwise Q (map f xs) (map g ys)
pairwise_map R Q f g h [] [] p = tt
pairwise_map R Q f g h [] (y ∷ ys) p = absurd p
pairwise_map R Q f g h (x ∷ xs) [] p = absurd p
pairwise_map R Q f g h (x ∷ xs) (y ∷ ys) p = (h x y p.0, pairwise_map R Q f g h xs ys p.1)

-- A fact about the first of each pair holds of each element of the first list.
pub each_first : {A : Type 0} (P : A → Type 0) (xs ys : List A) → Pairwise (λ x y. P x) xs ys → Each P xs
each_first P [] ys p = tt
each_first P (x ∷ xs) [] p = absurd p
each_first P (x ∷ xs) (y ∷ ys) p = (p.0, each_first P xs ys p.1)

-- An element of the first of two lists that are related pair by pair has a partner in the second.
pub pairwise_in : {A : Type 0} (R : A → A → Type 0) (xs ys : List A) → Pairwise R xs ys → (x : A) → In x xs
    → (y : A) × (In y ys) × R x y
pairwise_in R (x ∷ xs) [] p z i = absurd p
pairwise_in R (x ∷ xs) (y ∷ ys) p z first = (y, first, p.0)
pairwise_in R (x ∷ xs) (y ∷ ys) p z (later i) = let r = pairwise_in R xs ys p.1 z i in (r.0, later r.1, r.2)
pairwise_in R [] ys p z i = elim i [ ]
