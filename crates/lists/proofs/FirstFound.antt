-- Laws of `first_with`: the first element of a list for which a test holds.
use mathlib.Core.Path.{◌≡◌, refl, sym, ◌∙◌}
use mathlib.Core.Bool.{Bool, true, false}
use mathlib.Core.List.{List, [], ◌∷◌}
use mathlib.Core.Option.{none, some}
use Rattle.lists.proofs.TestOutcomes.{impossible}
use Rattle.lists.specs.Each.{Each}
use Rattle.lists.specs.Members.{In, first, later}
use Rattle.lists.specs.Tests.{first_with}

-- `none` is not `some x`: anything follows.
pub not_none : {A B : Type 0} {x : B} → none ≡ some x → A
not_none e = impossible (cc)

module _ {A : Type 0} (test : A → Bool) where
  -- The test holds for the first element: it is found.
  pub found_here : (x : A) (xs : List A) → test x ≡ true → first_with test (x ∷ xs) ≡ some x
  unfolding first_with
  found_here x xs e = rw (e, first_with)

  -- The test fails for the first element: the search continues in the rest.
  pub found_later : (x : A) (xs : List A) → test x ≡ false → first_with test (x ∷ xs) ≡ first_with test xs
  unfolding first_with
  found_later x xs e = rw (e, first_with)

  -- The element found is a member of the list, and the test holds for it.
  pub found_in : (xs : List A) (w : A) → first_with test xs ≡ some w → In w xs × (test w ≡ true)
  unfolding first_with
  found_in [] w e = not_none e
  found_in (x ∷ xs) w e = go (test x) refl (found_in xs w)
    where
      go : (b : Bool) → test x ≡ b → (first_with test xs ≡ some w → In w xs × (test w ≡ true)) → In w (x ∷ xs) × (test w ≡ true)
      go true t rest =
          let same : x ≡ w = cc (found_here x xs t) in
          (rw (← same) first, rw (← same) t)
      go false t rest =
          let r = rest (sym (found_later x xs t) ∙ e) in
          (later r.0, r.1)

  -- If nothing is found, the test fails for each element.
  pub none_found : (xs : List A) → first_with test xs ≡ none → Each (λ x. test x ≡ false) xs
  none_found [] e = tt
  none_found (x ∷ xs) e = go (test x) refl (none_found xs)
    where
      go : (b : Bool) → test x ≡ b → (first_with test xs ≡ none → Each (λ x. test x ≡ false) xs)
          → Each (λ x. test x ≡ false) (x ∷ xs)
      go true t rest = not_none (sym e ∙ found_here x xs t)
      go false t rest = (t, rest (sym (found_later x xs t) ∙ e))
