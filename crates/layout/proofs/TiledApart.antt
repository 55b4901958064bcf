-- What tiling means for one element and for two: no element is outside the bounds, no two overlap, and they are in order. The last two
-- hold of all elements that rise.
use mathlib.Core.Path.{◌≡◌, refl, subst}
use mathlib.Core.List.{List, [], ◌∷◌, ◌++◌, append-nil}
use mathlib.Core.Logic.{◌⊎◌, inl, inr, ⊎_elim}
use Prim.Native.Nat.{ℕ, ◌+◌, ◌≤◌}
use native.Mathlib.Omega.{arith}
use lib.ListN.{length}
use Rattle.lists.specs.Members.{In, first, later}
use Rattle.lists.proofs.InLaws.{in_append_right}
use Rattle.layout.specs.Tiling.{Tiles, Rises}

module _ {A : Type 0} (at size : A → ℕ) where
  -- A tiling ends at or after its start,
  pub upward : (from to : ℕ) (xs : List A) → Tiles at size from to xs → from ≤ to
  upward from to [] t = omega (arith, t)
  upward from to (x ∷ xs) t = let r = upward (from + size x) to xs t.2 in omega arith

  -- with no more elements than registers.
  pub few : (from to : ℕ) (xs : List A) → Tiles at size from to xs → from + length xs ≤ to
  few from to [] t = omega (arith, t)
  few from to (x ∷ xs) t = let r = few (from + size x) to xs t.2 in omega (arith, t.1, r)

  -- Each element takes at least one register, and is within the bounds.
  pub inside : (from to : ℕ) (xs : List A) → Tiles at size from to xs → (x : A) → In x xs
      → (from ≤ at x) × (1 ≤ size x) × (at x + size x ≤ to)
  inside from to (y ∷ xs) t x first =
      let u = upward (from + size x) to xs t.2 in (omega (arith, t.0), t.1, omega (arith, t.0, u))
  inside from to (y ∷ xs) t x (later i) =
      let r = inside (from + size y) to xs t.2 x i in (omega (arith, r.0), r.1, r.2)
  inside from to [] t x i = elim i [ ]

  -- Elements that rise from `high` rise from any lower address.
  pub rises_lower : (low high : ℕ) (xs : List A) → low ≤ high → Rises at size high xs → Rises at size low xs
  rises_lower low high [] h r = tt
  rises_lower low high (x ∷ xs) h r = (omega (arith, h, r.0), r.1, r.2)

  -- A tiling rises, with elements after it that rise from its end.
  pub tiles_rise : (from to : ℕ) (xs ys : List A) → Tiles at size from to xs → Rises at size to ys → Rises at size from (xs ++ ys)
  tiles_rise from to [] ys t r = rises_lower from to ys (omega (arith, t)) r
  tiles_rise from to (x ∷ xs) ys t r =
      let rest = tiles_rise (from + size x) to xs ys t.2 r in
      let ends : at x + size x ≤ from + size x = omega (arith, t.0) in
      (omega (arith, t.0), t.1, rises_lower (at x + size x) (from + size x) (xs ++ ys) ends rest)

  -- So a tiling alone rises.
  pub tiling_rises : (from to : ℕ) (xs : List A) → Tiles at size from to xs → Rises at size from xs
  tiling_rises from to xs t = subst (Rises at size from) (append-nil xs) (tiles_rise from to xs [] t tt)

  -- Elements that rise begin at `from` or later, and each takes at least one register.
  pub above : (from : ℕ) (xs : List A) → Rises at size from xs → (x : A) → In x xs → (from ≤ at x) × (1 ≤ size x)
  above from (y ∷ xs) r x first = (r.0, r.1)
  above from (y ∷ xs) r x (later i) = let a = above (at y + size y) xs r.2 x i in (omega (arith, r.0, a.0), a.1)
  above from [] r x i = elim i [ ]

  -- Of two elements, one ends before the other begins, or they are the same.
  pub apart : (from : ℕ) (xs : List A) → Rises at size from xs → (x y : A) → In x xs → In y xs
      → (y ≡ x) ⊎ ((at y + size y ≤ at x) ⊎ (at x + size x ≤ at y))
  apart from (z ∷ xs) r x y first first = inl refl
  apart from (z ∷ xs) r x y first (later j) = inr (inr (above (at z + size z) xs r.2 y j).0)
  apart from (z ∷ xs) r x y (later i) first = inr (inl (above (at z + size z) xs r.2 x i).0)
  apart from (z ∷ xs) r x y (later i) (later j) = apart (at z + size z) xs r.2 x y i j
  apart from [] r x y i _ = elim i [ ]

  -- Elements that begin at the same address are the same.
  pub same_start : (from : ℕ) (xs : List A) → Rises at size from xs → (x y : A) → In x xs → In y xs → at y ≡ at x → y ≡ x
  same_start from xs r x y i j e =
      let a = (above from xs r x i).1 in
      let b = (above from xs r y j).1 in
      ⊎_elim (λ q. q) (⊎_elim (λ (h : at y + size y ≤ at x). absurd (omega (arith, h, e, b)))
      (λ (h : at x + size x ≤ at y). absurd (omega (arith, h, e, a)))) (apart from xs r x y i j)

  -- The elements are in the order of their addresses.
  pub in_order : (from : ℕ) (preceding : List A) (x : A) (between : List A) (y : A) (rest : List A)
      → Rises at size from (preceding ++ x ∷ (between ++ y ∷ rest)) → at x + size x ≤ at y
  in_order from [] x between y rest r =
      (above (at x + size x) (between ++ y ∷ rest) r.2 y (in_append_right y between (y ∷ rest) first)).0
  in_order from (z ∷ preceding) x between y rest r = in_order (at z + size z) preceding x between y rest r.2
