-- Blocks of values that are stored in a list: one after the other, or apart.
use mathlib.Core.Path.{◌≡◌, refl, sym, ap, ◌∙◌}
use mathlib.Core.List.{List, [], ◌∷◌, ◌++◌}
use mathlib.Core.Logic.{◌⊎◌, inl, inr, ⊎_elim}
use Prim.Native.Nat.{ℕ, suc, ◌+◌, ◌≤◌, ◌<◌}
use native.Mathlib.Nat.{add-zero}
use native.Mathlib.Omega.{arith}
use lib.ListN.{length, set}
use lib.Seq.{sets, set_comm}

-- Storing xs ++ ys is storing xs, and then ys after it.
pub sets_append : {A : Type 0} (l : List A) (i : ℕ) (xs ys : List A) → sets l i (xs ++ ys) ≡ sets (sets l i xs) (i + length xs) ys
sets_append l i [] ys = rw add-zero
sets_append l i (x ∷ xs) ys =
    let e : suc i + length xs ≡ i + suc (length xs) = omega arith in
    rw (← e) (sets_append (set l i x) (suc i) xs ys)

-- A value outside a block may be stored before the block or after it.
set_apart : {A : Type 0} (ys l : List A) (b a : ℕ) (x : A) → (a < b) ⊎ (b + length ys ≤ a)
    → set (sets l b ys) a x ≡ sets (set l a x) b ys
set_apart [] l b a x h = refl
set_apart (y ∷ ys) l b a x h =
    let other : b ≡ a → ⊥ = λ e. ⊎_elim (λ p. omega arith) (λ p. omega arith) h in
    let rest : (a < suc b) ⊎ (suc b + length ys ≤ a) = ⊎_elim (λ p. inl (omega arith)) (λ p. inr (omega arith)) h in
    set_apart ys (set l b y) (suc b) a x rest ∙ ap (λ l. sets l (suc b) ys) (set_comm l b a y x other)

-- Two blocks that do not overlap may be stored in either order.
pub sets_apart : {A : Type 0} (xs ys l : List A) (a b : ℕ) → (a + length xs ≤ b) ⊎ (b + length ys ≤ a)
    → sets (sets l a xs) b ys ≡ sets (sets l b ys) a xs
sets_apart [] ys l a b h = refl
sets_apart (x ∷ xs) ys l a b h =
    let here : (a < b) ⊎ (b + length ys ≤ a) = ⊎_elim (λ p. inl (omega arith)) (λ p. inr (omega arith)) h in
    let rest : (suc a + length xs ≤ b) ⊎ (b + length ys ≤ suc a) = ⊎_elim (λ p. inl (omega arith)) (λ p. inr (omega arith)) h in
    sets_apart xs ys (set l a x) (suc a) b rest ∙ ap (λ l. sets l (suc a) xs) (sym (set_apart ys l b a x here))
