-- Laws of `Each` and `Ordered`: a fact about each element of a list, and about each two of them in their order.
use mathlib.Core.List.{List, [], ◌∷◌, ◌++◌, map}
use Prim.Native.Nat.{ℕ, zero, suc}
use lib.ListN.{take, drop}
use Rattle.lists.specs.Each.{Each, Ordered}
use Rattle.lists.specs.Members.{In, first, later}

-- A fact that follows from P for every x holds of each element.
pub each_implied : {A : Type 0} (P Q : A → Type 0) → ((x : A) → P x → Q x) → (xs : List A) → Each P xs → Each Q xs
each_implied P Q f [] e = tt
each_implied P Q f (x ∷ xs) e = (f x e.0, each_implied P Q f xs e.1)

-- Each element of two lists, appended, and taken apart again.
pub each_append : {A : Type 0} (P : A → Type 0) (xs ys : List A) → Each P xs → Each P ys → Each P (xs ++ ys)
each_append P [] ys e f = f
each_append P (x ∷ xs) ys e f = (e.0, each_append P xs ys e.1 f)

pub each_parts : {A : Type 0} (P : A → Type 0) (xs ys : List A) → Each P (xs ++ ys) → Each P xs × Each P ys
each_parts P [] ys e = (tt, e)
each_parts P (x ∷ xs) ys e = let r = each_parts P xs ys e.1 in ((e.0, r.0), r.1)

-- A fact about each element holds of any member.
pub each_one : {A : Type 0} (P : A → Type 0) (xs : List A) → Each P xs → (x : A) → In x xs → P x
each_one P (y ∷ ys) e x first = e.0
each_one P (y ∷ ys) e x (later i) = each_one P ys e.1 x i
each_one P [] e x i = elim i [ ]

-- A fact that holds of every member holds of each element.
pub each_any : {A : Type 0} (P : A → Type 0) (xs : List A) → ((x : A) → In x xs → P x) → Each P xs
each_any P [] f = tt
each_any P (x ∷ xs) f = (f x first, each_any P xs (λ y i. f y (later i)))

-- Each of the first i elements, and each after them.
pub each_take : {A : Type 0} (P : A → Type 0) (i : ℕ) (xs : List A) → Each P xs → Each P (take i xs)
each_take P zero xs e = tt
each_take P (suc i) [] e = tt
each_take P (suc i) (x ∷ xs) e = (e.0, each_take P i xs e.1)

pub each_drop : {A : Type 0} (P : A → Type 0) (i : ℕ) (xs : List A) → Each P xs → Each P (drop i xs)
each_drop P zero xs e = e
each_drop P (suc i) [] e = tt
each_drop P (suc i) (x ∷ xs) e = each_drop P i xs e.1

-- One element is replaced.
pub each_replaced : {A : Type 0} (P : A → Type 0) (preceding following : List A) (x y : A) → (P x → P y) → Each P (preceding ++ x ∷ following)
    → Each P (preceding ++ y ∷ following)
each_replaced P [] following x y f e = (f e.0, e.1)
each_replaced P (z ∷ preceding) following x y f e = (e.0, each_replaced P preceding following x y f e.1)

-- Each element of a mapped list.
pub each_map : {A B : Type 0} (P : B → Type 0) (f : A → B) (xs : List A) → Each (λ x. P (f x)) xs → Each P (map f xs)
each_map P f [] e = tt
each_map P f (x ∷ xs) e = (e.0, each_map P f xs e.1)

-- A fact that holds of everything holds of each element.
pub each_all : {A : Type 0} (P : A → Type 0) → ((x : A) → P x) → (xs : List A) → Each P xs
each_all P f [] = tt
each_all P f (x ∷ xs) = (f x, each_all P f xs)

-- A relation that follows from R holds of each element and every element after it.
pub ordered_implied : {A : Type 0} (R Q : A → A → Type 0) → ((x y : A) → R x y → Q x y) → (xs : List A) → Ordered R xs → Ordered Q xs
ordered_implied R Q f [] o = tt
ordered_implied R Q f (x ∷ xs) o = (each_implied (R x) (Q x) (f x) xs o.0, ordered_implied R Q f xs o.1)
