-- The elements of a list in another order, which is given by their positions.
use Rattle.std.specs.Prelude.{◌≡◌, Bool, true, List, map, ℕ, ◌<◌, length, get_or}
use Rattle.lists.specs.Each.{Each, Ordered}
use Rattle.lists.specs.Members.{In}

-- The elements of xs at the positions `order`. The first element has position 0; a position past the last gives `other`.
abbrev pub picked : {A : Type 0} → A → List A → List ℕ → List A
picked other xs order = map (λ i. get_or xs i other) order

-- Of any two positions in `order` whose elements are the same by a test, the lower one comes first.
abbrev pub KeepsOrder : {A : Type 0} → (A → A → Bool) → A → List A → List ℕ → Type 0
KeepsOrder same other xs = Ordered (λ i j. same (get_or xs i other) (get_or xs j other) ≡ true → i < j)

-- `order` rearranges xs: its positions are those of xs, every position of xs occurs in it, and elements that are the same by the test
-- keep their order. (If the test holds of each element and itself, no position occurs twice: `each_once`.)
pub record Rearranges {A : Type 0} (same : A → A → Bool) (other : A) (xs : List A) (order : List ℕ) : Type 0 where
  pub positions : Each (λ i. i < length xs) order
  pub all : (i : ℕ) → i < length xs → In i order
  pub keeps : KeepsOrder same other xs order
