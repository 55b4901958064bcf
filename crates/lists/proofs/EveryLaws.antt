-- A test of every element of a list: of each of them, and of those from position i on.
use mathlib.Core.Path.{◌≡◌}
use mathlib.Core.Bool.{Bool, true, false}
use mathlib.Core.List.{List, [], ◌∷◌}
use Prim.Native.Nat.{ℕ, ◌+◌, ◌≤◌, ◌<◌}
use native.Mathlib.Numerals.{add-one}
use lib.Dec.{T}
use lib.Ieee.Fits.{and_l, and_r}
use lib.ListN.{length, get_or, drop, drop_of_length-le}
use lib.Seq.{drop-cons}
use Rattle.lists.specs.Each.{Each}
use Rattle.lists.specs.Tests.{every}
use Rattle.lists.proofs.TestOutcomes.{both}

-- A test of every element is a test of each.
pub every_each : {A : Type 0} (test : A → Bool) (xs : List A) → T (every test xs) → Each (λ x. T (test x)) xs
every_each test [] t = tt
every_each test (x ∷ xs) t = (and_l (test x) (every test xs) t, every_each test xs (and_r (test x) (every test xs) t))

-- The same with equations.
pub every_true : {A : Type 0} (test : A → Bool) (xs : List A) → every test xs ≡ true → Each (λ x. test x ≡ true) xs
every_true test [] e = tt
every_true test (x ∷ xs) e = let b = both (test x) (every test xs) e in (b.0, every_true test xs b.1)

module _ (test : ℕ → Bool) (xs : List ℕ) (i : ℕ) where
  pub every_on : i < length xs → test (get_or xs i 0) ≡ true → every test (drop i xs) ≡ every test (drop (i + 1) xs)
  every_on h e = rw (drop-cons xs i 0 h, add-one i) (simp e)

  pub every_not : i < length xs → test (get_or xs i 0) ≡ false → every test (drop i xs) ≡ false
  every_not h e = rw (drop-cons xs i 0 h) (simp e)

  pub every_end : length xs ≤ i → every test (drop i xs) ≡ true
  every_end h = rw (drop_of_length-le xs h)
