-- Which lines are good, and how many words a good line holds.
use mathlib.Core.Path.{◌≡◌, refl, ap}
use mathlib.Core.Bool.{true, false}
use mathlib.Core.List.{List, [], ◌∷◌, ◌++◌}
use Prim.Native.Nat.{ℕ, ◌*◌, ◌/◌, ◌≤◌, ◌<◌}
use native.Mathlib.Omega.{arith}
use lib.Dec.{eqb}
use lib.ListN.{length}
use Rattle.std.proofs.lemmas.Bool.Decides.{nat_tests}
use Rattle.input.specs.Digits.{word, words_of}
use Rattle.input.specs.Parsing.{is_catalog_line, is_map_line}

-- Four digits a word.
pub words_length : (l : List ℕ) → length (words_of l) ≡ length l / 4
unfolding words_of
words_length (a ∷ b ∷ c ∷ d ∷ bs) = let e = words_length bs in omega arith
words_length (a ∷ b ∷ c ∷ []) = refl
words_length (a ∷ b ∷ []) = refl
words_length (a ∷ []) = refl
words_length [] = refl

-- The words of whole fours of digits, followed by `more`.
pub words_after : (fours more : List ℕ) → length fours ≡ 4 * length (words_of fours)
    → words_of (fours ++ more) ≡ words_of fours ++ words_of more
unfolding words_of
words_after (a ∷ b ∷ c ∷ d ∷ bs) more e = ap {B = List ℕ} (λ ws. word a b c d ∷ ws) (words_after bs more (omega arith))
words_after (a ∷ b ∷ c ∷ []) more e = absurd (omega arith)
words_after (a ∷ b ∷ []) more e = absurd (omega arith)
words_after (a ∷ []) more e = absurd (omega arith)
words_after [] more e = refl

-- A good line of the catalog: 32 digits, 8 words.
pub catalog_line : (l : List ℕ) → is_catalog_line l ≡ true → (length l ≡ 32) × (length (words_of l) ≡ 8)
catalog_line l e = let n = words_length l in grind (arith, nat_tests)

-- A good line of the map: one word or more, four digits a word.
pub map_line : (l : List ℕ) → is_map_line l ≡ true → (1 ≤ length (words_of l)) × (length l ≡ 4 * length (words_of l))
map_line l e = let n = words_length l in grind (arith, nat_tests)

-- A line of more than 64 bytes is bad, in the catalog and in the map.
module _ (l : List ℕ) (h : 64 < length l) where
  pub not_empty_lem : eqb (length l) 0 ≡ false
  not_empty_lem = grind (arith, nat_tests)

  pub no_catalog_line : is_catalog_line l ≡ false
  no_catalog_line = grind (arith, nat_tests)

  pub no_map_line : is_map_line l ≡ false
  no_map_line = grind (arith, nat_tests)
