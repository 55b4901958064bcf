-- The steps of the definitions for one line.
use mathlib.Core.Path.{◌≡◌, refl, sym, ap}
use mathlib.Core.Bool.{true, false}
use mathlib.Core.List.{List, ◌∷◌, ◌++◌, append_assoc}
use Prim.Native.Nat.{ℕ, ◌+◌, ◌-◌, ◌≤◌, ◌<◌}
use borrow.Author.Tests.{eq-eqb, ne_eqb, lt-ltb, le-ltb}
use lib.ListN.{length}
use Rattle.input.specs.Digits.{words_of}
use Rattle.input.specs.Parsing.{is_catalog_line, is_map_line, Input, refused, words, with_frame, with_registers, map_from, catalog_from}

-- ---- One line

module _ (number frames registers : ℕ) (l : List ℕ) (ls : List (List ℕ)) where
  pub catalog_empty : length l ≡ 0 → catalog_from number frames registers (l ∷ ls) ≡ map_from (number + 1) registers ls
  unfolding catalog_from
  catalog_empty e = simp (catalog_from, eq-eqb (length l) 0 e)

  module _ (some : length l ≡ 0 → ⊥) where
    pub catalog_bad : is_catalog_line l ≡ false → catalog_from number frames registers (l ∷ ls) ≡ refused 50 number
    unfolding catalog_from
    catalog_bad f = simp (catalog_from, ne_eqb (length l) 0 some, f)

    pub catalog_full : is_catalog_line l ≡ true → frames ≡ 0 → catalog_from number frames registers (l ∷ ls) ≡ refused 52 number
    unfolding catalog_from
    catalog_full t z = simp (catalog_from, ne_eqb (length l) 0 some, t, eq-eqb frames 0 z)

    pub catalog_more : is_catalog_line l ≡ true → (frames ≡ 0 → ⊥)
        → catalog_from number frames registers (l ∷ ls) ≡ with_frame (words_of l) (catalog_from (number + 1) (frames - 1) registers ls)
    unfolding catalog_from
    catalog_more t n = simp (catalog_from, ne_eqb (length l) 0 some, t, ne_eqb frames 0 n)

module _ (number capacity : ℕ) (l : List ℕ) (ls : List (List ℕ)) where
  pub map_bad : is_map_line l ≡ false → map_from number capacity (l ∷ ls) ≡ refused 50 number
  unfolding map_from
  map_bad f = simp (map_from, f)

  module _ (t : is_map_line l ≡ true) where
    pub map_full : capacity < length (words_of l) → map_from number capacity (l ∷ ls) ≡ refused 52 number
    unfolding map_from
    map_full h = simp (map_from, t, lt-ltb _ _ h)

    pub map_more : length (words_of l) ≤ capacity
        → map_from number capacity (l ∷ ls) ≡ with_registers (words_of l) (map_from (number + 1) (capacity - length (words_of l)) ls)
    unfolding map_from
    map_more h = simp (map_from, t, le-ltb _ _ h)

-- ---- What was found before

pub two_frames : (a b : List ℕ) (x : Input) → with_frame a (with_frame b x) ≡ with_frame (a ++ b) x
two_frames a b (refused number place) = refl
two_frames a b (words catalog map) = ap (λ (ws : List ℕ). words ws map) (sym (append_assoc a b catalog))

pub two_registers : (a b : List ℕ) (x : Input) → with_registers a (with_registers b x) ≡ with_registers (a ++ b) x
two_registers a b (refused number place) = refl
two_registers a b (words catalog map) = ap (words catalog) (sym (append_assoc a b map))
