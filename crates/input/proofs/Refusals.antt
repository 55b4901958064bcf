-- What a text can give: proof of `Outcome`.
use mathlib.Core.Path.{◌≡◌, refl}
use mathlib.Core.List.{List, [], ◌∷◌, ◌++◌}
use Prim.Native.Nat.{ℕ, ◌+◌, ◌-◌, ◌≤◌}
use native.Mathlib.Omega.{arith}
use borrow.Author.Tests.{ltb-false, eqb-false}
use lib.Dec.{eqb, ltb}
use lib.ListN.{length, length-append}
use Rattle.lists.proofs.TestOutcomes.{by_test}
use Rattle.input.specs.Lines.{lines}
use Rattle.input.specs.Digits.{words_of}
use Rattle.input.specs.Parsing.{Input, is_catalog_line, is_map_line, with_frame, with_registers, map_from, catalog_from, parsed}
use Rattle.input.specs.Outcomes.{Outcome, bad_line, no_empty_line, too_many, given}
use Rattle.input.proofs.GoodLines.{catalog_line}

module _ (count frames registers : ℕ) where
  -- One frame before the rest.
  one_frame_more : (frame : List ℕ) {x : Input} → length frame ≡ 8 → (frames ≡ 0 → ⊥)
      → Outcome count (frames - 1) registers x
      → Outcome count frames registers (with_frame frame x)
  one_frame_more frame e n (bad_line p l h) = bad_line p l h
  one_frame_more frame e n (no_empty_line p q) = no_empty_line p q
  one_frame_more frame e n (too_many p l h) = too_many p l h
  one_frame_more frame e n (given catalog map k c f r) =
      let s = length-append frame catalog in
      given (frame ++ catalog) map (k + 1) (omega arith) (omega (arith, n)) r

  -- Registers before the rest.
  more_registers : (ws : List ℕ) {x : Input} → length ws ≤ registers
      → Outcome count frames (registers - length ws) x
      → Outcome count frames registers (with_registers ws x)
  more_registers ws e (bad_line p l h) = bad_line p l h
  more_registers ws e (no_empty_line p q) = no_empty_line p q
  more_registers ws e (too_many p l h) = too_many p l h
  more_registers ws e (given catalog map k c f r) =
      let s = length-append ws map in
      given catalog (ws ++ map) k c f (omega arith)

-- From line `number` on: of the map, and of the catalog.
map_outcome : (count frames number capacity : ℕ) (ls : List (List ℕ)) → 1 ≤ number → number + length ls ≡ count + 1
    → Outcome count frames capacity (map_from number capacity ls)
unfolding map_from
map_outcome count frames number capacity [] low e = given [] [] 0 refl (omega arith) (omega arith)
map_outcome count frames number capacity (l ∷ ls) low e =
    let P : Input → Type 0 = Outcome count frames capacity in
    let used = length (words_of l) in
    by_test P (is_map_line l) (λ good. by_test P (ltb capacity used) (λ full. too_many number low (omega arith)) (λ fits.
    more_registers count frames capacity (words_of l) (ltb-false capacity used fits)
    (map_outcome count frames (number + 1) (capacity - used) ls (omega arith) (omega arith))))
    (λ bad. bad_line number low (omega arith))

catalog_outcome : (count number frames registers : ℕ) (ls : List (List ℕ)) → 1 ≤ number → number + length ls ≡ count + 1
    → Outcome count frames registers (catalog_from number frames registers ls)
unfolding catalog_from
catalog_outcome count number frames registers [] low e = no_empty_line number (omega arith)
catalog_outcome count number frames registers (l ∷ ls) low e =
    let P : Input → Type 0 = Outcome count frames registers in
    by_test P (eqb (length l) 0)
    (λ empty. map_outcome count frames (number + 1) registers ls (omega arith) (omega arith))
    (λ filled. by_test P (is_catalog_line l) (λ good. by_test P (eqb frames 0) (λ full. too_many number low (omega arith)) (λ fits.
    one_frame_more count frames registers (words_of l) (catalog_line l good).1 (eqb-false frames 0 fits)
    (catalog_outcome count (number + 1) (frames - 1) registers ls (omega arith) (omega arith))))
    (λ bad. bad_line number low (omega arith)))

-- What a text gives is one of the outcomes for its lines.
pub outcome : (text : List ℕ) (frames registers : ℕ)
    → Outcome (length (lines text)) frames registers (parsed text frames registers)
outcome text frames registers =
    catalog_outcome (length (lines text)) 1 frames registers (lines text) (omega arith) (omega arith)
