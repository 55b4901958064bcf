-- The lines of the first n bytes of a text: those of the whole text up to the line with the cut.
use mathlib.Core.Path.{◌≡◌, refl}
use mathlib.Core.Bool.{Bool, true, false}
use mathlib.Core.List.{List, [], ◌∷◌, ◌++◌}
use Prim.Native.Nat.{ℕ, zero, suc, ◌+◌, ◌≤◌}
use native.Mathlib.Omega.{arith}
use lib.Dec.{eqb}
use lib.ListN.{length, take}
use Rattle.input.specs.Lines.{line_feed, with_byte, lines}

-- `Cut n ks ls`: ks are the lines of the first n bytes, ls those of the whole text. Nothing is cut off; everything is; the cut is in
-- the first line or at its end, and leaves n bytes of it; or the cut is after the first line and its LF.
pub data Cut : ℕ → List (List ℕ) → List (List ℕ) → Type 0 where
  whole : {n : ℕ} {ls : List (List ℕ)} → Cut n ls ls
  nothing : {ls : List (List ℕ)} → Cut 0 [] ls
  within : (n : ℕ) (part more : List ℕ) {ls : List (List ℕ)} → 1 ≤ n → n ≡ length part → Cut n (part ∷ []) ((part ++ more) ∷ ls)
  following : (n m : ℕ) (l : List ℕ) {ks ls : List (List ℕ)} → n ≡ length l + 1 + m → Cut m ks ls → Cut n (l ∷ ks) (l ∷ ls)

-- One byte more at the start of the first line.
longer : (b : ℕ) {n : ℕ} {ks ls : List (List ℕ)} → Cut n ks ls → Cut (suc n) (with_byte b ks) (with_byte b ls)
longer b whole = whole
longer b (nothing {ls = []}) = whole
longer b (nothing {ls = l ∷ ls}) = within 1 (b ∷ []) l (omega arith) refl
longer b (within n part more h e) = within (suc n) (b ∷ part) more (omega arith) (omega arith)
longer b (following n m l e c) = following (suc n) m (b ∷ l) (omega arith) c

-- Every text cut off after n bytes is one of these cases.
pub cut_lines : (n : ℕ) (text : List ℕ) → Cut n (lines (take n text)) (lines text)
unfolding lines
cut_lines zero text = nothing
cut_lines (suc n) [] = whole
cut_lines (suc n) (b ∷ text) = by_end (eqb b line_feed) (cut_lines n text)
  where
    by_end : (end : Bool) → Cut n (lines (take n text)) (lines text)
        → Cut
        (suc n)
        (elim end [ true ↦ [] ∷ lines (take n text) | false ↦ with_byte b (lines (take n text)) ])
        (elim end [ true ↦ [] ∷ lines text | false ↦ with_byte b (lines text) ])
    by_end true c = following (suc n) n [] (omega arith) c
    by_end false c = longer b c
