-- The inserted models before an address of a lengthened map: those of the gaps before the model that contains the address.
use mathlib.Core.Path.{◌≡◌, refl, sym, ap, ◌∙◌}
use mathlib.Core.List.{List, [], ◌∷◌, ◌++◌}
use Prim.Native.Nat.{ℕ, ◌+◌, ◌≤◌, ◌<◌}
use native.Mathlib.Omega.{arith}
use borrow.Author.Tests.{le-leb, lt-leb}
use lib.ListN.{length, take, drop, take-append-drop, length-drop}
use lib.Seq.{length-take-le}
use Rattle.register_map.specs.Scan.{Model, size_of, total_size}
use Rattle.register_map.specs.Insertion.{Placed, kept, inserted, with_inserted, placed, before, gaps_before}
use Rattle.register_map.proofs.PlacedModels.{size_append}

-- An inserted model that is before the address, and one that is not.
module _ (at : ℕ) (m : Model) (ps : List Placed) (address : ℕ) where
  is_before : at + size_of m ≤ address → before at (inserted m ∷ ps) address ≡ m ∷ before (at + size_of m) ps address
  unfolding before
  is_before h = simp (before, le-leb _ _ h)

  not_before : address < at + size_of m → before at (inserted m ∷ ps) address ≡ before (at + size_of m) ps address
  unfolding before
  not_before h = simp (before, lt-leb _ _ h)

-- No model is before `address` if the models begin at `address - 1` or later.
pub before_none : (at : ℕ) (ps : List Placed) (address : ℕ) → address < at + 2 → before at ps address ≡ []
unfolding before
before_none at [] address h = refl
before_none at (kept m ∷ ps) address h = before_none (at + size_of m) ps address (omega arith)
before_none at (inserted m ∷ ps) address h =
    let g : address < at + size_of m = omega arith in
    not_before at m ps address g ∙ before_none (at + size_of m) ps address (omega arith)

-- The models of a gap before the address.
before_gap : (gap : List Model) (ps : List Placed) (at next address : ℕ) → next ≡ at + total_size gap → next ≤ address
    → before at (with_inserted gap ps) address ≡ gap ++ before next ps address
before_gap [] ps at next address e h = let q : at ≡ next = omega arith in rw q
before_gap (m ∷ gap) ps at next address e h =
    let l : at + size_of m ≤ address = omega arith in
    is_before at m (with_inserted gap ps) address l
    ∙ ap {B = List Model} (λ ms. m ∷ ms) (before_gap gap ps (at + size_of m) next address (omega arith) h)

-- If there are no gaps, no inserted model is before the address.
pub before_no_gaps : (ms : List Model) (at address : ℕ) → before at (placed ms []) address ≡ []
unfolding before placed
before_no_gaps [] at address = refl
before_no_gaps (m ∷ ms) at address = before_no_gaps ms (at + size_of m) address

module _ (m : Model) (ms : List Model) (at address : ℕ) where
  -- No inserted model is before an address in the first model, or in the two registers after it.
  pub before_first : (gaps : List (List Model)) → address < at + size_of m + 2 → before at (placed (m ∷ ms) gaps) address ≡ []
  unfolding before placed
  before_first [] h = before_none (at + size_of m) (placed ms []) address h
  before_first (gap ∷ gaps) h = before_none (at + size_of m) (with_inserted gap (placed ms gaps)) address h

  -- The models of the first gap are before an address past the gap.
  pub before_next : (gap : List Model) (gaps : List (List Model)) → at + size_of m + total_size gap ≤ address
      → before at (placed (m ∷ ms) (gap ∷ gaps)) address
      ≡ gap ++ before (at + size_of m + total_size gap) (placed ms gaps) address
  unfolding before placed
  before_next gap gaps h = before_gap gap (placed ms gaps) (at + size_of m) (at + size_of m + total_size gap) address refl h

-- Before an address in a model, its header included, or in the two registers after it, are the models of the gaps before the
-- model.
pub before_model : (preceding : List Model) (m : Model) (rest : List Model) (gaps : List (List Model)) (at header address : ℕ)
    → header ≡ at + total_size preceding + total_size (gaps_before (length preceding) gaps)
    → header ≤ address
    → address < header + size_of m + 2
    → before at (placed (preceding ++ m ∷ rest) gaps) address ≡ gaps_before (length preceding) gaps
unfolding gaps_before
before_model [] m rest gaps at header address e h g = before_first m rest at address gaps (omega arith)
before_model (f ∷ preceding) m rest [] at header address e h g = before_no_gaps (f ∷ preceding ++ m ∷ rest) at address
before_model (f ∷ preceding) m rest (gap ∷ gaps) at header address e h g =
    let s = size_append gap (gaps_before (length preceding) gaps) in
    let next = at + size_of f + total_size gap in
    before_next f (preceding ++ m ∷ rest) at address gap gaps (omega arith)
    ∙ ap (λ ms. gap ++ ms) (before_model preceding m rest gaps next header address (omega arith) h g)

-- The same for model i.
pub before_own : (ms : List Model) (gaps : List (List Model)) (i : ℕ) (m : Model) (rest : List Model) → drop i ms ≡ m ∷ rest
    → (at header address : ℕ) → header ≡ at + total_size (take i ms) + total_size (gaps_before i gaps) → header ≤ address
    → address < header + size_of m + 2 → before at (placed ms gaps) address ≡ gaps_before i gaps
before_own ms gaps i m rest e at header address place low high =
    let l : i < length ms = omega (arith, ap length e, length-drop i ms) in
    let n : length (take i ms) ≡ i = length-take-le i ms (omega arith) in
    let s : take i ms ++ m ∷ rest ≡ ms = ap (λ ns. take i ms ++ ns) (sym e) ∙ take-append-drop i ms in
    let p : header ≡ at + total_size (take i ms) + total_size (gaps_before (length (take i ms)) gaps) = rw n place in
    rw n at (rw s at (before_model (take i ms) m rest gaps at header address p low high))

-- Before an address past all models are the models of all gaps.
pub before_end : (ms : List Model) (gaps : List (List Model)) (at address : ℕ)
    → at + total_size ms + total_size (gaps_before (length ms) gaps) ≤ address
    → before at (placed ms gaps) address ≡ gaps_before (length ms) gaps
unfolding gaps_before before placed
before_end [] gaps at address h = refl
before_end (m ∷ ms) [] at address h = before_no_gaps (m ∷ ms) at address
before_end (m ∷ ms) (gap ∷ gaps) at address h =
    let s = size_append gap (gaps_before (length ms) gaps) in
    before_next m ms at address gap gaps (omega arith)
    ∙ ap (λ ns. gap ++ ns) (before_end ms gaps (at + size_of m + total_size gap) address (omega arith))
