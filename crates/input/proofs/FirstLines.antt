-- A text is its first line and the lines after it.
use mathlib.Core.Path.{◌≡◌, refl, sym, ap, ◌∙◌}
use mathlib.Core.Bool.{Bool, true, false}
use mathlib.Core.List.{List, [], ◌∷◌, ◌++◌}
use Prim.Native.Nat.{ℕ, zero, suc, ◌+◌, ◌<◌}
use native.Mathlib.Numerals.{add-one}
use native.Mathlib.Omega.{arith}
use borrow.Author.Tests.{eq-eqb, ne_eqb, eqb-true, eqb-false}
use lib.Dec.{eqb}
use lib.ListN.{length, get_or, take, drop}
use Rattle.lists.specs.Each.{Each}
use Rattle.lists.proofs.TestOutcomes.{impossible}
use Rattle.input.specs.Lines.{lines, with_byte, line_feed}

-- Not the byte that ends a line.
abbrev pub NoFeed : ℕ → Type 0
NoFeed b = b ≡ line_feed → ⊥

-- The lines by the text's first byte.
lines_feed : (b : ℕ) (bs : List ℕ) → b ≡ line_feed → lines (b ∷ bs) ≡ [] ∷ lines bs
unfolding lines
lines_feed b bs e = simp (lines, eq-eqb b line_feed e)

lines_byte : (b : ℕ) (bs : List ℕ) → NoFeed b → lines (b ∷ bs) ≡ with_byte b (lines bs)
unfolding lines
lines_byte b bs n = simp (lines, ne_eqb b line_feed n)

-- The first LF is at position i.
pub line_at : (t : List ℕ) (i : ℕ) → i < length t → get_or t i 0 ≡ line_feed → ((k : ℕ) → k < i → NoFeed (get_or t k 0))
    → lines t ≡ take i t ∷ lines (drop (i + 1) t)
line_at [] i h e n = absurd (omega arith)
line_at (b ∷ bs) zero h e n = lines_feed b bs e
line_at (b ∷ bs) (suc i) h e n =
    let first : NoFeed b = n 0 (omega arith) in
    let later : lines bs ≡ take i bs ∷ lines (drop (i + 1) bs) = line_at bs i (omega arith) e (λ k g. n (suc k) (omega arith)) in
    lines_byte b bs first ∙ ap (with_byte b) later ∙ rw (add-one i, add-one (suc i))

-- There is no LF: the text is one line.
pub one_line : (t : List ℕ) → 0 < length t → ((k : ℕ) → k < length t → NoFeed (get_or t k 0)) → lines t ≡ t ∷ []
unfolding lines
one_line [] h n = absurd (omega arith)
one_line (b ∷ []) h n = lines_byte b [] (n 0 (omega arith))
one_line (b ∷ c ∷ bs) h n =
    let later : lines (c ∷ bs) ≡ (c ∷ bs) ∷ [] = one_line (c ∷ bs) (omega arith) (λ k g. n (suc k) (omega arith)) in
    lines_byte b (c ∷ bs) (n 0 (omega arith)) ∙ ap (with_byte b) later

-- What follows a line: nothing, if the text ends; or LF and the text of the other lines.
pub data After : List ℕ → List (List ℕ) → Type 0 where
  ended : After [] []
  further : (t : List ℕ) → After (line_feed ∷ t) (lines t)

-- A text whose first line is `line`, and whose other lines are `others`.
pub record FirstLine (t line : List ℕ) (others : List (List ℕ)) : Type 0 where
  pub rest : List ℕ
  pub joined : t ≡ line ++ rest
  pub plain : Each NoFeed line
  pub after : After rest others

no_text : (t : List ℕ) → lines t ≡ [] → t ≡ []
unfolding lines
no_text [] e = refl
no_text (b ∷ bs) e = go (eqb b line_feed) refl (lines bs) refl
  where
    go : (f : Bool) → eqb b line_feed ≡ f → (ls : List (List ℕ)) → lines bs ≡ ls → b ∷ bs ≡ []
    go true q ls d = let s = lines_feed b bs (eqb-true b line_feed q) in impossible (cc)
    go false q [] d = let s = lines_byte b bs (eqb-false b line_feed q) ∙ ap (with_byte b) d in impossible (cc)
    go false q (l ∷ ls) d = let s = lines_byte b bs (eqb-false b line_feed q) ∙ ap (with_byte b) d in impossible (cc)

pub first_line : (t line : List ℕ) (others : List (List ℕ)) → lines t ≡ line ∷ others → FirstLine t line others
unfolding lines
first_line [] line others e = impossible (cc)
first_line (b ∷ bs) line others e = go (eqb b line_feed) refl (lines bs) refl (first_line bs)
  where
    go : (f : Bool) → eqb b line_feed ≡ f → (ls : List (List ℕ)) → lines bs ≡ ls
        → ((l : List ℕ) (ks : List (List ℕ)) → lines bs ≡ l ∷ ks → FirstLine bs l ks) → FirstLine (b ∷ bs) line others
    go true q ls d later =
        let feed : b ≡ line_feed = eqb-true b line_feed q in
        let s : [] ∷ lines bs ≡ line ∷ others = sym (lines_feed b bs feed) ∙ e in
        let empty : [] ≡ line = cc in
        let same : lines bs ≡ others = cc in
        rw (← empty, ← same) (record { rest = line_feed ∷ bs; joined = ap (λ (x : ℕ). x ∷ bs) feed; plain = tt; after = further bs })
    go false q [] d later =
        let n = eqb-false b line_feed q in
        let s : (b ∷ []) ∷ [] ≡ line ∷ others = sym (lines_byte b bs n ∙ ap (with_byte b) d) ∙ e in
        let single : b ∷ [] ≡ line = cc in
        let none : [] ≡ others = cc in
        rw (← single, ← none) (record { rest = []; joined = ap (λ (x : List ℕ). b ∷ x) (no_text bs d); plain = (n, tt); after = ended })
    go false q (l ∷ ls) d later =
        let n = eqb-false b line_feed q in
        let s : (b ∷ l) ∷ ls ≡ line ∷ others = sym (lines_byte b bs n ∙ ap (with_byte b) d) ∙ e in
        let longer : b ∷ l ≡ line = cc in
        let same : ls ≡ others = cc in
        let f = later l ls d in
        rw (← longer, ← same) (record { rest = f.rest; joined = ap (λ (x : List ℕ). b ∷ x) f.joined; plain = (n, f.plain); after = f.after })
