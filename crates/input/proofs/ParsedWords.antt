-- The words that a text gives are the words of its digits, with line feeds skipped.
use mathlib.Core.Path.{◌≡◌, refl, sym, ap, ◌∙◌}
use mathlib.Core.List.{List, [], ◌∷◌, ◌++◌}
use Prim.Native.Nat.{ℕ, ◌+◌, ◌-◌, ◌*◌}
use native.Mathlib.Omega.{arith}
use lib.Dec.{eqb, ltb}
use lib.ListN.{length, length-append}
use Rattle.lists.proofs.TestOutcomes.{impossible, by_test}
use Rattle.input.specs.Lines.{lines, line_feed}
use Rattle.input.specs.Digits.{words_of}
use Rattle.input.specs.Parsing.{is_catalog_line, is_map_line, Input, refused, words, with_frame, with_registers, map_from, catalog_from}
use Rattle.input.specs.InternalContracts.{words_from}
use Rattle.input.proofs.FirstLines.{After, FirstLine, first_line}
use Rattle.input.proofs.GoodLines.{catalog_line, map_line}
use Rattle.input.proofs.WordRuns.{line_passed, feed_passed}

-- The words that a text begins with are `ws`, also after an LF.
abbrev Holds : List ℕ → List ℕ → Type 0
Holds ws t = (words_from (length ws) t ≡ ws) × (words_from (length ws) (line_feed ∷ t) ≡ ws)

no_words : (t : List ℕ) → Holds [] t
unfolding words_from
no_words t = (refl, refl)

-- The words of a text whose first line has k words: that line's words, and those of the lines after it.
first_words : (t l : List ℕ) (ls : List (List ℕ)) (k : ℕ) (ws : List ℕ) → lines t ≡ l ∷ ls → length l ≡ 4 * (k + 1) → length (words_of l) ≡ k + 1
    → (ls ≡ [] → ws ≡ []) → ((u : List ℕ) → lines u ≡ ls → Holds ws u) → Holds (words_of l ++ ws) t
first_words t [] ls k ws e n m none rest = absurd (omega arith)
first_words t (b ∷ l) ls k ws e n m none rest = go f.rest f.after f.joined
  where
    f : FirstLine t (b ∷ l) ls
    f = first_line t (b ∷ l) ls e

    many : length (words_of (b ∷ l) ++ ws) ≡ k + 1 + length ws
    many = omega (arith, length-append (words_of (b ∷ l)) ws)

    left : (r : List ℕ) (ks : List (List ℕ)) → After r ks → ls ≡ ks → words_from (length ws) r ≡ ws
    left r ks After.ended q = rw (none q) (no_words []).0
    left r ks (After.further u) q = (rest u (sym q)).1

    go : (r : List ℕ) → After r ls → t ≡ b ∷ (l ++ r) → Holds (words_of (b ∷ l) ++ ws) t
    go r a q =
        let first : words_from (length (words_of (b ∷ l) ++ ws)) (b ∷ (l ++ r)) ≡ words_of (b ∷ l) ++ ws =
        ap (λ (n : ℕ). words_from n (b ∷ (l ++ r))) many
        ∙ line_passed (k + 1) (length ws) (b ∷ l) r f.plain n
        ∙ ap (λ (x : List ℕ). words_of (b ∷ l) ++ x) (left r ls a refl) in
        rw q (first, feed_passed (length (words_of (b ∷ l) ++ ws)) b (l ++ r) f.plain.0 ∙ first)

-- What `with_registers` and `with_frame` add can be taken off again.
registers_off : (ws : List ℕ) (x : Input) (c m : List ℕ) → with_registers ws x ≡ words c m → (n : List ℕ) × (x ≡ words c n) × (m ≡ ws ++ n)
registers_off ws (refused number place) c m e = impossible (cc)
registers_off ws (words catalog map) c m e = (map, (cc), (cc))

frame_off : (ws : List ℕ) (x : Input) (c m : List ℕ) → with_frame ws x ≡ words c m → (n : List ℕ) × (x ≡ words n m) × (c ≡ ws ++ n)
frame_off ws (refused number place) c m e = impossible (cc)
frame_off ws (words catalog map) c m e = (catalog, (cc), (cc))

-- The map's lines give an empty catalog.
map_only : (ls : List (List ℕ)) (number capacity : ℕ) (c m : List ℕ) → map_from number capacity ls ≡ words c m → c ≡ []
unfolding map_from
map_only [] number capacity c m = λ q. cc
map_only (l ∷ ls) number capacity c m =
    let Goal : Input → Type 0 = λ x. x ≡ words c m → c ≡ [] in
    by_test Goal (is_map_line l)
    (λ _. by_test Goal (ltb capacity (length (words_of l))) (λ _ q. impossible (cc))
    (λ _ q.
    let off = registers_off (words_of l) (map_from (number + 1) (capacity - length (words_of l)) ls) c m q in
    map_only ls (number + 1) (capacity - length (words_of l)) c off.0 off.1))
    (λ _ q. impossible (cc))

-- A map, or a catalog, without lines has no words.
no_map : (number capacity : ℕ) (ls : List (List ℕ)) (c m : List ℕ) → map_from number capacity ls ≡ words c m → ls ≡ [] → m ≡ []
unfolding map_from
no_map number capacity [] c m e n = cc
no_map number capacity (l ∷ ls) c m e n = impossible (cc)

no_catalog : (number frames registers : ℕ) (ls : List (List ℕ)) (c m : List ℕ) → catalog_from number frames registers ls ≡ words c m → ls ≡ []
    → c ≡ []
unfolding catalog_from
no_catalog number frames registers [] c m e n = impossible (cc)
no_catalog number frames registers (l ∷ ls) c m e n = impossible (cc)

pub map_words : (ls : List (List ℕ)) (t : List ℕ) (number capacity : ℕ) (c m : List ℕ) → lines t ≡ ls → map_from number capacity ls ≡ words c m
    → Holds m t
unfolding map_from
map_words [] t number capacity c m e = λ q. let z : m ≡ [] = cc in rw z (no_words t)
map_words (l ∷ ls) t number capacity c m e =
    let Goal : Input → Type 0 = λ x. x ≡ words c m → Holds m t in
    let next = number + 1 in
    let left = capacity - length (words_of l) in
    by_test Goal (is_map_line l)
    (λ good. by_test Goal (ltb capacity (length (words_of l))) (λ _ q. impossible (cc))
    (λ _ q.
    let off = registers_off (words_of l) (map_from next left ls) c m q in
    let line = map_line l good in
    let k = length (words_of l) - 1 in
    rw off.2
    (first_words t l ls k off.0 e (omega arith) (omega arith) (no_map next left ls c off.0 off.1)
    (λ u d. map_words ls u next left c off.0 d off.1))))
    (λ _ q. impossible (cc))

pub catalog_words : (ls : List (List ℕ)) (t : List ℕ) (number frames registers : ℕ) (c m : List ℕ) → lines t ≡ ls
    → catalog_from number frames registers ls ≡ words c m → Holds c t
unfolding catalog_from
catalog_words [] t number frames registers c m e = λ q. impossible (cc)
catalog_words (l ∷ ls) t number frames registers c m e =
    let Goal : Input → Type 0 = λ x. x ≡ words c m → Holds c t in
    let next = number + 1 in
    by_test Goal (eqb (length l) 0) (λ _ q. let z : c ≡ [] = map_only ls next registers c m q in rw z (no_words t))
    (λ _. by_test Goal (is_catalog_line l)
    (λ good. by_test Goal (eqb frames 0) (λ _ q. impossible (cc))
    (λ _ q.
    let off = frame_off (words_of l) (catalog_from next (frames - 1) registers ls) c m q in
    let line = catalog_line l good in
    rw off.2
    (first_words t l ls 7 off.0 e line.0 line.1 (no_catalog next (frames - 1) registers ls off.0 m off.1)
    (λ u d. catalog_words ls u next (frames - 1) registers off.0 m d off.1))))
    (λ _ q. impossible (cc)))
