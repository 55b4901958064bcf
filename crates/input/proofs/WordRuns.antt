-- The words of a text's digits: four digits are a word, and a line feed before a word is skipped.
use mathlib.Core.Path.{◌≡◌, refl, sym, ap, ◌∙◌}
use mathlib.Core.List.{List, [], ◌∷◌, ◌++◌}
use Prim.Native.Nat.{ℕ, zero, suc, ◌+◌, ◌-◌, ◌*◌, ◌≤◌, ◌<◌}
use native.Mathlib.Numerals.{add-one}
use native.Mathlib.Omega.{arith}
use borrow.Author.Tests.{ne_eqb}
use lib.ListN.{length, get_or, take, drop, set, length-set}
use lib.Seq.{drop-cons, take-suc, take-suc-set}
use Rattle.lists.specs.Each.{Each}
use Rattle.lists.proofs.TestOutcomes.{impossible}
use Rattle.input.specs.Lines.{line_feed}
use Rattle.input.specs.Digits.{word, words_of}
use Rattle.input.specs.InternalContracts.{without_feed, word_then, words_from}
use Rattle.input.proofs.FirstLines.{NoFeed}

-- The first byte is not a line feed.
pub no_feed : (b : ℕ) (bs : List ℕ) → NoFeed b → without_feed (b ∷ bs) ≡ b ∷ bs
no_feed b bs n = simp (without_feed, ne_eqb b line_feed n)

-- A line of k words, and the text after it.
pub line_passed : (k n : ℕ) (line rest : List ℕ) → Each NoFeed line → length line ≡ 4 * k
    → words_from (k + n) (line ++ rest) ≡ words_of line ++ words_from n rest
unfolding words_from word_then words_of
line_passed zero n [] rest p h = let e : 0 + n ≡ n = omega arith in rw e
line_passed zero n (b ∷ line) rest p h = absurd (omega arith)
line_passed (suc k) n (a ∷ b ∷ c ∷ d ∷ line) rest p h =
    let more : suc k + n ≡ suc (k + n) = omega arith in
    rw (more, no_feed a (b ∷ c ∷ d ∷ (line ++ rest)) p.0)
    (ap (λ (ws : List ℕ). word a b c d ∷ ws) (line_passed k n line rest p.1.1.1.1 (omega arith)))
line_passed (suc k) n (a ∷ b ∷ c ∷ []) rest p h = absurd (omega arith)
line_passed (suc k) n (a ∷ b ∷ []) rest p h = absurd (omega arith)
line_passed (suc k) n (a ∷ []) rest p h = absurd (omega arith)
line_passed (suc k) n [] rest p h = absurd (omega arith)

-- LF before a text that does not begin with one is skipped.
pub feed_passed : (n b : ℕ) (bs : List ℕ) → NoFeed b → words_from n (line_feed ∷ b ∷ bs) ≡ words_from n (b ∷ bs)
unfolding words_from
feed_passed zero b bs p = refl
feed_passed (suc n) b bs p = rw (no_feed b bs p)

-- ---- Storing

-- `whole` is to be stored in `out`: k words are, and `rest` has the digits of the others.
pub record StoredSoFar (whole out rest : List ℕ) (k : ℕ) : Type 0 where
  pub as_long : length out ≡ length whole
  pub done : take k out ≡ take k whole
  pub left : words_from (length whole - k) rest ≡ drop k whole

-- The word of four digits.
abbrev word_of : List ℕ → ℕ
word_of digits = word (get_or digits 0 0) (get_or digits 1 0) (get_or digits 2 0) (get_or digits 3 0)

-- The first word of a text that has one.
first_word : (next : List ℕ → List ℕ) (t : List ℕ) (w : ℕ) (ws : List ℕ) → word_then next t ≡ w ∷ ws
    → (4 ≤ length t) × (w ≡ word_of (take 4 t)) × (next (drop 4 t) ≡ ws)
unfolding word_then
first_word next (a ∷ b ∷ c ∷ d ∷ bs) w ws e = (omega arith, (cc), (cc))
first_word next (a ∷ b ∷ c ∷ []) w ws e = impossible (cc)
first_word next (a ∷ b ∷ []) w ws e = impossible (cc)
first_word next (a ∷ []) w ws e = impossible (cc)
first_word next [] w ws e = impossible (cc)

module _ {whole out rest : List ℕ} {k : ℕ} (s : StoredSoFar whole out rest k) (more : k < length out) where
  next_word : (4 ≤ length (without_feed rest))
      × (get_or whole k 0 ≡ word_of (take 4 (without_feed rest)))
      × (words_from (length whole - (k + 1)) (drop 4 (without_feed rest)) ≡ drop (k + 1) whole)
  unfolding words_from
  next_word =
      let m = length whole - (k + 1) in
      let one : length whole - k ≡ suc m = omega (arith, s.as_long) in
      let left : drop k whole ≡ get_or whole k 0 ∷ drop (suc k) whole = drop-cons whole k 0 (omega (arith, s.as_long)) in
      first_word (words_from m) (without_feed rest) (get_or whole k 0) (drop (k + 1) whole)
      (ap (λ (n : ℕ). words_from n rest) (sym one) ∙ s.left ∙ left ∙ rw (add-one k))

  pub four_fit : 4 ≤ length (without_feed rest)
  four_fit = next_word.0

  pub word_stored : {digits after : List ℕ} {v : ℕ} → digits ≡ take 4 (without_feed rest) → after ≡ drop 4 (without_feed rest)
      → v ≡ word_of digits → StoredSoFar whole (set out k v) after (k + 1)
  word_stored {digits} {after} {v} d a e =
      let same : v ≡ get_or whole k 0 = e ∙ ap word_of d ∙ sym next_word.1 in
      record {
        as_long = length-set out k v ∙ s.as_long;
        done = rw (add-one k, take-suc-set out k v more, take-suc whole k 0 (omega (arith, s.as_long)), s.done, same);
        left = rw a next_word.2;
      }
