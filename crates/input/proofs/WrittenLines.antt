-- Words written as lines: the text has exactly these lines, each is good, and each gives its words.
use mathlib.Core.Path.{◌≡◌, refl, sym, ap, ◌∙◌}
use mathlib.Core.Bool.{true, false}
use mathlib.Core.List.{List, [], ◌∷◌, ◌++◌, append_assoc}
use Prim.Native.Nat.{ℕ, suc, ◌+◌, ◌-◌, ◌%◌, ◌≤◌}
use native.Mathlib.Omega.{arith}
use borrow.Author.Tests.{eq-eqb, ne_eqb, le-leb, le-ltb}
use lib.Dec.{eqb}
use lib.ListN.{length, take, drop}
use Rattle.lists.proofs.TestOutcomes.{clash, both}
use Rattle.registers.specs.Registers.{AreRegisters}
use Rattle.registers.proofs.RegisterParts.{first_registers}
use Rattle.input.specs.Lines.{line_feed, with_byte, lines}
use Rattle.input.specs.Digits.{digit_value, is_digit, are_digits}
use Rattle.input.specs.Parsing.{is_catalog_line, is_map_line, with_frame, with_registers, map_from, catalog_from}
use Rattle.input.specs.Writing.{hex_digits, lines_of_words}
use Rattle.input.proofs.DigitsBack.{words_back, are_digits_lem, digits_length}

-- ---- Lines

-- A digit is not LF.
no_line_feed : (b : ℕ) → is_digit b ≡ true → eqb b line_feed ≡ false
unfolding is_digit digit_value
no_line_feed b e = ne_eqb b line_feed (λ q. clash (sym (rw q at e)))

-- A byte other than LF begins the first line.
next_byte : (b : ℕ) (bs : List ℕ) → eqb b line_feed ≡ false → lines (b ∷ bs) ≡ with_byte b (lines bs)
unfolding lines
next_byte b bs e = rw (e, lines)

-- Digits up to LF are a line.
line_back : (l rest : List ℕ) → are_digits l ≡ true → lines (l ++ line_feed ∷ rest) ≡ l ∷ lines rest
unfolding lines
line_back [] rest e = refl
line_back (b ∷ l) rest e =
    let d = both (is_digit b) (are_digits l) e in
    next_byte b (l ++ line_feed ∷ rest) (no_line_feed b d.0) ∙ ap (with_byte b) (line_back l rest d.1)

-- The first line that `lines_of_words` writes.
pub first_line_lem : (count width : ℕ) (ws rest : List ℕ) → AreRegisters ws
    → lines (lines_of_words (suc count) width ws ++ rest)
    ≡ hex_digits (take width ws) ∷ lines (lines_of_words count width (drop width ws) ++ rest)
unfolding lines_of_words
first_line_lem count width ws rest small =
    let following = lines_of_words count width (drop width ws) ++ rest in
    rw append_assoc (line_back (hex_digits (take width ws)) following (are_digits_lem (take width ws) (first_registers width ws small)))

-- ---- What a line gives

module _ (ws : List ℕ) (small : AreRegisters ws) (number : ℕ) (ls : List (List ℕ)) where
  -- 1 to 16 words as a line of the map.
  pub registers_back : (capacity : ℕ) → 1 ≤ length ws → length ws ≤ 16 → length ws ≤ capacity
      → map_from number capacity (hex_digits ws ∷ ls) ≡ with_registers ws (map_from (number + 1) (capacity - length ws) ls)
  unfolding map_from
  registers_back capacity low high fits =
      let n = digits_length ws in
      let good : is_map_line (hex_digits ws) ≡ true =
      simp (
        le-leb 4 (length (hex_digits ws)) (omega arith),
        le-leb (length (hex_digits ws)) 64 (omega arith),
        eq-eqb (length (hex_digits ws) % 4) 0 (omega arith),
        are_digits_lem ws small,
      ) in
      simp (map_from, good, words_back ws small, le-ltb capacity (length ws) fits)

  -- 8 words as a line of the catalog.
  pub frame_back : (frames registers : ℕ) → length ws ≡ 8 → 1 ≤ frames
      → catalog_from number frames registers (hex_digits ws ∷ ls)
      ≡ with_frame ws (catalog_from (number + 1) (frames - 1) registers ls)
  unfolding catalog_from
  frame_back frames registers e fits =
      let n = digits_length ws in
      let filled : eqb (length (hex_digits ws)) 0 ≡ false = ne_eqb (length (hex_digits ws)) 0 (λ z. omega arith) in
      let good : is_catalog_line (hex_digits ws) ≡ true =
      simp (eq-eqb (length (hex_digits ws)) 32 (omega arith), are_digits_lem ws small) in
      simp (catalog_from, filled, good, words_back ws small, ne_eqb frames 0 (λ z. omega arith))
