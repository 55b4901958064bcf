-- `FramesFound` after one more line of the catalog: the steps of `survey_catalog`.
use mathlib.Core.Path.{◌≡◌, ap, ◌∙◌}
use mathlib.Core.List.{List, [], ◌∷◌, ◌++◌}
use Prim.Native.Nat.{ℕ, ◌+◌, ◌-◌}
use native.Mathlib.Omega.{arith}
use lib.ListN.{length, length-append}
use Rattle.input.specs.Lines.{lines}
use Rattle.input.specs.Digits.{words_of}
use Rattle.input.specs.Parsing.{is_catalog_line, Input, refused, with_frame, map_from, catalog_from, parsed}
use Rattle.input.specs.InternalContracts.{SplitsInto, GoodLine, BadLine, bad, full, FramesFound}
use Rattle.input.proofs.GoodLines.{catalog_line}
use Rattle.input.proofs.LineSteps as steps

-- What the lines of the text `left` give, after `count` frames.
abbrev pub LeftIn : List ℕ → ℕ → ℕ → ℕ → Input
LeftIn left capacity count registers = catalog_from (count + 1) (capacity - count) registers (lines left)

-- The end of the text without an empty line.
pub at_end_lem : {text left : List ℕ} {capacity count : ℕ} → FramesFound text capacity count (LeftIn left capacity count) → left ≡ []
    → (registers : ℕ) → parsed text capacity registers ≡ refused 51 (count + 1)
unfolding catalog_from lines
at_end_lem {text} {left} {capacity} {count} found e registers = found.rest registers ∙ rw e

module _ {text left line after : List ℕ} {capacity count : ℕ} (s : SplitsInto left line after)
    (found : FramesFound text capacity count (LeftIn left capacity count)) where
  -- The step that the definition takes for the first of the lines that are left.
  goes : (registers : ℕ) {x : Input} → catalog_from (count + 1) (capacity - count) registers (line ∷ lines after) ≡ x
      → parsed text capacity registers ≡ with_frame found.catalog x
  goes registers e =
      found.rest registers
      ∙ ap (λ (ls : List (List ℕ)). with_frame found.catalog (catalog_from (count + 1) (capacity - count) registers ls)) s.same_lines
      ∙ ap (with_frame found.catalog) e

  pub at_empty : length line ≡ 0 → FramesFound text capacity count (λ registers. map_from (count + 2) registers (lines after))
  at_empty e =
      let two : count + 1 + 1 ≡ count + 2 = omega arith in
      record {
        catalog = found.catalog;
        full = found.full;
        fits = found.fits;
        rest = λ registers. goes registers (steps.catalog_empty (count + 1) (capacity - count) registers line (lines after) e) ∙ rw two;
      }

  module _ (some : length line ≡ 0 → ⊥) where
    pub at_bad : {x : Input} → BadLine (is_catalog_line line) 1 (capacity - count) (count + 1) x
        → (registers : ℕ) → parsed text capacity registers ≡ x
    at_bad (bad f) registers = goes registers (steps.catalog_bad (count + 1) (capacity - count) registers line (lines after) some f)
    at_bad (full t h) registers =
        goes registers (steps.catalog_full (count + 1) (capacity - count) registers line (lines after) some t (omega arith))

    pub at_frame : GoodLine (is_catalog_line line) 1 (capacity - count)
        → FramesFound text capacity (count + 1) (LeftIn after capacity (count + 1))
    at_frame g =
        let fewer : capacity - count - 1 ≡ capacity - (count + 1) = omega arith in
        record {
          catalog = found.catalog ++ words_of line;
          full = omega (arith, length-append found.catalog (words_of line), (catalog_line line g.good).1, found.full);
          fits = omega (arith, found.fits, g.fits);
          rest = λ registers.
              goes registers
              (steps.catalog_more (count + 1) (capacity - count) registers line (lines after) some g.good (λ z. omega (arith, g.fits)))
              ∙ steps.two_frames found.catalog (words_of line) (catalog_from (count + 1 + 1) (capacity - count - 1) registers (lines after))
              ∙ rw fewer;
        }

-- Those of the loop's body.
pub ruleset catalog_steps = (at_empty, at_frame)
