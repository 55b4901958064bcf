-- `RegistersFound` after one more line of the map: the steps of `survey_map`.
use mathlib.Core.Path.{◌≡◌, ap, ◌∙◌}
use mathlib.Core.List.{List, [], ◌∷◌, ◌++◌}
use Prim.Native.Nat.{ℕ, ◌+◌, ◌-◌, ◌/◌}
use native.Mathlib.Omega.{arith}
use lib.ListN.{length, length-append}
use Rattle.input.specs.Lines.{lines}
use Rattle.input.specs.Digits.{words_of}
use Rattle.input.specs.Parsing.{is_map_line, Input, words, with_registers, map_from}
use Rattle.input.specs.InternalContracts.{SplitsInto, GoodLine, BadLine, bad, full, RegistersFound}
use Rattle.input.proofs.GoodLines.{words_length}
use Rattle.input.proofs.LineSteps as steps

-- What the lines of the text `left` give, from line `number` on and after `count` registers.
abbrev pub LeftIn : List ℕ → ℕ → ℕ → ℕ → Input
LeftIn left number capacity count = map_from number (capacity - count) (lines left)

-- The end of the text: all registers are found.
pub at_end_lem : {left : List ℕ} (number : ℕ) {all : Input} {capacity count : ℕ}
    → RegistersFound all capacity count (LeftIn left number capacity count) → left ≡ [] → RegistersFound all capacity count (words [] [])
unfolding map_from lines
at_end_lem number found e = record { map = found.map; full = found.full; fits = found.fits; rest = found.rest ∙ rw e }

module _ {left line after : List ℕ} (number : ℕ) {all : Input} {capacity count : ℕ} (s : SplitsInto left line after)
    (found : RegistersFound all capacity count (LeftIn left number capacity count)) where
  -- The step that the definition takes for the first of the lines that are left.
  goes : {x : Input} → map_from number (capacity - count) (line ∷ lines after) ≡ x → all ≡ with_registers found.map x
  goes e =
      found.rest
      ∙ ap (λ (ls : List (List ℕ)). with_registers found.map (map_from number (capacity - count) ls)) s.same_lines
      ∙ ap (with_registers found.map) e

  pub at_bad : {x : Input} → BadLine (is_map_line line) (length line / 4) (capacity - count) number x → all ≡ x
  at_bad (bad f) = goes (steps.map_bad number (capacity - count) line (lines after) f)
  at_bad (full t h) = goes (steps.map_full number (capacity - count) line (lines after) t (omega (arith, words_length line)))

  pub at_line : GoodLine (is_map_line line) (length line / 4) (capacity - count)
      → RegistersFound all capacity (count + length line / 4) (LeftIn after (number + 1) capacity (count + length line / 4))
  at_line g =
      let n = words_length line in
      let fewer : capacity - count - length (words_of line) ≡ capacity - (count + length line / 4) = omega arith in
      record {
        map = found.map ++ words_of line;
        full = omega (arith, length-append found.map (words_of line), found.full);
        fits = omega (arith, found.fits, g.fits);
        rest =
            goes (steps.map_more number (capacity - count) line (lines after) g.good (omega (arith, g.fits)))
            ∙ steps.two_registers found.map (words_of line) (map_from (number + 1) (capacity - count - length (words_of line)) (lines after))
            ∙ rw fewer;
      }

-- Those of the loop's body and of its end.
pub ruleset map_steps = (at_line, at_end_lem)
