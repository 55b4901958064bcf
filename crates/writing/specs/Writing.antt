-- Writing a raw value to a point of a map (document 01, "Writing"): the answer, and the map after it.
use Rattle.std.specs.Prelude.{Bool, true, false, not, ◌&&◌, List, ℕ, eqb, ltb}
use Rattle.std.proofs.Math.Option.{Option, none, some}
use Rattle.std.proofs.lemmas.List.Edits.{sets}
use Rattle.registers.specs.Registers.{split, too_wide}
use Rattle.values.specs.Classes.{is_value, is_unimplemented_class}
use Rattle.catalog_frames.specs.Frames.{Point, read_only}
use Rattle.layout.specs.Points.{point_class}
use Rattle.listing.specs.Finding as Finding
use Rattle.listing.specs.Finding.{finding, Target, target_of}

-- Can point p hold `raw`? It must be a value of p's type, and not too wide for p's registers.
abbrev pub can_hold : Point → ℕ → Bool
can_hold p raw = is_value (point_class p raw) && not (too_wide p.size raw)

-- The refusal of a write to the target t, if there is one: the first that applies. 32: its access is R. 33: it takes over four
-- registers. 34: its present registers, joined, are unimplemented. 35: the new value is unimplemented, out of range or too wide.
unfoldable pub refusal : Target → ℕ → Option ℕ
refusal t raw =
    elim (eqb t.definition.access read_only) [
      | true ↦ some 32
      | false ↦ elim (ltb 4 t.definition.size) [
        | true ↦ some 33
        | false ↦ elim (is_unimplemented_class (point_class t.definition t.raw)) [
          | true ↦ some 34
          | false ↦ elim (can_hold t.definition raw) [ true ↦ none | false ↦ some 35 ]
        ]
      ]
    ]

-- The map with `raw` in the registers of the target, the highest first. Only these change. (They lie in the map: `record_inside` of
-- `listed_records`, proofs/RawValues.antt.)
unfoldable pub rewritten : Target → ℕ → List ℕ → List ℕ
rewritten t raw map = sets map t.address (split t.definition.size raw)

-- What a write results in: a refusal with its number and place, or the new map.
pub data Answer : Type 0 where
  refused : ℕ → ℕ → Answer
  written : List ℕ → Answer

-- Writing `raw` to a target that was found. 32 to 35 have place 0.
abbrev pub writing_to : Target → ℕ → List ℕ → Answer
writing_to t raw map = elim (refusal t raw) [ some n ↦ refused n 0 | none ↦ written (rewritten t raw map) ]

-- Writing `raw` to the point with this number and path, in the model with this index. Listing's refusals 1 to 29 come first, with
-- their place. 31: there is no such point; its place is 0.
unfoldable pub writing : List ℕ → List ℕ → ℕ → ℕ → List ℕ → ℕ → Answer
writing catalog map index number path raw =
    elim (finding catalog map index number path) [
      | Finding.refused n place ↦ refused n place
      | Finding.nothing ↦ refused 31 0
      | Finding.found r ↦ writing_to (target_of r) raw map
    ]

-- The map after an answer: a refusal changes nothing.
abbrev pub map_after : Answer → List ℕ → List ℕ
map_after (refused n place) map = map
map_after (written new) map = new

-- What is returned of an answer: the refusal, or that the point is written.
pub data Result : Type 0 where
  refused_result : ℕ → ℕ → Result
  written_result : Result

-- The result of an answer.
abbrev pub result : Answer → Result
result (refused n place) = refused_result n place
result (written new) = written_result
