-- Every catalog and map within the capacity has a text: written as a text, they are read back.
use mathlib.Core.Path.{◌≡◌, refl, ap, ◌∙◌}
use mathlib.Core.List.{List, [], ◌∷◌, ◌++◌, append-nil}
use Prim.Native.Nat.{ℕ, zero, suc, ◌+◌, ◌-◌, ◌*◌, ◌/◌, ◌≤◌, ◌<◌}
use native.Mathlib.Omega.{arith}
use lib.ListN.{length, take, drop, take-append-drop, length-take, length-drop}
use Rattle.registers.specs.Registers.{AreRegisters}
use Rattle.registers.proofs.RegisterParts.{first_registers, later_registers}
use Rattle.input.specs.Lines.{line_feed, lines}
use Rattle.input.specs.Parsing.{words, with_frame, with_registers, map_from, catalog_from, parsed}
use Rattle.input.specs.Writing.{lines_of_words, written}
use Rattle.input.proofs.WrittenLines.{first_line_lem, registers_back, frame_back}

-- A map in lines of 16 registers.
map_back : (count number capacity : ℕ) (map : List ℕ) → AreRegisters map
    → length map ≤ 16 * count → 16 * count < length map + 16 → length map ≤ capacity
    → map_from number capacity (lines (lines_of_words count 16 map ++ [])) ≡ words [] map
unfolding lines_of_words lines map_from
map_back zero number capacity [] small high low fits = refl
map_back zero number capacity (w ∷ map) small high low fits = absurd (omega arith)
map_back (suc count) number capacity map small high low fits =
    let line = take 16 map in
    let following = drop 16 map in
    let later = lines (lines_of_words count 16 following ++ []) in
    let n = length-take 16 map in
    let d = length-drop 16 map in
    let back = map_back count (number + 1) (capacity - length line) following (later_registers 16 map small) in
    ap (map_from number capacity) (first_line_lem count 16 map [] small)
    ∙ registers_back line (first_registers 16 map small) number later capacity (omega arith) (omega arith) (omega arith)
    ∙ ap (with_registers line) (back (omega arith) (omega arith) (omega arith))
    ∙ ap (words []) (take-append-drop 16 map)

-- A catalog, an empty line, and the text `rest` of a map.
catalog_back : (k number frames registers : ℕ) (catalog map rest : List ℕ) → AreRegisters catalog → length catalog ≡ 8 * k
    → k ≤ frames
    → ((n : ℕ) → map_from n registers (lines rest) ≡ words [] map)
    → catalog_from number frames registers (lines (lines_of_words k 8 catalog ++ line_feed ∷ rest)) ≡ words catalog map
unfolding lines_of_words lines catalog_from
catalog_back zero number frames registers [] map rest small e fits back = back (number + 1)
catalog_back zero number frames registers (w ∷ catalog) map rest small e fits back = absurd (omega arith)
catalog_back (suc k) number frames registers catalog map rest small e fits back =
    let line = take 8 catalog in
    let following = drop 8 catalog in
    let later = lines (lines_of_words k 8 following ++ line_feed ∷ rest) in
    let n = length-take 8 catalog in
    let d = length-drop 8 catalog in
    let small' = later_registers 8 catalog small in
    ap (catalog_from number frames registers) (first_line_lem k 8 catalog (line_feed ∷ rest) small)
    ∙ frame_back line (first_registers 8 catalog small) number later frames registers (omega arith) (omega arith)
    ∙ ap (with_frame line)
    (catalog_back k (number + 1) (frames - 1) registers following map rest small' (omega arith) (omega arith) back)
    ∙ ap (λ ws. words ws map) (take-append-drop 8 catalog)

-- A catalog of whole frames and a map, both within the capacity, are read back.
pub read_back : (catalog map : List ℕ) (k frames registers : ℕ) → AreRegisters catalog → AreRegisters map
    → length catalog ≡ 8 * k → k ≤ frames → length map ≤ registers
    → parsed (written catalog map) frames registers ≡ words catalog map
read_back catalog map k frames registers small_catalog small_map e fits capacity =
    let count = (length map + 15) / 16 in
    let rest = lines_of_words count 16 map in
    let q : length catalog / 8 ≡ k = omega arith in
    rw q (catalog_back k 1 frames registers catalog map rest small_catalog e fits (λ n.
    rw append-nil at (map_back count n registers map small_map (omega arith) (omega arith) capacity)))
