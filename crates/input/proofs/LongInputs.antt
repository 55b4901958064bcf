-- Only the beginning of a text matters: it may be cut off 65 bytes after the end of the largest catalog and map.
use mathlib.Core.Path.{◌≡◌, refl, ap}
use mathlib.Core.List.{List, ◌++◌}
use Prim.Native.Nat.{ℕ, ◌+◌, ◌-◌, ◌*◌, ◌≤◌, ◌<◌}
use native.Mathlib.Omega.{arith}
use borrow.Author.Tests.{ltb-false, eqb-true, eqb-false}
use lib.Dec.{eqb, ltb}
use lib.ListN.{length, take, length-append}
use Rattle.lists.proofs.TestOutcomes.{by_same_test}
use Rattle.input.specs.Digits.{words_of}
use Rattle.input.specs.Parsing.{is_catalog_line, is_map_line, with_frame, with_registers, map_from, catalog_from, parsed}
use Rattle.input.proofs.CutLines.{Cut, whole, nothing, within, following, cut_lines}
use Rattle.input.proofs.GoodLines.{catalog_line, map_line, not_empty_lem, no_catalog_line, no_map_line}

-- The map: a good line of w registers takes 4 * w + 1 bytes, at most 5 * w. The line with the cut in it is bad, cut off or not.
map_cut : {n : ℕ} {ks ls : List (List ℕ)} → Cut n ks ls → (number capacity : ℕ) → 5 * capacity + 65 ≤ n
    → map_from number capacity ks ≡ map_from number capacity ls
unfolding map_from
map_cut whole number capacity h = refl
map_cut nothing number capacity h = absurd (omega arith)
map_cut (within n part more g e) number capacity h =
    let q : 64 < length (part ++ more) = simp length-append (omega arith) in
    simp (map_from, no_map_line part (omega arith), no_map_line (part ++ more) q)
map_cut (following n m l e c) number capacity h =
    let used = length (words_of l) in
    by_same_test ◌≡◌ (is_map_line l) (λ good. by_same_test ◌≡◌ (ltb capacity used) (λ full. refl) (λ fits.
    let g = map_line l good in
    let f = ltb-false capacity used fits in
    ap (with_registers (words_of l)) (map_cut c (number + 1) (capacity - used) (omega arith)))) (λ bad. refl)

-- The catalog: a good line takes 33 bytes, and the empty line 1.
catalog_cut : {n : ℕ} {ks ls : List (List ℕ)} → Cut n ks ls → (number frames registers : ℕ)
    → 33 * frames + 5 * registers + 66 ≤ n
    → catalog_from number frames registers ks ≡ catalog_from number frames registers ls
unfolding catalog_from
catalog_cut whole number frames registers h = refl
catalog_cut nothing number frames registers h = absurd (omega arith)
catalog_cut (within n part more g e) number frames registers h =
    let l = part ++ more in
    let p : 64 < length part = omega arith in
    let q : 64 < length l = simp length-append (omega arith) in
    simp (catalog_from, not_empty_lem part p, not_empty_lem l q, no_catalog_line part p, no_catalog_line l q)
catalog_cut (following n m l e c) number frames registers h =
    by_same_test ◌≡◌ (eqb (length l) 0)
    (λ empty. let z = eqb-true (length l) 0 empty in map_cut c (number + 1) registers (omega arith))
    (λ filled. by_same_test ◌≡◌ (is_catalog_line l) (λ good. by_same_test ◌≡◌ (eqb frames 0) (λ full. refl) (λ fits.
    let g = catalog_line l good in
    let f = eqb-false frames 0 fits in
    ap (with_frame (words_of l)) (catalog_cut c (number + 1) (frames - 1) registers (omega arith)))) (λ bad. refl))

-- Cutting a text off after n bytes changes nothing if n is large enough.
pub cut_off : (text : List ℕ) (frames registers n : ℕ) → 33 * frames + 5 * registers + 66 ≤ n
    → parsed (take n text) frames registers ≡ parsed text frames registers
cut_off text frames registers n h = catalog_cut (cut_lines n text) 1 frames registers h
