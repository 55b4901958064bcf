-- The first n bytes of a text against the whole text: proof of `Continued`.
use mathlib.Core.List.{List, [], ◌∷◌, ◌++◌, append-nil, append_assoc}
use Prim.Native.Nat.{ℕ, ◌+◌, ◌-◌}
use native.Mathlib.Omega.{arith}
use borrow.Author.Tests.{eqb-true}
use lib.Dec.{eqb, ltb}
use lib.ListN.{length, take}
use Rattle.lists.proofs.TestOutcomes.{by_test, by_same_test}
use Rattle.input.specs.Digits.{words_of}
use Rattle.input.specs.Parsing.{is_catalog_line, is_map_line, Input, refused, words, with_frame, with_registers, map_from, catalog_from, parsed}
use Rattle.input.specs.Truncation.{Continued, part_refused, bad_line, too_many, further}
use Rattle.input.proofs.CutLines.{Cut, whole, nothing, within, following, cut_lines}
use Rattle.input.proofs.GoodLines.{map_line, words_after}

-- Nothing is cut off.
uncut : (x : Input) → Continued x x
uncut (refused number place) = part_refused
uncut (words catalog map) = rw append-nil at (further catalog map [])

-- The same frame, or the same registers, before both.
continued_frame : (frame : List ℕ) {x y : Input} → Continued x y → Continued (with_frame frame x) (with_frame frame y)
continued_frame frame part_refused = part_refused
continued_frame frame (bad_line place) = bad_line place
continued_frame frame (too_many place) = too_many place
continued_frame frame (further catalog map more) = further (frame ++ catalog) map more

continued_registers : (ws : List ℕ) {x y : Input} → Continued x y → Continued (with_registers ws x) (with_registers ws y)
continued_registers ws part_refused = part_refused
continued_registers ws (bad_line place) = bad_line place
continued_registers ws (too_many place) = too_many place
continued_registers ws (further catalog map more) = rw append_assoc at (further catalog (ws ++ map) more)

-- The part ends with the registers `ws`; the whole has `more` after them.
continued_more : (ws more : List ℕ) {y : Input} → Continued (words [] []) y → Continued (words [] ws) (with_registers (ws ++ more) y)
continued_more ws more (bad_line place) = bad_line place
continued_more ws more (too_many place) = too_many place
continued_more ws more (further catalog map rest) = rw append_assoc (further [] ws (more ++ rest))

-- The part ends before the first line of the map.
all_cut : (number capacity : ℕ) (ls : List (List ℕ)) → Continued (words [] []) (map_from number capacity ls)
unfolding map_from
all_cut number capacity [] = uncut (words [] [])
all_cut number capacity (l ∷ ls) =
    let P : Input → Type 0 = Continued (words [] []) in
    by_test P (is_map_line l) (λ good. by_test P (ltb capacity (length (words_of l))) (λ full. too_many number)
    (λ fits. continued_more [] (words_of l) (all_cut (number + 1) (capacity - length (words_of l)) ls))) (λ bad. bad_line number)

-- The cut is inside a line of the map. If both the part and the line are good, the line's words begin with those of the part.
line_cut : (number capacity : ℕ) (part more : List ℕ) (ls : List (List ℕ))
    → Continued (map_from number capacity (part ∷ [])) (map_from number capacity ((part ++ more) ∷ ls))
unfolding map_from
line_cut number capacity part more ls =
    let l = part ++ more in
    let P : Input → Type 0 = λ x. Continued x (map_from number capacity (l ∷ ls)) in
    by_test P (is_map_line part) (λ good. by_test P (ltb capacity (length (words_of part))) (λ full. part_refused) (λ fits.
    let Q : Input → Type 0 = Continued (words [] (words_of part ++ [])) in
    by_test Q (is_map_line l) (λ good'. by_test Q (ltb capacity (length (words_of l))) (λ full. too_many number) (λ fits'.
    rw (words_after part more (map_line part good).1, append-nil)
    (continued_more (words_of part) (words_of more) (all_cut (number + 1) _ ls))))
    (λ bad. bad_line number))) (λ bad. part_refused)

map_cut : {n : ℕ} {ks ls : List (List ℕ)} → Cut n ks ls → (number capacity : ℕ)
    → Continued (map_from number capacity ks) (map_from number capacity ls)
unfolding map_from
map_cut {ks = ks} whole number capacity = uncut (map_from number capacity ks)
map_cut {ls = ls} nothing number capacity = all_cut number capacity ls
map_cut (within n part more {ls = ls} low e) number capacity = line_cut number capacity part more ls
map_cut (following n m l e c) number capacity =
    by_same_test Continued (is_map_line l) (λ good. by_same_test Continued (ltb capacity (length (words_of l))) (λ full. part_refused)
    (λ fits. continued_registers (words_of l) (map_cut c (number + 1) (capacity - length (words_of l))))) (λ bad. part_refused)

-- A part that ends inside the catalog has no empty line and is refused.
catalog_cut : {n : ℕ} {ks ls : List (List ℕ)} → Cut n ks ls → (number frames registers : ℕ)
    → Continued (catalog_from number frames registers ks) (catalog_from number frames registers ls)
unfolding catalog_from
catalog_cut {ks = ks} whole number frames registers = uncut (catalog_from number frames registers ks)
catalog_cut nothing number frames registers = part_refused
catalog_cut (within n part more {ls = ls} low e) number frames registers =
    let P : Input → Type 0 = λ x. Continued x (catalog_from number frames registers ((part ++ more) ∷ ls)) in
    by_test P (eqb (length part) 0) (λ empty. let z = eqb-true (length part) 0 empty in absurd (omega arith))
    (λ filled. by_test P (is_catalog_line part) (λ good. by_test P (eqb frames 0) (λ full. part_refused) (λ fits. part_refused))
    (λ bad. part_refused))
catalog_cut (following n m l e c) number frames registers =
    by_same_test Continued (eqb (length l) 0) (λ empty. map_cut c (number + 1) registers)
    (λ filled. by_same_test Continued (is_catalog_line l)
    (λ good. by_same_test Continued (eqb frames 0) (λ full. part_refused)
    (λ fits. continued_frame (words_of l) (catalog_cut c (number + 1) (frames - 1) registers))) (λ bad. part_refused))

-- The first n bytes of a text against the whole text.
pub cut_words : (n : ℕ) (text : List ℕ) (frames registers : ℕ)
    → Continued (parsed (take n text) frames registers) (parsed text frames registers)
cut_words n text frames registers = catalog_cut (cut_lines n text) 1 frames registers
