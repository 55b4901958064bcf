-- From what the surveys found: the result of `parse`, and what its lists hold.
use mathlib.Core.Path.{◌≡◌, refl, sym, ap, ◌∙◌}
use mathlib.Core.List.{List, [], ◌++◌, append-nil}
use Prim.Native.Nat.{ℕ, ◌+◌, ◌*◌, ◌/◌}
use native.Mathlib.Omega.{arith}
use lib.ListN.{length, drop}
use Rattle.input.specs.Lines.{lines}
use Rattle.input.specs.Parsing.{Input, words, with_frame, map_from, parsed, stored, stored_catalog, stored_map}
use Rattle.input.specs.InternalContracts.{words_from, FramesFound, RegistersFound}
use Rattle.input.specs.CodeTypes.{parsed_result, result}
use Rattle.input.proofs.ParsedWords.{catalog_words, map_words}

-- Words stored at the start of a list.
pub stored_at_start : (ws old : List ℕ) {part : List ℕ} {n : ℕ} → part ≡ ws → length ws ≡ n → part ++ drop n old ≡ stored ws old
stored_at_start ws old e n = rw (e, n)

module _ {text : List ℕ} (rest : List ℕ) {frames registers count found : ℕ}
    (f : FramesFound text frames count (λ capacity. map_from (count + 2) capacity (lines rest)))
    (g : RegistersFound (map_from (count + 2) registers (lines rest)) registers found (words [] [])) where
  map_is : map_from (count + 2) registers (lines rest) ≡ words [] g.map
  map_is = g.rest ∙ ap (words []) (append-nil g.map)

  whole : parsed text frames registers ≡ words f.catalog g.map
  whole = f.rest registers ∙ ap (with_frame f.catalog) map_is ∙ ap (λ (c : List ℕ). words c g.map) (append-nil f.catalog)

  catalog_digits : words_from (count * 8) text ≡ f.catalog
  catalog_digits =
      ap (λ (n : ℕ). words_from n text) (sym f.full)
      ∙ (catalog_words (lines text) text 1 frames registers f.catalog g.map refl whole).0

  map_digits : words_from found rest ≡ g.map
  map_digits =
      ap (λ (n : ℕ). words_from n rest) (sym g.full)
      ∙ (map_words (lines rest) rest (count + 2) registers [] g.map refl map_is).0

  pub catalog_count : length (words_from (count * 8) text) ≡ count * 8
  catalog_count = ap length catalog_digits ∙ f.full

  pub map_count : length (words_from found rest) ≡ found
  map_count = ap length map_digits ∙ g.full

  pub counted : parsed_result count found ≡ result (parsed text frames registers)
  counted =
      let e : length f.catalog / 8 ≡ count = omega (arith, f.full) in
      sym (ap result whole ∙ rw (e, g.full))

  pub catalog_stored : (old : List ℕ)
      → words_from (count * 8) text ++ drop (count * 8) old ≡ stored_catalog (parsed text frames registers) old
  catalog_stored old = stored_at_start f.catalog old catalog_digits f.full ∙ sym (ap (λ (x : Input). stored_catalog x old) whole)

  pub map_stored : (old : List ℕ) → words_from found rest ++ drop found old ≡ stored_map (parsed text frames registers) old
  map_stored old = stored_at_start g.map old map_digits g.full ∙ sym (ap (λ (x : Input). stored_map x old) whole)
