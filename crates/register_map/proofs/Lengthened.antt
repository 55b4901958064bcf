-- The scan of a lengthened map gives the models that were there with those of the gaps, and the map is longer by the sizes of
-- the latter.
use mathlib.Core.Path.{◌≡◌, refl, sym, ap, ◌∙◌}
use mathlib.Core.List.{List, [], ◌∷◌, ◌++◌, append_assoc}
use Prim.Native.Nat.{ℕ, ◌+◌}
use native.Mathlib.Omega.{arith}
use lib.ListN.{length, take, drop, get_or, length-append}
use lib.Seq.{drop_at, drop-drop}
use Rattle.lists.specs.Each.{Each}
use Rattle.register_map.specs.Headers.{begins_with_sun_s}
use Rattle.register_map.specs.Scan.{Model, total_size, marked, scan, model_registers, WellFormed}
use Rattle.register_map.specs.Insertion.{all_models, placed, lengthened, gaps_before}
use Rattle.register_map.proofs.ScanBack.{scan_whole_back, length_registers}
use Rattle.register_map.proofs.MadeOfModels.{made_of_models}
use Rattle.register_map.proofs.PlacedModels.{placed_each, placed_begins, placed_size, placed_split, all_unchanged}

-- The registers of two joined lists of models.
pub registers_append : (ms ns : List Model) → model_registers (ms ++ ns) ≡ model_registers ms ++ model_registers ns
unfolding model_registers
registers_append [] ns = refl
registers_append (m ∷ ms) ns =
    ap {B = List ℕ} (λ l. m.id ∷ length m.body ∷ l)
    (ap (λ l. m.body ++ l) (registers_append ms ns) ∙ sym (append_assoc m.body (model_registers ms) (model_registers ns)))

-- The registers from the address of a model on.
model_at : (ms : List Model) (m : Model) (ns : List Model) (tail : List ℕ) (at : ℕ) → length (model_registers ms) ≡ at
    → drop at (model_registers (ms ++ m ∷ ns) ++ tail) ≡ m.id ∷ length m.body ∷ m.body ++ (model_registers ns ++ tail)
unfolding model_registers
model_at ms m ns tail at e =
    rw (
      registers_append ms (m ∷ ns),
      append_assoc (model_registers ms) (model_registers (m ∷ ns)) tail,
      drop_at (model_registers ms) (model_registers (m ∷ ns) ++ tail) at e,
      append_assoc m.body (model_registers ns) tail,
    )

-- The lengthened map of a map made of the models `ms`, with the models `ns` instead.
put_together : (map : List ℕ) (ms ns : List Model) (a b : ℕ) (tail : List ℕ) → map ≡ a ∷ b ∷ model_registers ms ++ 65535 ∷ 0 ∷ tail
    → take 2 map ++ model_registers ns ++ drop (total_size ms) (drop 2 map) ≡ a ∷ b ∷ model_registers ns ++ 65535 ∷ 0 ∷ tail
put_together map ms ns a b tail e = rw (e, drop_at (model_registers ms) (65535 ∷ 0 ∷ tail) (total_size ms) (length_registers ms))

module _ (map : List ℕ) (ends : (scan map).ending ≡ marked) where
  -- The lengthened map has the same first two registers, all the models, and the same registers after the marker.
  pub lengthened_shape : (gaps : List (List Model))
      → let m = made_of_models map ends in
      lengthened map gaps
      ≡ m.register0 ∷ m.register1 ∷ model_registers (all_models (placed (scan map).models gaps)) ++ 65535 ∷ 0 ∷ m.tail
  unfolding lengthened
  lengthened_shape gaps =
      let m = made_of_models map ends in
      let ms : List Model = (scan map).models in
      put_together map ms (all_models (placed ms gaps)) m.register0 m.register1 m.tail m.shape

  -- Its first two registers are those of the map, so it begins with 5375 6E53 if and only if the map does.
  pub lengthened_registers : (gaps : List (List Model))
      → (get_or (lengthened map gaps) 0 0 ≡ get_or map 0 0) × (get_or (lengthened map gaps) 1 0 ≡ get_or map 1 0)
  lengthened_registers gaps =
      let m = made_of_models map ends in
      let e = lengthened_shape gaps in
      (rw e (sym (ap (λ l. get_or l 0 0) m.shape)), rw e (sym (ap (λ l. get_or l 1 0) m.shape)))

  pub lengthened_begins : (gaps : List (List Model)) → begins_with_sun_s (lengthened map gaps) ≡ begins_with_sun_s map
  lengthened_begins gaps = let r = lengthened_registers gaps in rw (r.0, r.1)

  -- Its scan gives all the models, up to the end marker.
  pub lengthened_scan : (gaps : List (List Model)) → Each (Each WellFormed) gaps
      → scan (lengthened map gaps) ≡ record { models = all_models (placed (scan map).models gaps); ending = marked }
  lengthened_scan gaps g =
      let m = made_of_models map ends in
      let ms : List Model = (scan map).models in
      let w = placed_each WellFormed ms gaps m.well_formed g in
      let b = placed_begins ms gaps m.begins in
      ap scan (lengthened_shape gaps)
      ∙ scan_whole_back m.register0 m.register1 (all_models (placed ms gaps)) m.tail w b

  -- It is longer by the sizes of the inserted models.
  pub lengthened_length : (gaps : List (List Model))
      → length (lengthened map gaps) ≡ length map + total_size (gaps_before (length (scan map).models) gaps)
  lengthened_length gaps =
      let m = made_of_models map ends in
      let ms : List Model = (scan map).models in
      let ns : List Model = all_models (placed ms gaps) in
      let old = ap length m.shape in
      let new = ap length (lengthened_shape gaps) in
      let l = length-append (model_registers ms) (65535 ∷ 0 ∷ m.tail) in
      let l' = length-append (model_registers ns) (65535 ∷ 0 ∷ m.tail) in
      omega (arith, length_registers ms, length_registers ns, placed_size ms gaps)

  -- With no gaps the map stays the same.
  pub lengthened_none : lengthened map [] ≡ map
  lengthened_none =
      let m = made_of_models map ends in
      let same = all_unchanged (scan map).models in
      lengthened_shape []
      ∙ ap {B = List ℕ} (λ ms. m.register0 ∷ m.register1 ∷ model_registers ms ++ 65535 ∷ 0 ∷ m.tail) same
      ∙ sym m.shape

  -- The header of a model that was there comes after the preceding models and the models of their gaps.
  pub lengthened_header : (preceding : List Model) (m : Model) (rest : List Model) (gaps : List (List Model))
      → (scan map).models ≡ preceding ++ m ∷ rest
      → (following : List ℕ)
      × (drop (2 + (total_size preceding + total_size (gaps_before (length preceding) gaps))) (lengthened map gaps)
      ≡ m.id ∷ length m.body ∷ m.body ++ following)
  unfolding model_registers
  lengthened_header preceding m rest gaps e =
      let made = made_of_models map ends in
      let s = placed_split preceding m rest gaps in
      let tail : List ℕ = 65535 ∷ 0 ∷ made.tail in
      let at = total_size preceding + total_size (gaps_before (length preceding) gaps) in
      let following : List ℕ = model_registers s.0 ++ tail in
      let before : List Model = all_models (placed preceding gaps) in
      let models : all_models (placed (scan map).models gaps) ≡ before ++ m ∷ s.0 =
      ap (λ ms. all_models (placed ms gaps)) e ∙ s.1 in (
        following,
        sym (drop-drop at 2 (lengthened map gaps))
            ∙ ap (λ l. drop at (drop 2 l)) (lengthened_shape gaps)
            ∙ ap (λ ms. drop at (model_registers ms ++ tail)) models
            ∙ model_at before m s.0 tail at (length_registers before ∙ placed_size preceding gaps),
      )
