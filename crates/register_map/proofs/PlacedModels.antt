-- The models of a lengthened map: those that were there, with the models of the gaps between them.
use mathlib.Core.Path.{◌≡◌, refl, sym, ap, ◌∙◌}
use mathlib.Core.Bool.{true}
use mathlib.Core.List.{List, [], ◌∷◌, ◌++◌, append_assoc}
use Prim.Native.Nat.{ℕ, zero, suc, ◌+◌}
use native.Mathlib.Omega.{arith}
use lib.ListN.{length, length-append}
use Rattle.lists.specs.Each.{Each}
use Rattle.lists.proofs.EachLaws.{each_append}
use Rattle.register_map.specs.Scan.{Model, total_size, BeginsWith1}
use Rattle.register_map.specs.Insertion.{Placed, all_models, with_inserted, placed, gaps_before}

-- The size of two joined lists is the sum of their sizes.
pub size_append : (ms ns : List Model) → total_size (ms ++ ns) ≡ total_size ms + total_size ns
size_append [] ns = omega arith
size_append (m ∷ ms) ns = let e = size_append ms ns in omega arith

-- With no gaps there are no models of gaps.
pub no_gaps : (i : ℕ) → gaps_before i [] ≡ []
unfolding gaps_before
no_gaps zero = refl
no_gaps (suc i) = refl

-- The models of a gap, followed by others.
all_inserted : (gap : List Model) (ps : List Placed) → all_models (with_inserted gap ps) ≡ gap ++ all_models ps
all_inserted [] ps = refl
all_inserted (m ∷ gap) ps = ap {B = List Model} (λ ms. m ∷ ms) (all_inserted gap ps)

-- A model, followed by its gap.
pub all_gap : (m : Model) (ms : List Model) (gap : List Model) (gaps : List (List Model))
    → all_models (placed (m ∷ ms) (gap ∷ gaps)) ≡ m ∷ gap ++ all_models (placed ms gaps)
unfolding placed
all_gap m ms gap gaps = ap {B = List Model} (λ ns. m ∷ ns) (all_inserted gap (placed ms gaps))

-- With no gaps nothing is inserted.
pub all_unchanged : (ms : List Model) → all_models (placed ms []) ≡ ms
unfolding placed
all_unchanged [] = refl
all_unchanged (m ∷ ms) = ap {B = List Model} (λ ns. m ∷ ns) (all_unchanged ms)

-- The number and the size of the models of the lengthened map are those of the models there before plus those of the gaps.
pub placed_length : (ms : List Model) (gaps : List (List Model))
    → length (all_models (placed ms gaps)) ≡ length ms + length (gaps_before (length ms) gaps)
unfolding placed gaps_before
placed_length [] gaps = refl
placed_length (m ∷ ms) [] = let e = ap length (all_unchanged ms) in omega arith
placed_length (m ∷ ms) (gap ∷ gaps) =
    let e = ap length (all_gap m ms gap gaps) in
    let l = length-append gap (all_models (placed ms gaps)) in
    let g = length-append gap (gaps_before (length ms) gaps) in
    omega (arith, placed_length ms gaps)

pub placed_size : (ms : List Model) (gaps : List (List Model))
    → total_size (all_models (placed ms gaps)) ≡ total_size ms + total_size (gaps_before (length ms) gaps)
unfolding placed gaps_before
placed_size [] gaps = refl
placed_size (m ∷ ms) [] = let e = ap total_size (all_unchanged ms) in omega arith
placed_size (m ∷ ms) (gap ∷ gaps) =
    let e = ap total_size (all_gap m ms gap gaps) in
    let l = size_append gap (all_models (placed ms gaps)) in
    let g = size_append gap (gaps_before (length ms) gaps) in
    omega (arith, placed_size ms gaps)

-- What holds of each model that was there and of each inserted model holds of all.
module _ (P : Model → Type 0) where
  pub placed_each : (ms : List Model) (gaps : List (List Model)) → Each P ms → Each (Each P) gaps
      → Each P (all_models (placed ms gaps))
  unfolding placed
  placed_each [] gaps h g = tt
  placed_each (m ∷ ms) [] h g = (h.0, placed_each ms [] h.1 tt)
  placed_each (m ∷ ms) (gap ∷ gaps) h g =
      rw (all_inserted gap (placed ms gaps))
      (h.0, each_append P gap (all_models (placed ms gaps)) g.0 (placed_each ms gaps h.1 g.1))

-- The first model stays the first.
pub placed_begins : (ms : List Model) (gaps : List (List Model)) → BeginsWith1 true ms
    → BeginsWith1 true (all_models (placed ms gaps))
unfolding placed
placed_begins [] gaps b = b
placed_begins (m ∷ ms) [] b = b
placed_begins (m ∷ ms) (gap ∷ gaps) b = b

-- A model that was there comes after the preceding models and the models of their gaps.
pub placed_split : (preceding : List Model) (m : Model) (rest : List Model) (gaps : List (List Model))
    → (following : List Model) × (all_models (placed (preceding ++ m ∷ rest) gaps) ≡ all_models (placed preceding gaps) ++ m ∷ following)
unfolding placed
placed_split [] m rest [] = (all_models (placed rest []), refl)
placed_split [] m rest (gap ∷ gaps) = (gap ++ all_models (placed rest gaps), all_gap m rest gap gaps)
placed_split (f ∷ preceding) m rest [] =
    let s = placed_split preceding m rest [] in
    (s.0, ap {B = List Model} (λ ms. f ∷ ms) s.1)
placed_split (f ∷ preceding) m rest (gap ∷ gaps) =
    let s = placed_split preceding m rest gaps in
    let before : List Model = all_models (placed preceding gaps) in
    let e : gap ++ all_models (placed (preceding ++ m ∷ rest) gaps) ≡ (gap ++ before) ++ m ∷ s.0 =
    rw (s.1, append_assoc gap before (m ∷ s.0)) in (
      s.0,
      all_gap f (preceding ++ m ∷ rest) gap gaps
          ∙ ap {B = List Model} (λ ms. f ∷ ms) e
          ∙ ap {B = List Model} (λ ms. ms ++ m ∷ s.0) (sym (all_gap f preceding gap gaps)),
    )
