-- The records of one model among all: a search for a point skips the records of other models.
use mathlib.Core.Path.{◌≡◌, refl, sym, ap, ◌∙◌}
use mathlib.Core.Bool.{Bool, true, false, ◌&&◌}
use mathlib.Core.List.{List, [], ◌∷◌, ◌++◌}
use mathlib.Core.List as Lists
use mathlib.Core.Option.{Option, none, some}
use Prim.Native.Nat.{ℕ, ◌+◌, ◌<◌}
use native.Mathlib.Omega.{arith}
use borrow.Author.Tests.{ne_eqb}
use lib.Dec.{eqb}
use Rattle.lists.specs.Tests.{first_with}
use Rattle.register_map.specs.Scan.{Model, size_of, Ending, marked, broken}
use Rattle.layout.specs.Points.{ModelPoint}
use Rattle.layout.specs.Reading.{Reading, unknown, faulty, points}
use Rattle.listing.specs.Listing.{Record, record_of, listed, walk}
use Rattle.layout.specs.Paths.{is_point}
use Rattle.listing.specs.Finding.{is_record}
use Rattle.listing.proofs.WalkSteps.{not_listed, prepended_listed, walk_unknown, walk_faulty, walk_points}

module _ (index number : ℕ) (path : List ℕ) where
  abbrev is_it : Record → Bool
  is_it = is_record index number path

  -- The records of another model are skipped.
  pub skipped : (i at id : ℕ) → eqb i index ≡ false → (ps : List ModelPoint) (ss : List Record)
      → first_with is_it (Lists.map (record_of i at id) ps ++ ss) ≡ first_with is_it ss
  unfolding first_with
  skipped i at id n [] ss = refl
  skipped i at id n (p ∷ ps) ss =
      let rest = first_with is_it (Lists.map (record_of i at id) ps ++ ss) in
      ap {B = Option Record} (λ b. elim (b && is_point number path p) [ true ↦ some (record_of i at id p) | false ↦ rest ]) n
      ∙ skipped i at id n ps ss

  -- Among the records of its own model, number and path decide.
  pub own_records : (i at id : ℕ) → eqb i index ≡ true → (ps : List ModelPoint) (ss : List Record) → first_with is_it ss ≡ none
      → first_with is_it (Lists.map (record_of i at id) ps ++ ss)
      ≡ first_with (λ r. is_point number path r.point) (Lists.map (record_of i at id) ps)
  unfolding first_with
  own_records i at id y [] ss e = e
  own_records i at id y (p ∷ ps) ss e =
      let f = record_of i at id in
      let rest = first_with is_it (Lists.map f ps ++ ss) in
      ap {B = Option Record} (λ b. elim (b && is_point number path p) [ true ↦ some (f p) | false ↦ rest ]) y
      ∙ ap {B = Option Record} (λ o. elim (is_point number path p) [ true ↦ some (f p) | false ↦ o ])
      (own_records i at id y ps ss e)

  -- The records of later models have higher indices, so none of them is found.
  pub none_later : (read : Model → Reading) (ending : Ending) (i at : ℕ) (ms : List Model) (ss : List Record) (headers : ℕ)
      → walk read ending i at ms ≡ listed ss headers → index < i → first_with is_it ss ≡ none
  unfolding walk first_with
  none_later read marked i at [] ss headers e l = let q : [] ≡ ss = cc in ap (first_with is_it) (sym q)
  none_later read (broken number) i at [] ss headers e l = not_listed e
  none_later read ending i at (m ∷ ms) ss headers e l =
      go (read m) refl (λ rs q. none_later read ending (i + 1) (at + size_of m) ms rs headers q (omega arith))
    where
      go : (r : Reading) → read m ≡ r
          → ((rs : List Record) → walk read ending (i + 1) (at + size_of m) ms ≡ listed rs headers → first_with is_it rs ≡ none)
          → first_with is_it ss ≡ none
      go unknown q following = following ss (sym (walk_unknown read ending i at m ms q) ∙ e)
      go (faulty fault) q following = not_listed (sym (walk_faulty read ending i at m ms q) ∙ e)
      go (points ps) q following =
          let f = record_of i at m.id in
          let rest = prepended_listed (Lists.map f ps) (walk read ending (i + 1) (at + size_of m) ms) ss headers
          (sym (walk_points read ending i at m ms q) ∙ e) in
          let n : i ≡ index → ⊥ = λ z. omega arith in
          ap (first_with is_it) rest.2
          ∙ skipped i at m.id (ne_eqb i index n) ps rest.0
          ∙ following rest.0 rest.1
