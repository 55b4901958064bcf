-- When two writes are to the same point, and which record a write names.
use mathlib.Core.Path.{◌≡◌, refl, sym, ap, subst, ◌∙◌}
use mathlib.Core.Bool.{Bool, true, false, ◌&&◌}
use Prim.Native.Nat.{ℕ}
use borrow.Author.Tests.{eq-eqb, eqb-true}
use lib.Dec.{eqb}
use lib.ListN.{get_or}
use Rattle.lists.proofs.TestOutcomes.{both, clash, fails}
use Rattle.layout.proofs.Depths.{levels, same_three}
use Rattle.listing.specs.Listing.{Record}
use Rattle.listing.specs.Finding.{is_record}
use Rattle.listed_records.proofs.OneRecord.{has_place}
use Rattle.write_sequences.specs.Writes.{Write, same_point}

-- The numbers that name the point of a write agree: the index, the number and the three numbers of the path.
pub record Agree (u v : Write) : Type 0 where
  pub index : u.index ≡ v.index
  pub number : u.number ≡ v.number
  pub path : levels u.path ≡ levels v.path

module _ (u v : Write) where
  -- Two writes are to the same point if these agree,
  pub same_if_agree : Agree u v → same_point u v ≡ true
  same_if_agree a =
      let at : (k : ℕ) → get_or (levels u.path) k 0 ≡ get_or (levels v.path) k 0 = λ k. ap (λ path. get_or path k 0) a.path in
      simp (
        eq-eqb u.index v.index a.index,
        eq-eqb u.number v.number a.number,
        eq-eqb (get_or u.path 0 0) (get_or v.path 0 0) (at 0),
        eq-eqb (get_or u.path 1 0) (get_or v.path 1 0) (at 1),
        eq-eqb (get_or u.path 2 0) (get_or v.path 2 0) (at 2),
      )

  -- and only then.
  pub agree_if_same : same_point u v ≡ true → Agree u v
  agree_if_same e =
      let x : ℕ → ℕ = λ k. get_or u.path k 0 in
      let y : ℕ → ℕ = λ k. get_or v.path k 0 in
      let path = eqb (x 0) (y 0) && (eqb (x 1) (y 1) && eqb (x 2) (y 2)) in
      let a = both (eqb u.index v.index) (eqb u.number v.number && path) e in
      let b = both (eqb u.number v.number) path a.1 in
      record {
        index = eqb-true u.index v.index a.0;
        number = eqb-true u.number v.number b.0;
        path = same_three (x 0) (x 1) (x 2) (y 0) (y 1) (y 2) b.1;
      }

-- Each write is to its own point,
pub itself : (w : Write) → same_point w w ≡ true
itself w = same_if_agree w w (record { index = refl; number = refl; path = refl })

-- and if a write is to another point than a second one, so is the second.
pub other_way : (u v : Write) → same_point u v ≡ false → same_point v u ≡ false
other_way u v e = fails (same_point v u) (λ t.
    let a = agree_if_same v u t in
    sym (same_if_agree u v (record { index = sym a.index; number = sym a.number; path = sym a.path })) ∙ e)

-- Is it the record of the point that a write names?
abbrev pub is_named : Write → Record → Bool
is_named w = is_record w.index w.number w.path

-- Writes to different points name different records.
pub names_differ : (u v : Write) → same_point u v ≡ false → (r s : Record) → is_named u r ≡ true → is_named v s ≡ true → s ≡ r → ⊥
names_differ u v e r s a b q =
    let x = has_place u.index u.number u.path r a in
    let y = has_place v.index v.number v.path r (subst (λ z. is_named v z ≡ true) q b) in
    clash (sym (same_if_agree u v (record {
      index = sym x.0 ∙ y.0;
      number = sym x.1 ∙ y.1;
      path = sym x.2 ∙ y.2;
    })) ∙ e)
