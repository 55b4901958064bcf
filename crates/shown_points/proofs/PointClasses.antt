-- The class of a point's registers as the code finds it: by the raw value of up to four registers, and for more by whether all
-- are 0.
use mathlib.Core.Path.{◌≡◌, refl, sym, ap, subst, ◌∙◌}
use mathlib.Core.Bool.{Bool, true, false, ◌&&◌}
use mathlib.Core.List.{List, [], ◌∷◌}
use mathlib.Core.Option.{Option, none, some}
use Prim.Native.Nat.{ℕ, suc, ◌+◌, ◌*◌, ◌^◌, ◌≤◌, ◌<◌}
use native.Mathlib.Nat.{pow-le-pow_right}
use native.Mathlib.Decide.{dec_le}
use native.Mathlib.Omega.{arith}
use borrow.Author.Tests.{eqb-true, eqb-false, ne_eqb, le-leb, lt-leb, leb-true}
use lib.Dec.{leb}
use lib.ListN.{length, get_or, take, drop, length-drop, take-append-drop}
use lib.Seq.{length-take-le}
use Rattle.lists.proofs.TestOutcomes.{clash, both}
use Rattle.lists.proofs.EachLaws.{each_parts, each_drop}
use Rattle.registers.specs.Registers.{AreRegisters, join, all_zero, too_wide}
use Rattle.registers.proofs.Joining.{sixteen_each}
use Rattle.registers.proofs.RegisterParts.{zero_joined}
use Rattle.registers.proofs.Splitting.{join_bound}
use Rattle.point_types.specs.Presence.{Presence, optional, presence_of}
use Rattle.point_types.specs.Rows.{TypeRow, row_of, registers_of}
use Rattle.point_types.proofs.Table.{wide_row}
use Rattle.values.specs.Classes.{Class, value, is_unimplemented, in_range, class_of, Classified, of_class, classified}
use Rattle.values.proofs.ClassCases.{in_range_lem, of_class_lem}
use Rattle.values.proofs.PresenceDecides.{not_zero_lem}
use Rattle.catalog_frames.specs.Frames.{Point}
use Rattle.frame_rules.specs.FrameTests.{is_size_of}
use Rattle.layout.specs.Points.{point_class, registers_at}
use Rattle.shown_points.specs.CodeTypes.{registers_class, to_spec_shown, shown_by}
use Rattle.shown_points.specs.declared.Shown.{Shown}

-- A type with this size has a row, and the size is at most the row's.
pub row_of_size : (code size : ℕ) → is_size_of code size ≡ true → (r : TypeRow) × (row_of code ≡ some r) × (size ≤ r.most)
unfolding is_size_of registers_of
row_of_size code size = go (row_of code) refl
  where
    Sized : Option TypeRow → Type 0
    Sized o =
        let registers : Option (ℕ × ℕ) = elim o [ none ↦ none | some r ↦ some (r.fewest, r.most) ] in
        let is_size : Bool = elim registers [ none ↦ false | some r ↦ leb r.0 size && leb size r.1 ] in
        is_size ≡ true → (r : TypeRow) × (row_of code ≡ some r) × (size ≤ r.most)

    go : (o : Option TypeRow) → row_of code ≡ o → Sized o
    go none q e = clash (sym e)
    go (some r) q e =
        let s = both (leb r.fewest size) (leb size r.most) e in
        (r, q, leb-true size r.most s.1)

-- Any pattern but 0 is a value of a type of more than four registers.
wide_class : (code : ℕ) (presence : Presence) (raw : ℕ) (r : TypeRow) → row_of code ≡ some r → 4 < r.most → raw < 2 ^ (16 * r.most)
    → (raw ≡ 0 → ⊥) → classified code presence raw ≡ of_class value
unfolding too_wide in_range
wide_class code presence raw r e w fits n =
    let row = wide_row code r e w in
    let given : is_unimplemented r.unimplemented raw ≡ false = rw row.0 (ne_eqb raw 0 n) in
    let range : in_range r raw ≡ true = simp (in_range, row.1) in
    not_zero_lem code presence raw n
    ∙ of_class_lem code optional raw r e (lt-leb (2 ^ (16 * r.most)) raw fits)
    ∙ ap of_class (in_range_lem r optional raw given range)

-- A list whose elements are all below 65,536 is a list of registers.
each_register : (rs : List ℕ) → ((k : ℕ) → get_or rs k 0 < 65536) → AreRegisters rs
each_register [] h = tt
each_register (r ∷ rs) h = (h 0, each_register rs (λ k. h (suc k)))

-- Registers of a size that their type may have are not too wide for the type.
fits_type : (rs : List ℕ) (r : TypeRow) → AreRegisters rs → length rs ≤ r.most → join rs < 2 ^ (16 * r.most)
fits_type rs r a most =
    rw (← sixteen_each r.most)
    (omega (arith, join_bound rs a, pow-le-pow_right {n = 65536} (omega arith) {i = length rs} {j = r.most} most))

-- So they have a class: they are not too wide, and the type is known.
pub always_classed : (p : Point) (rs : List ℕ) → is_size_of p.type_code (length rs) ≡ true → AreRegisters rs
    → (c : Class) × (point_class p (join rs) ≡ of_class c)
unfolding too_wide
always_classed p rs s a =
    let row = row_of_size p.type_code (length rs) s in
    let r = row.0 in
    let presence = presence_of p.mandatory in
    let fits = lt-leb (2 ^ (16 * r.most)) (join rs) (fits_type rs r a row.2) in
    (class_of r presence (join rs), of_class_lem p.type_code presence (join rs) r row.1 fits)

-- More than four registers that are not all 0 have the class of 1.
wide_value : (p : Point) (rs : List ℕ) → is_size_of p.type_code (length rs) ≡ true → 4 < length rs → AreRegisters rs
    → (join rs ≡ 0 → ⊥) → point_class p 1 ≡ point_class p (join rs)
wide_value p rs s w a n =
    let code = p.type_code in
    let presence = presence_of p.mandatory in
    let row = row_of_size code (length rs) s in
    let r = row.0 in
    let most = row.2 in
    let e = row.1 in
    let bound = fits_type rs r a most in
    let one : 1 < 2 ^ (16 * r.most) = omega (arith, bound) in
    wide_class code presence 1 r e (omega arith) one (λ q. omega arith)
    ∙ sym (wide_class code presence (join rs) r e (omega arith) bound n)

-- ---- The class that `show` gives any registers

module _ (p : Point) (rs : List ℕ) where
  -- Up to four registers.
  pub few_class : length rs ≤ 4 → registers_class p rs ≡ point_class p (join rs)
  unfolding registers_class
  few_class few = simp (registers_class, le-leb (length rs) 4 few)

  -- More than four registers, all 0 or not.
  pub zero_class : 4 < length rs → all_zero rs ≡ true → registers_class p rs ≡ point_class p 0
  unfolding registers_class
  zero_class many e = simp (registers_class, lt-leb (length rs) 4 many, e)

  pub other_class : 4 < length rs → all_zero rs ≡ false → registers_class p rs ≡ point_class p 1
  unfolding registers_class
  other_class many e = simp (registers_class, lt-leb (length rs) 4 many, e)

  -- For registers of a size that the type may have, it is the class of their raw value.
  pub sized_class : is_size_of p.type_code (length rs) ≡ true → AreRegisters rs → registers_class p rs ≡ point_class p (join rs)
  sized_class s a = go (dec_le (length rs) 4) (all_zero rs) refl
    where
      go : Dec (length rs ≤ 4) → (b : Bool) → all_zero rs ≡ b → registers_class p rs ≡ point_class p (join rs)
      go (yes few) b e = few_class few
      go (no n) true e =
          zero_class (omega arith) e ∙ ap (point_class p) (sym (eqb-true (join rs) 0 (sym (zero_joined rs) ∙ e)))
      go (no n) false e =
          other_class (omega arith) e
          ∙ wide_value p rs s (omega arith) a (eqb-false (join rs) 0 (sym (zero_joined rs) ∙ e))

-- What is shown of a point's registers in a body is by the class of their raw value.
pub shown_at_lem : (p : Point) (body : List ℕ) (offset : ℕ) → ((k : ℕ) → get_or body k 0 < 65536)
    → is_size_of p.type_code p.size ≡ true → offset + p.size ≤ length body
    → (rs : List ℕ) → rs ≡ registers_at body offset p → (register : ℕ) (r : Shown)
    → to_spec_shown r ≡ shown_by p (registers_class p rs) rs register
    → to_spec_shown r ≡ shown_by p (point_class p (join (registers_at body offset p))) (registers_at body offset p) register
shown_at_lem p body offset words sized inside rs e register r shown =
    let Is16 : ℕ → Type 0 = λ n. n < 65536 in
    let rest = drop offset body in
    let fits : p.size ≤ length rest = rw length-drop (omega arith) in
    let n = length-take-le p.size rest fits in
    let size = subst (λ (k : ℕ). is_size_of p.type_code k ≡ true) (sym n) sized in
    let after = each_drop Is16 offset body (each_register body words) in
    let parts = subst AreRegisters (sym (take-append-drop p.size rest)) after in
    let own = (each_parts Is16 (take p.size rest) (drop p.size rest) parts).0 in
    let class = sized_class p (registers_at body offset p) size own in
    shown
    ∙ ap (λ (qs : List ℕ). shown_by p (registers_class p qs) qs register) e
    ∙ ap (λ (x : Classified). shown_by p x (registers_at body offset p) register) class
