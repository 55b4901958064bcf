-- In every list of writes, each write returns what it would return alone. So only the final map depends on the order of writes to the
-- same point.
use mathlib.Core.Path.{◌≡◌, refl, sym, ap, ◌∙◌}
use mathlib.Core.Bool.{Bool, true, false, not, ◌&&◌}
use mathlib.Core.List.{List}
use mathlib.Core.Option.{Option}
use Prim.Native.Nat.{ℕ}
use lib.Dec.{eqb, ltb}
use Rattle.lists.specs.Tests.{first_with}
use Rattle.lists.proofs.TestOutcomes.{by_equal_tests, by_same_test, both}
use Rattle.lists.proofs.Rearranging.{handled_alone}
use Rattle.registers.specs.Registers.{too_wide}
use Rattle.values.specs.Classes.{is_value, is_unimplemented_class}
use Rattle.values.proofs.ClassCases.{value_class}
use Rattle.catalog_frames.specs.Frames.{Point, read_only}
use Rattle.layout.specs.Points.{point_class}
use Rattle.layout.specs.Paths.{is_at}
use Rattle.listing.specs.Listing.{Record}
use Rattle.listing.specs.Finding.{target_of}
use Rattle.writing.specs.Writing.{can_hold, refusal, Answer, refused, written, writing_to, map_after, result}
use Rattle.writing.proofs.DecidedByTarget.{same_refusal, decided_by_record}
use Rattle.writing.proofs.WritingCases.{refusal_none, accepted_records}
use Rattle.writing.proofs.ReadBack.{read_back}
use Rattle.write_sequences.specs.Writes.{Write, same_point, write_answer, write_result, map_after_write, write_results}
use Rattle.write_sequences.specs.AnyOrder.{results_alone}
use Rattle.write_sequences.proofs.SamePoints.{Agree, agree_if_same, is_named}
use Rattle.write_sequences.proofs.DifferentPoints.{result_stays_lem}

-- ---- The refusal of an implemented point

-- Two targets with the same definition that are both implemented have the same refusal: it does not depend on what they hold.
implemented_refusal : (p : Point) (a b x y raw : ℕ) → is_unimplemented_class (point_class p x) ≡ false
    → is_unimplemented_class (point_class p y) ≡ false
    → refusal (record { address = a; definition = p; raw = x }) raw ≡ refusal (record { address = b; definition = p; raw = y }) raw
unfolding refusal
implemented_refusal p a b x y raw e f =
    let Same : Option ℕ → Option ℕ → Type 0 = λ o q. o ≡ q in
    by_same_test Same (eqb p.access read_only) (λ _. refl) (λ _.
    by_same_test Same (ltb 4 p.size) (λ _. refl) (λ _.
    by_equal_tests Same (is_unimplemented_class (point_class p x)) (is_unimplemented_class (point_class p y)) (e ∙ sym f) (λ _. refl) (λ _. refl)))

-- A point that can hold a raw value is implemented when it holds it.
held_implemented : (p : Point) (raw : ℕ) → can_hold p raw ≡ true → is_unimplemented_class (point_class p raw) ≡ false
held_implemented p raw e =
    let c = point_class p raw in
    ap is_unimplemented_class (value_class c (both (is_value c) (not (too_wide p.size raw)) e).0)

-- ---- Two writes to the same point

-- They name the same record.
same_names : (u v : Write) → Agree u v → (rs : List Record) → first_with (is_named v) rs ≡ first_with (is_named u) rs
same_names u v a rs =
    let index = sym a.index in
    let number = sym a.number in
    let path = sym a.path in
    λ k. first_with (λ r.
    eqb r.index (index k) && (eqb r.point.definition.number (number k) && is_at (path k) r.point)) rs

module _ (catalog map₀ : List ℕ) (u v : Write) (same : same_point u v ≡ true) (new : List ℕ)
    (accepted : write_answer catalog map₀ u ≡ written new) where
  -- After the first, the second returns the same: the point was implemented, and is.
  again_same : write_result catalog new v ≡ write_result catalog map₀ v
  again_same =
      let a = accepted_records catalog map₀ u.index u.number u.path u.raw new accepted in
      let b = read_back catalog map₀ a.0 a.1 a.2 u.index u.number u.path u.raw new accepted in
      let names = same_names u v (agree_if_same u v same) in
      let can = refusal_none (target_of b.point) u.raw b.accepted in
      let p = b.point.point.definition in
      let q = b.point_after in
      let before : write_answer catalog map₀ v ≡ writing_to (target_of b.point) v.raw map₀ =
      decided_by_record catalog map₀ v.index v.number v.path v.raw a.2 (names a.0 ∙ b.found) in
      let after : write_answer catalog new v ≡ writing_to (target_of q) v.raw new =
      decided_by_record catalog new v.index v.number v.path v.raw b.all_after (names b.after ∙ b.found_after) in
      let held : is_unimplemented_class (point_class p q.point.raw) ≡ false =
      ap (λ (raw : ℕ). is_unimplemented_class (point_class p raw)) b.holds ∙ held_implemented p u.raw can.holds in
      ap result after
      ∙ same_refusal (target_of q) (target_of b.point) v.raw new map₀
      (ap (λ (d : Point). refusal (record { address = q.address; definition = d; raw = q.point.raw }) v.raw) b.same.place.definition
      ∙ implemented_refusal p q.address b.point.address q.point.raw b.point.point.raw v.raw held can.implemented)
      ∙ sym (ap result before)

-- ---- Lists of writes

-- No write changes what another one returns, to the same point or not,
pub result_unchanged : (catalog map₀ : List ℕ) (u v : Write) → write_result catalog (map_after_write catalog map₀ u) v ≡ write_result catalog map₀ v
result_unchanged catalog map₀ u v = by_point (same_point u v) refl
  where
    by_answer : same_point u v ≡ true → (a : Answer) → write_answer catalog map₀ u ≡ a
        → write_result catalog (map_after a map₀) v ≡ write_result catalog map₀ v
    by_answer same (refused n place) e = refl
    by_answer same (written new) e = again_same catalog map₀ u v same new e

    by_point : (b : Bool) → same_point u v ≡ b → write_result catalog (map_after_write catalog map₀ u) v ≡ write_result catalog map₀ v
    by_point false t = result_stays_lem catalog map₀ u v t
    by_point true t = by_answer t (write_answer catalog map₀ u) refl

-- so each write of a list returns what it would return alone.
pub results_alone_lem : (catalog map₀ : List ℕ) (ws : List Write) → write_results catalog map₀ ws ≡ results_alone catalog map₀ ws
results_alone_lem catalog map₀ ws = handled_alone (map_after_write catalog) (write_result catalog) (result_unchanged catalog) ws map₀
