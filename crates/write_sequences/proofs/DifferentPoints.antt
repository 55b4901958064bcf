-- Two writes to different points. Neither changes what finding the other's point returns. So neither changes what the other returns or
-- stores, and both orders end in the same map.
use mathlib.Core.Path.{◌≡◌, refl, sym, ap, subst, ◌∙◌}
use mathlib.Core.Bool.{false}
use mathlib.Core.List.{List}
use mathlib.Core.Logic.{inl, inr, ⊎_elim}
use mathlib.Core.Option.{Option, none, some}
use Prim.Native.Nat.{ℕ, ◌+◌, ◌≤◌}
use native.Mathlib.Omega.{arith}
use Rattle.lists.proofs.FirstFound.{found_in}
use Rattle.lists.proofs.PairwiseLaws.{pairwise_same_part}
use Rattle.lists.proofs.StoreLaws.{sets_apart}
use Rattle.registers.specs.Registers.{split}
use Rattle.registers.proofs.Splitting.{split_length}
use Rattle.listing.specs.Finding.{finding, Target, target_of}
use Rattle.listing.specs.Finding as Finding
use Rattle.listed_records.specs.RecordOrder.{TargetsApart}
use Rattle.listed_records.proofs.RecordOrder.{records_apart, one_address}
use Rattle.writing.specs.Writing.{refusal, rewritten, Answer, refused, written, map_after, result}
use Rattle.writing.specs.OtherRecords.{Change}
use Rattle.writing.proofs.DecidedByTarget.{writing_by, by_target, by_refusal, same_result, result_of, target_returned, found_records, found_record}
use Rattle.writing.proofs.WritingCases.{accepted_records}
use Rattle.writing.proofs.AfterCases.{same_record}
use Rattle.writing.proofs.OtherRecords.{other_records}
use Rattle.write_sequences.specs.Writes.{Write, same_point, write_answer, write_result, map_after_write}
use Rattle.write_sequences.proofs.SamePoints.{other_way, is_named, names_differ}

-- What finding the point of a write returns: a refusal, nothing or the target.
abbrev pub finds : List ℕ → List ℕ → Write → Finding.Result
finds catalog map w = Finding.result (finding catalog map w.index w.number w.path)

-- The map after a write of `raw`, by what finding the point returned.
abbrev pub stored_by : Finding.Result → ℕ → List ℕ → List ℕ
stored_by f raw map = map_after (writing_by f raw map) map

-- ---- What is found stays

module _ (catalog map : List ℕ) (u v : Write) (differ : same_point u v ≡ false) where
  -- After an accepted write to another point,
  found_after : (new : List ℕ) → write_answer catalog map u ≡ written new → finds catalog new v ≡ finds catalog map v
  found_after new e =
      let a = accepted_records catalog map u.index u.number u.path u.raw new e in
      let before = a.0 in
      let o = other_records catalog map before a.1 a.2 u.index u.number u.path u.raw new e in
      let w = found_in (is_named u) before o.point o.found in
      let C = Change o.top o.point u.raw in
      target_returned catalog new v.index v.number v.path o.all_after
      ∙ pairwise_same_part C (is_named v) (λ r s c. same_record v.index v.number v.path r s c.same) result_of before o.after
      (λ r s i c t. ap (λ x. Finding.found_result x) (c.target (λ q.
      names_differ u v differ o.point r w.1 t (one_address catalog map before a.1 a.2 o.point r w.0 i q))))
      o.changes
      ∙ sym (target_returned catalog map v.index v.number v.path a.2)

  -- and so after any write to another point, finding a point returns the same.
  pub found_stays : finds catalog (map_after_write catalog map u) v ≡ finds catalog map v
  found_stays = go (write_answer catalog map u) refl
    where
      go : (a : Answer) → write_answer catalog map u ≡ a → finds catalog (map_after a map) v ≡ finds catalog map v
      go (refused n place) e = refl
      go (written new) e = found_after new e

  -- So a write to another point changes nothing for a write: it is decided by what is found in the map as it was.
  pub write_stays : write_answer catalog (map_after_write catalog map u) v
      ≡ writing_by (finds catalog map v) v.raw (map_after_write catalog map u)
  write_stays =
      let new = map_after_write catalog map u in
      by_target catalog new v.index v.number v.path v.raw ∙ ap (λ f. writing_by f v.raw new) found_stays

  -- It returns the same,
  pub result_stays_lem : write_result catalog (map_after_write catalog map u) v ≡ write_result catalog map v
  result_stays_lem =
      ap result write_stays
      ∙ same_result (finds catalog map v) v.raw (map_after_write catalog map u) map
      ∙ sym (ap result (by_target catalog map v.index v.number v.path v.raw))

  -- and it stores the same: what it would store in the map as it was.
  pub stored_stays : map_after_write catalog (map_after_write catalog map u) v
      ≡ stored_by (finds catalog map v) v.raw (map_after_write catalog map u)
  stored_stays = ap (λ a. map_after a (map_after_write catalog map u)) write_stays

-- ---- Two writes in either order

-- Two targets that lie apart may be rewritten in either order.
rewritten_apart : (t s : Target) (x y : ℕ) (map : List ℕ) → TargetsApart t s
    → rewritten s y (rewritten t x map) ≡ rewritten t x (rewritten s y map)
unfolding rewritten
rewritten_apart t s x y map h =
    let a = split_length t.definition.size x in
    let b = split_length s.definition.size y in
    sets_apart (split t.definition.size x) (split s.definition.size y) map t.address s.address
    (⊎_elim (λ (p : s.address + s.definition.size ≤ t.address). inr (omega (arith, a, b, p)))
    (λ (p : t.address + t.definition.size ≤ s.address). inl (omega (arith, a, b, p))) h)

-- What is stored by two findings whose targets lie apart, if they have targets, may be stored in either order.
stored_apart : (f g : Finding.Result) (x y : ℕ) (map : List ℕ)
    → ((t s : Target) → Finding.found_result t ≡ f → Finding.found_result s ≡ g → TargetsApart t s)
    → stored_by g y (stored_by f x map) ≡ stored_by f x (stored_by g y map)
stored_apart (Finding.refused_result n place) g x y map apart = refl
stored_apart Finding.nothing_result g x y map apart = refl
stored_apart (Finding.found_result t) (Finding.refused_result n place) x y map apart = refl
stored_apart (Finding.found_result t) Finding.nothing_result x y map apart = refl
stored_apart (Finding.found_result t) (Finding.found_result s) x y map apart = go (refusal t x) (refusal s y)
  where
    by : Target → ℕ → Option ℕ → List ℕ → List ℕ
    by t raw o m = map_after (by_refusal o t raw m) m

    go : (o p : Option ℕ) → by s y p (by t x o map) ≡ by t x o (by s y p map)
    go (some n) p = refl
    go none (some n) = refl
    go none none = rewritten_apart t s x y map (apart t s refl refl)

module _ (catalog map : List ℕ) (u v : Write) (differ : same_point u v ≡ false) where
  -- The targets of writes to different points lie apart: they are those of different records.
  targets_apart : (t s : Target) → Finding.found_result t ≡ finds catalog map u → Finding.found_result s ≡ finds catalog map v
      → TargetsApart t s
  targets_apart t s e f =
      let a = found_records catalog map u.index u.number u.path e in
      let r = found_record catalog map u.index u.number u.path a.2 e in
      let w = found_record catalog map v.index v.number v.path a.2 f in
      let i = found_in (is_named u) a.0 r.0 r.1 in
      let j = found_in (is_named v) a.0 w.0 w.1 in
      let apart = records_apart catalog map a.0 a.1 a.2 r.0 w.0 i.0 j.0
      (names_differ u v differ r.0 w.0 i.1 j.1) in
      subst (λ x. TargetsApart x s) (sym r.2) (subst (TargetsApart (target_of r.0)) (sym w.2) apart)

  -- The map after both writes, by what is found before them.
  both_stored : map_after_write catalog (map_after_write catalog map u) v
      ≡ stored_by (finds catalog map v) v.raw (stored_by (finds catalog map u) u.raw map)
  both_stored =
      stored_stays catalog map u v differ
      ∙ ap (λ a. stored_by (finds catalog map v) v.raw (map_after a map)) (by_target catalog map u.index u.number u.path u.raw)

-- Two writes to different points end in the same map in either order.
pub either_order : (catalog map : List ℕ) (u v : Write) → same_point u v ≡ false
    → map_after_write catalog (map_after_write catalog map u) v ≡ map_after_write catalog (map_after_write catalog map v) u
either_order catalog map u v differ =
    both_stored catalog map u v differ
    ∙ stored_apart (finds catalog map u) (finds catalog map v) u.raw v.raw map (targets_apart catalog map u v differ)
    ∙ sym (both_stored catalog map v u (other_way u v differ))
