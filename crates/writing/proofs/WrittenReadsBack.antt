-- What follows from the contract of `write` alone (`WriteCall`): after a call that returns `Ok`, the point reads back; a call that
-- returns a refusal changes nothing; a call returns 31 only if there is no such point.
use mathlib.Core.Path.{◌≡◌, sym, ap, ◌∙◌}
use mathlib.Core.List.{List}
use Prim.Native.Nat.{ℕ}
use Rattle.std.specs.Prelude.{Ok, Err}
use Rattle.lists.proofs.TestOutcomes.{impossible}
use Rattle.refusals.specs.Refusals as Refusals
use Rattle.refusals.specs.declared.Refusal.{Refusal}
use Rattle.refusals.specs.declared.Refused.{Refused}
use Rattle.listing.specs.Listing.{Record, listed, all_records}
use Rattle.writing.specs.Writing.{Answer, refused, written, map_after, writing, refused_result, written_result, result}
use Rattle.writing.specs.CodeTypes.{Written}
use Rattle.writing.specs.Calls.{WriteCall}
use Rattle.writing.specs.ReadBack.{ReadBack}
use Rattle.writing.specs.OtherRecords.{OtherRecords}
use Rattle.writing.specs.NoSuchPoint.{Missing}
use Rattle.writing.proofs.WritingCases.{accepted_records}
use Rattle.writing.proofs.ReadBack.{read_back}
use Rattle.writing.proofs.OtherRecords.{other_records}
use Rattle.writing.proofs.NoSuchPoint.{no_such_point_exact}
use Rattle.writing.proofs.SameResults.{same_returned}

-- ---- Answers by their results

-- An answer whose result is that the point is written has the new map.
written_by_result : (answer : Answer) (map after : List ℕ) → written_result ≡ result answer → after ≡ map_after answer map
    → answer ≡ written after
written_by_result (refused n place) map after e l = impossible (cc)
written_by_result (written new) map after e l = ap written (sym l)

-- An answer whose result is a refusal is that refusal, and changes nothing.
refused_by_result : (answer : Answer) (map after : List ℕ) (number place : ℕ) → refused_result number place ≡ result answer
    → after ≡ map_after answer map → (answer ≡ refused number place) × (after ≡ map)
refused_by_result (refused n p) map after number place e l = (cc, l)
refused_by_result (written new) map after number place e l = impossible (cc)

-- ---- Calls

module _ (catalog map : List ℕ) (index number : ℕ) (path : List ℕ) (raw : ℕ) (after : List ℕ) where
  -- `Ok` is returned only if the definition accepts the write; the call leaves the definition's map.
  pub done_accepts : WriteCall catalog map index number path raw (Ok tt) after
      → writing catalog map index number path raw ≡ written after
  done_accepts c = written_by_result (writing catalog map index number path raw) map after c.result c.leaves

  -- So it is returned only if the catalog accepts the map,
  pub done_records : WriteCall catalog map index number path raw (Ok tt) after
      → (before : List Record) × (headers : ℕ) × (all_records catalog map ≡ listed before headers)
  done_records c = accepted_records catalog map index number path raw after (done_accepts c)

  module _ (before : List Record) (headers : ℕ) (all : all_records catalog map ≡ listed before headers) where
    -- and then the point reads back,
    pub done_reads_back : WriteCall catalog map index number path raw (Ok tt) after
        → ReadBack catalog map before headers all index number path raw after
    done_reads_back c = read_back catalog map before headers all index number path raw after (done_accepts c)

    -- and every record is as before, except that of the point and those of the points that it scales.
    pub done_other_records : WriteCall catalog map index number path raw (Ok tt) after
        → OtherRecords catalog map before headers all index number path raw after
    done_other_records c = other_records catalog map before headers all index number path raw after (done_accepts c)

  -- If a call returns a refusal, the definition refuses with the same number and place, and the map is as it was.
  pub refused_changes_nothing : (r : Refused) → WriteCall catalog map index number path raw (Err r) after
      → (writing catalog map index number path raw ≡ refused (Refusals.number r.refusal) r.place) × (after ≡ map)
  refused_changes_nothing r c =
      refused_by_result (writing catalog map index number path raw) map after (Refusals.number r.refusal) r.place c.result c.leaves

  -- If a call returns 31, its place is 0 and there is no such point.
  pub missing_if_31 : (place : ℕ)
      → WriteCall catalog map index number path raw (Err (record { refusal = Refusal.NoSuchPoint; place = place })) after
      → (place ≡ 0) × Missing catalog map index number path
  missing_if_31 place c =
      (no_such_point_exact catalog map).refused_is_missing index number path raw place
      (refused_changes_nothing (record { refusal = Refusal.NoSuchPoint; place = place }) c).0

  -- If the definition accepts the write, a call returns `Ok` and leaves the definition's map.
  pub accepts_done : (returned : Written) (new : List ℕ) → WriteCall catalog map index number path raw returned after
      → writing catalog map index number path raw ≡ written new → (returned ≡ Ok tt) × (after ≡ new)
  accepts_done returned new c e =
      (same_returned returned (Ok tt) (c.result ∙ ap result e), c.leaves ∙ ap (λ x. map_after x map) e)
