-- The target that `find` returns: its registers, and what writing to it results in.
use mathlib.Core.Path.{◌≡◌, sym, ap, subst, ◌∙◌}
use mathlib.Core.List.{List}
use mathlib.Core.Option.{none, some}
use Prim.Native.Nat.{ℕ, ◌+◌, ◌≤◌}
use lib.ListN.{length}
use lib.Seq.{sets}
use Rattle.lists.proofs.FirstFound.{found_in}
use Rattle.registers.specs.Registers.{split}
use Rattle.listing.specs.Finding.{is_record, finding, Target}
use Rattle.listing.specs.Finding as Finding
use Rattle.listed_records.proofs.RawValues.{record_inside}
use Rattle.writing.specs.Writing.{refusal, rewritten, writing_to, refused_result, written_result, result, map_after}
use Rattle.writing.proofs.DecidedByTarget.{target_refused, target_written, found_records, found_record}

-- ---- Writing to a target

module _ (t : Target) (raw : ℕ) (map : List ℕ) where
  -- If the target is refused, the result is that refusal and the map stays.
  pub refuses : {n : ℕ} → some n ≡ refusal t raw
      → (refused_result n 0 ≡ result (writing_to t raw map)) × (map ≡ map_after (writing_to t raw map) map)
  refuses {n} e =
      let a = target_refused t raw map (sym e) in
      (sym (ap result a), sym (ap (λ x. map_after x map) a))

  -- If it is not, the result is that the point is written, and its registers are stored.
  pub takes : {new : List ℕ} → none ≡ refusal t raw
      → new ≡ sets map t.address (split t.definition.size raw)
      → (written_result ≡ result (writing_to t raw map)) × (new ≡ map_after (writing_to t raw map) map)
  unfolding rewritten
  takes e w =
      let a = target_written t raw map (sym e) in
      (sym (ap result a), w ∙ sym (ap (λ x. map_after x map) a))

-- ---- The target that is found

-- Its registers lie in the map.
pub target_inside : (catalog map : List ℕ) (index number : ℕ) (path : List ℕ) (t : Target)
    → Finding.found_result t ≡ Finding.result (finding catalog map index number path)
    → t.address + t.definition.size ≤ length map
target_inside catalog map index number path t e =
    let a = found_records catalog map index number path e in
    let r = found_record catalog map index number path a.2 e in
    subst (λ (x : Target). x.address + x.definition.size ≤ length map) (sym r.2)
    (record_inside catalog map a.0 a.1 a.2 r.0 (found_in (is_record index number path) a.0 r.0 r.1).0)
