-- Writing the value that a point holds changes nothing.
use mathlib.Core.Path.{◌≡◌, refl, sym, ap, ◌∙◌}
use mathlib.Core.List.{List}
use mathlib.Core.Option.{some}
use Prim.Native.Nat.{ℕ}
use Rattle.lists.specs.Members.{In}
use Rattle.lists.specs.Tests.{first_with}
use Rattle.lists.proofs.FirstFound.{found_in}
use Rattle.registers.specs.Registers.{AreRegisters}
use Rattle.registers.proofs.StoredRegisters.{shown_stored}
use Rattle.layout.specs.Paths.{path_of}
use Rattle.listing.specs.Listing.{Record, listed, all_records, listing}
use Rattle.listing.specs.Finding.{is_record, target_of}
use Rattle.listed_records.proofs.AllRecords.{all_shown}
use Rattle.listed_records.proofs.OneRecord.{own_found}
use Rattle.listed_records.proofs.RawValues.{record_inside, record_raw}
use Rattle.writing.specs.Writing.{rewritten, written, writing}
use Rattle.writing.proofs.WritingCases.{accepted_write, refusal_none}

-- In a map of 16-bit registers, an accepted write of the raw value that the point already has gives the same map.
pub same_value : (catalog map : List ℕ) (index number : ℕ) (path : List ℕ) (raw : ℕ) (new : List ℕ) → AreRegisters map
    → writing catalog map index number path raw ≡ written new
    → (rs : List Record) (headers : ℕ) → all_records catalog map ≡ listed rs headers
    → (w : Record) → first_with (is_record index number path) rs ≡ some w → w.point.raw ≡ raw
    → new ≡ map
unfolding rewritten
same_value catalog map index number path raw new registers e rs headers all w found holds =
    let a = accepted_write catalog map index number path raw new e rs headers all in
    let first = a.found in
    let point : a.point ≡ w = cc in
    let can = refusal_none (target_of w) raw (rw point at a.accepted) in
    let there = (found_in (is_record index number path) rs w found).0 in
    a.rewrites
    ∙ ap (λ r. rewritten (target_of r) raw map) point
    ∙ shown_stored map registers w.address w.point.definition.size raw (record_inside catalog map rs headers all w there)
    can.small (sym holds ∙ record_raw catalog map rs headers all w there)

-- The same for a point that a listing shows, and the raw value that it shows.
pub same_value_shown : (catalog map : List ℕ) (capacity : ℕ) (rs : List Record) (headers : ℕ) (new : List ℕ) → AreRegisters map
    → listing catalog map capacity ≡ listed rs headers
    → (r : Record) → In r rs
    → writing catalog map r.index r.point.definition.number (path_of r.point) r.point.raw ≡ written new
    → new ≡ map
same_value_shown catalog map capacity rs headers new registers e r there q =
    let all = all_shown catalog map capacity rs headers e in
    same_value catalog map r.index r.point.definition.number (path_of r.point) r.point.raw new registers q rs
    headers all r (own_found catalog map rs headers all r there) refl
