-- The claim on refusal 31 (document 01, "Writing"): no point that listing shows gets it, and what gets it is no point of the map.
-- Proof: `proofs/NoSuchPoint.antt`.
use Rattle.std.specs.Prelude.{◌≡◌, false, List, ℕ}
use Rattle.lists.specs.Each.{Each}
use Rattle.lists.specs.Members.{In}
use Rattle.layout.specs.Paths.{path_of}
use Rattle.listing.specs.Listing.{Record, listed, all_records, listing}
use Rattle.listing.specs.Finding.{is_record, finding}
use Rattle.listing.specs.Finding as Finding
use Rattle.writing.specs.Writing.{refused, writing}

-- There is no such point: none of the map's records, and so none that a listing shows, is that of the point asked for.
pub record Missing (catalog map : List ℕ) (index number : ℕ) (path : List ℕ) : Type 0 where
  pub records : List Record
  pub headers : ℕ
  pub all : all_records catalog map ≡ listed records headers
  pub none : Each (λ r. is_record index number path r ≡ false) records
  pub unlisted : (capacity : ℕ) (rs : List Record) (n : ℕ) → listing catalog map capacity ≡ listed rs n
      → Each (λ r. is_record index number path r ≡ false) rs

-- 31 is exact. A point that a listing with any capacity shows is found by its index, number and path, and no other is; so a write
-- to it never returns 31, for any raw value. If a write returns 31, its place is 0 and there is no such point.
pub record NoSuchPointExact (catalog map : List ℕ) : Type 0 where
  pub shown_is_found : (capacity : ℕ) (rs : List Record) (headers : ℕ) → listing catalog map capacity ≡ listed rs headers
      → (r : Record) → In r rs
      → finding catalog map r.index r.point.definition.number (path_of r.point) ≡ Finding.found r
  pub shown_never31 : (capacity : ℕ) (rs : List Record) (headers : ℕ) → listing catalog map capacity ≡ listed rs headers
      → (r : Record) → In r rs → (raw place : ℕ)
      → writing catalog map r.index r.point.definition.number (path_of r.point) raw ≡ refused 31 place → ⊥
  pub refused_is_missing : (index number : ℕ) (path : List ℕ) (raw place : ℕ)
      → writing catalog map index number path raw ≡ refused 31 place → (place ≡ 0) × Missing catalog map index number path
