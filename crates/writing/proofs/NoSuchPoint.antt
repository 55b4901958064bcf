-- 31 is exact: a write to a point that listing shows never returns 31; if a write returns 31, no record is that of the point.
use mathlib.Core.Path.{◌≡◌, refl, sym, subst, ◌∙◌}
use mathlib.Core.Bool.{false}
use mathlib.Core.List.{List}
use mathlib.Core.Option.{Option, none, some}
use Prim.Native.Nat.{ℕ}
use native.Mathlib.Omega.{arith}
use Rattle.lists.specs.Each.{Each}
use Rattle.lists.specs.Members.{In}
use Rattle.lists.specs.Tests.{first_with}
use Rattle.lists.proofs.FirstFound.{none_found}
use Rattle.layout.specs.Paths.{path_of}
use Rattle.listing.specs.Listing.{Record, Answer, listed, all_records}
use Rattle.listing.specs.Listing as Listing
use Rattle.listing.specs.Finding.{is_record, target_of}
use Rattle.listed_records.proofs.AllRecords.{all_shown}
use Rattle.listed_records.proofs.OneRecord.{own_found}
use Rattle.writing.specs.Writing.{refused, writing}
use Rattle.writing.specs.NoSuchPoint.{Missing, NoSuchPointExact}
use Rattle.writing.proofs.DecidedByTarget.{finding_found, decided_by_listing, decided_by_record}
use Rattle.writing.proofs.WritingCases.{records_number, target_number}

module _ (catalog map : List ℕ) where
  -- A write to the point of a record of the map is decided by that record, so it is not refused by 31.
  never_31 : (rs : List Record) (headers : ℕ) → all_records catalog map ≡ listed rs headers → (r : Record) → In r rs → (raw place : ℕ)
      → writing catalog map r.index r.point.definition.number (path_of r.point) raw ≡ refused 31 place → ⊥
  never_31 rs headers e r i raw place f =
      let decided = decided_by_record catalog map r.index r.point.definition.number (path_of r.point) raw e
      (own_found catalog map rs headers e r i) in
      let b = target_number (target_of r) raw map (sym decided ∙ f) in
      omega (arith, b.0)

  module _ (index number : ℕ) (path : List ℕ) (raw place : ℕ)
      (refuses : writing catalog map index number path raw ≡ refused 31 place) where
    -- A write is refused by 31 only if the map has records,
    by_records : (a : Answer) → all_records catalog map ≡ a → (place ≡ 0) × Missing catalog map index number path
    by_records (Listing.refused n at headers) q =
        let b = records_number catalog map q in
        let a = sym (decided_by_listing catalog map index number path raw q) ∙ refuses in
        let same : n ≡ 31 = cc in
        absurd (omega (arith, b.1))
    by_records (listed rs headers) q = go (first_with (is_record index number path) rs) refl
      where
        -- and none of them is that of the point.
        go : (o : Option Record) → first_with (is_record index number path) rs ≡ o
            → (place ≡ 0) × Missing catalog map index number path
        go (some w) f =
            let b = target_number (target_of w) raw map
            (sym (decided_by_record catalog map index number path raw q f) ∙ refuses) in
            absurd (omega (arith, b.0))
        go none f =
            let a = sym (decided_by_record catalog map index number path raw q f) ∙ refuses in
            let none = none_found (is_record index number path) rs f in (
              cc,
              record {
                records = rs;
                headers = headers;
                all = q;
                none = none;
                unlisted = λ capacity ss n e.
                    let same : listed rs headers ≡ listed ss n =
                    sym q ∙ all_shown catalog map capacity ss n e in
                    let records : rs ≡ ss = cc in
                    subst (Each (λ r. is_record index number path r ≡ false)) records none;
              },
            )

  -- 31 is exact for every catalog and every map.
  pub no_such_point_exact : NoSuchPointExact catalog map
  no_such_point_exact =
      record {
        shown_is_found = λ capacity rs headers e r i.
            let all = all_shown catalog map capacity rs headers e in
            finding_found catalog map r.index r.point.definition.number (path_of r.point) all
            (own_found catalog map rs headers all r i);
        shown_never31 = λ capacity rs headers e.
            never_31 rs headers (all_shown catalog map capacity rs headers e);
        refused_is_missing = λ index number path raw place e. by_records index number path raw place e (all_records catalog map) refl;
      }
