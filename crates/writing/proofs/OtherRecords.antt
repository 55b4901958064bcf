-- Every record of a map after an accepted write: the point written holds the raw value, the points that it scales have the status
-- and scale that it gives, and all others stay as they are.
use mathlib.Core.Path.{◌≡◌, refl, sym, ap, subst, ◌∙◌}
use mathlib.Core.Bool.{Bool, true, false}
use mathlib.Core.List.{List, ◌∷◌, ◌++◌}
use mathlib.Core.Option.{some}
use Prim.Native.Nat.{ℕ, ◌+◌}
use native.Mathlib.Omega.{arith}
use borrow.Author.Tests.{eqb-true, eqb-false}
use lib.Dec.{eqb}
use lib.ListN.{length, take}
use lib.Seq.{take_at}
use Rattle.lists.specs.Members.{In}
use Rattle.lists.specs.Each.{Pairwise}
use Rattle.lists.proofs.FirstFound.{found_in}
use Rattle.lists.proofs.PairwiseLaws.{pairwise_at, pairwise_implied}
use Rattle.model_definitions.specs.Definitions.{Content, Definition, definitions}
use Rattle.register_map.specs.Scan.{total_size, scan}
use Rattle.layout.specs.Reading.{top_of}
use Rattle.listing.specs.Listing.{Record, listed, all_records}
use Rattle.listing.specs.Finding.{is_record, target_of}
use Rattle.listed_records.proofs.RecordSources.{record_source}
use Rattle.writing.specs.Writing.{written, writing}
use Rattle.writing.specs.AfterWriting.{is_scale_factor_of, rescaled, RecordAfter}
use Rattle.writing.specs.OtherRecords.{Change, OtherRecords}
use Rattle.writing.proofs.AfterCases.{with_point_lem, after_unchanged, after_here, after_scaled, after_unscaled}
use Rattle.writing.proofs.ScaleFactors.{scale_factors}
use Rattle.writing.proofs.ReadBack.{read_back, shown_after}

module _ (catalog map : List ℕ) (rs : List Record) (headers : ℕ) (all : all_records catalog map ≡ listed rs headers) where
  -- The address of a record, by its index and its offset.
  address_of : (r : Record) → In r rs → r.address ≡ 2 + total_size (take r.index (scan map).models) + 2 + r.point.offset
  address_of r i =
      let o = record_source catalog map rs headers all r i in
      let preceding : take r.index (scan map).models ≡ o.preceding =
      ap (take r.index) o.splits ∙ take_at o.preceding (o.own ∷ o.following) r.index (sym o.index) in
      o.address ∙ ap (λ ms. 2 + total_size ms + 2 + r.point.offset) (sym preceding)

  module _ (w : Record) (there : In w rs) (raw : ℕ) (top : Content) (known : top_of w.id (definitions catalog) ≡ some top) where
    -- One record: from `RecordAfter` to `Change`, where addresses take the place of offsets.
    change_of : (r s : Record) → In r rs → RecordAfter (definitions catalog) w raw r s → Change top w raw r s
    change_of r s i a =
        record {
          same = a.same;
          target = λ n. same_target (eqb r.index w.index) (is_scale_factor_of top w.point r.point) refl refl n;
          unchanged = apart;
          unscaled = λ n f. stays (eqb r.index w.index) refl n f;
          scaled = changes;
          holds = λ same e. after_here ds w raw r s a same top known (same_offset same e);
        }
      where
        ds : List Definition
        ds = definitions catalog

        -- Two records of one model with the same address have the same offset,
        same_offset : r.index ≡ w.index → r.address ≡ w.address → r.point.offset ≡ w.point.offset
        same_offset same e =
            let sizes = ap (λ k. total_size (take k (scan map).models)) same in
            omega (arith, address_of r i, address_of w there)

        -- and the other way round.
        same_address : r.index ≡ w.index → r.point.offset ≡ w.point.offset → r.address ≡ w.address
        same_address same e =
            let sizes = ap (λ k. total_size (take k (scan map).models)) same in
            omega (arith, address_of r i, address_of w there)

        -- A record of another model stays.
        apart : (r.index ≡ w.index → ⊥) → s ≡ r
        apart n = after_unchanged ds w raw r s a n

        -- A record whose scale factor is not written stays, whether it is of the same model or not.
        stays : (b : Bool) → eqb r.index w.index ≡ b → (r.address ≡ w.address → ⊥)
            → is_scale_factor_of top w.point r.point ≡ false → s ≡ r
        stays true t n f =
            let same = eqb-true r.index w.index t in
            after_unscaled ds w raw r s a same top known (λ e. n (same_address same e)) f
        stays false t n f = apart (eqb-false r.index w.index t)

        -- A record of the same model whose scale factor is written has a new status and scale.
        changes : r.index ≡ w.index → (r.address ≡ w.address → ⊥) → is_scale_factor_of top w.point r.point ≡ true
            → s ≡ record { index = r.index; id = r.id; address = r.address; point = rescaled raw r.point }
        changes same n t =
            with_point_lem r s a.same (rescaled raw r.point)
            (after_scaled ds w raw r s a same top known (λ e. n (same_address same e)) t)

        -- What a write to a record at another address needs stays, by whether it is of the same model and its scale factor is written:
        -- a new status and scale do not matter to a write.
        same_target : (b c : Bool) → eqb r.index w.index ≡ b → is_scale_factor_of top w.point r.point ≡ c
            → (r.address ≡ w.address → ⊥) → target_of s ≡ target_of r
        same_target b false t f n = ap target_of (stays b t n f)
        same_target false true t f n = ap target_of (apart (eqb-false r.index w.index t))
        same_target true true t f n = ap target_of (changes (eqb-true r.index w.index t) n f)

    -- All records of a map.
    pub changes_of : (ss : List Record) → Pairwise (RecordAfter (definitions catalog) w raw) rs ss
        → Pairwise (Change top w raw) rs ss
    changes_of ss = pairwise_implied (RecordAfter (definitions catalog) w raw) (Change top w raw) rs ss change_of

module _ (catalog map : List ℕ) (before : List Record) (headers : ℕ) (all : all_records catalog map ≡ listed before headers)
    (index number : ℕ) (path : List ℕ) (raw : ℕ) (new : List ℕ) where
  -- The claim holds of every accepted write.
  pub other_records : writing catalog map index number path raw ≡ written new
      → OtherRecords catalog map before headers all index number path raw new
  other_records e =
      let b = read_back catalog map before headers all index number path raw new e in
      let there = (found_in (is_record index number path) before b.point b.found).0 in
      record {
        after = b.after;
        all_after = b.all_after;
        point = b.point;
        found = b.found;
        top = b.top;
        known = b.known;
        changes = changes_of catalog map before headers all b.point there raw b.top b.known b.after b.pairs;
        factors = scale_factors catalog new b.after headers b.all_after;
        shown = λ capacity rs n l.
            let s = shown_after catalog map before headers all index number path raw new b capacity rs n l in (s.0, s.2);
      }

-- `Change` relates the records at the same position of the two lists.
pub change_at : (catalog map : List ℕ) (before : List Record) (headers : ℕ) (all : all_records catalog map ≡ listed before headers)
    (index number : ℕ) (path : List ℕ) (raw : ℕ) (new : List ℕ) (o : OtherRecords catalog map before headers all index number path raw new)
    → (preceding : List Record) (r : Record) (following : List Record) → before ≡ preceding ++ r ∷ following
    → (preceding' : List Record) (s : Record) (following' : List Record) → o.after ≡ preceding' ++ s ∷ following'
    → length preceding ≡ length preceding' → Change o.top o.point raw r s
change_at catalog map before headers all index number path raw new o preceding r following old preceding' s following' now level =
    let R = Change o.top o.point raw in
    pairwise_at R preceding preceding' r s following following' level
    (subst (λ xs. Pairwise R xs (preceding' ++ s ∷ following')) old (subst (Pairwise R before) now o.changes))
