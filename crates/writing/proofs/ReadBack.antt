-- An accepted write reads back: the point is found again with the raw value, and only its registers have changed.
use mathlib.Core.Path.{◌≡◌, sym, ap, subst, ◌∙◌}
use mathlib.Core.Bool.{false, not}
use mathlib.Core.List.{List}
use mathlib.Core.Logic.{◌⊎◌}
use mathlib.Core.Option.{some}
use Prim.Native.Nat.{ℕ, ◌+◌, ◌≤◌, ◌<◌}
use native.Mathlib.Omega.{arith}
use borrow.Author.Tests.{ne_eqb}
use lib.ListN.{length, get_or}
use lib.Seq.{length-sets}
use Rattle.lists.specs.Each.{Pairwise}
use Rattle.lists.specs.Members.{In}
use Rattle.lists.proofs.TestOutcomes.{both}
use Rattle.lists.proofs.FirstFound.{found_in}
use Rattle.lists.proofs.PairwiseLaws.{pairwise_length, pairwise_found, pairwise_in}
use Rattle.registers.specs.Registers.{split, too_wide}
use Rattle.registers.proofs.Splitting.{split_length}
use Rattle.registers.proofs.StoredRegisters.{stored_outside}
use Rattle.values.specs.Classes.{value, Classified, of_class, is_value}
use Rattle.values.proofs.ClassCases.{value_class}
use Rattle.catalog_frames.specs.Frames.{Point, scale_by_point}
use Rattle.model_definitions.specs.Definitions.{Content, definitions}
use Rattle.layout.specs.Points.{ModelPoint, point_class, status_of, scale_of}
use Rattle.layout.specs.Reading.{top_of}
use Rattle.layout.proofs.ScopeOnly.{same_scale_lem}
use Rattle.listing.specs.Listing.{Record, listed, all_records, with_capacity, listing}
use Rattle.listing.specs.Finding.{is_record, target_of}
use Rattle.listing.proofs.ListingCases.{with_capacity_lem, listing_records, walk_records}
use Rattle.listing.proofs.ListingInversion.{listed_walks}
use Rattle.listed_records.proofs.RecordSources.{record_source, source_known}
use Rattle.writing.specs.Writing.{rewritten, written, writing}
use Rattle.writing.specs.AfterWriting.{is_scale_factor_of, Holds, rescaled, RecordAfter}
use Rattle.writing.specs.ScaleFactors.{IsFactor}
use Rattle.writing.specs.ReadBack.{ScaledBy, ReadBack}
use Rattle.writing.proofs.WritingCases.{Writable, refusal_none, accepted_write}
use Rattle.writing.proofs.AfterCases.{same_record, after_written, after_unscaled}
use Rattle.writing.proofs.MapAfter.{map_after_lem}
use Rattle.writing.proofs.ScaleFactors.{record_factor, scale_factors}

module _ (w : Record) (raw : ℕ) (map : List ℕ) where
  -- The map keeps its length,
  rewritten_length : length (rewritten (target_of w) raw map) ≡ length map
  unfolding rewritten
  rewritten_length = length-sets map w.address (split w.point.definition.size raw)

  -- and only the registers of the point are written.
  rewritten_outside : (k : ℕ) → (k < w.address) ⊎ (w.address + w.point.definition.size ≤ k)
      → get_or (rewritten (target_of w) raw map) k 0 ≡ get_or map k 0
  unfolding rewritten
  rewritten_outside k h =
      let size = w.point.definition.size in
      stored_outside map w.address (split size raw) k 0
      (subst (λ n. (k < w.address) ⊎ (w.address + n ≤ k)) (sym (split_length size raw)) h)

-- ---- The scale factor of the point written

module _ (catalog map new : List ℕ) (before after : List Record) (headers : ℕ)
    (all_before : all_records catalog map ≡ listed before headers) (all_after : all_records catalog new ≡ listed after headers)
    (w s : Record) (there : In w before) (again : In s after) (raw : ℕ) (can : Writable (target_of w) raw)
    (pairs : Pairwise (RecordAfter (definitions catalog) w raw) before after)
    (becomes : RecordAfter (definitions catalog) w raw w s) where
  -- The model of the record has a definition.
  top_of_lem : (top : Content) × (top_of w.id (definitions catalog) ≡ some top)
  top_of_lem =
      let o = record_source catalog map before headers all_before w there in
      (o.by.definition.top, source_known w o)

  module _ (top : Content) (known : top_of w.id (definitions catalog) ≡ some top) where
    -- The point after the write.
    held : Holds raw w.point s.point
    held = after_written (definitions catalog) w raw s becomes

    -- The raw value is a value of the point's type.
    value_written : point_class w.point.definition raw ≡ of_class value
    value_written =
        let c = point_class w.point.definition raw in
        value_class c (both (is_value c) (not (too_wide w.point.definition.size raw)) can.holds).0

    module _ (f : Record) (i : In f before) (e : IsFactor top f w) where
      -- Its scale factor stays as it is: it is another point, and has no scale factor itself.
      factor_stays : In f after
      factor_stays =
          let x = record_factor catalog map before headers all_before w there top known f i e in
          let g = pairwise_in (RecordAfter (definitions catalog) w raw) before after pairs f i in
          let free : is_scale_factor_of top w.point f.point ≡ false =
          rw (ne_eqb f.point.definition.scale_kind scale_by_point x.unscaled) in
          let same : g.0 ≡ f =
          after_unscaled (definitions catalog) w raw f g.0 g.2 e.index top known x.other free in
          subst (λ (r : Record). In r after) same g.1

      -- It is also the scale factor of the point after the write.
      factor_again : IsFactor top f s
      factor_again =
          let p = becomes.same.place in
          record {
            index = e.index ∙ sym becomes.same.index;
            factor = rw (p.definition, p.level2, p.level3, p.level4) e.factor;
          }

      -- So its raw value gives the status and the scale of that point:
      gives : s.point ≡ rescaled f.point.raw s.point
      gives =
          (scale_factors catalog new after headers all_after).gives s again top
          (ap (λ id. top_of id (definitions catalog)) becomes.same.id ∙ known) f factor_stays factor_again

      -- the status
      factor_status_lem : s.point.status ≡ status_of w.point.definition (of_class value) f.point.raw
      factor_status_lem =
          let h = held in
          let r = f.point.raw in
          ap (λ (p : ModelPoint). p.status) gives
          ∙ ap (λ (p : Point). status_of p (point_class p s.point.raw) r) h.place.definition
          ∙ ap (λ (x : ℕ). status_of w.point.definition (point_class w.point.definition x) r) h.holds
          ∙ ap (λ (c : Classified). status_of w.point.definition c r) value_written

      -- and the scale.
      factor_scale : s.point.scale ≡ scale_of w.point.definition s.point.status f.point.raw
      factor_scale =
          let r = f.point.raw in
          ap (λ (p : ModelPoint). p.scale) gives
          ∙ ap (λ (x : ℕ). scale_of s.point.definition x r) (sym (ap (λ (p : ModelPoint). p.status) gives))
          ∙ ap (λ (p : Point). scale_of p s.point.status r) held.place.definition

    -- A point without a scale point has status 0, and its scale by no register.
    no_factor : (w.point.definition.scale_kind ≡ scale_by_point → ⊥)
        → (s.point.status ≡ 0) × (s.point.scale ≡ scale_of w.point.definition 0 0)
    no_factor n =
        let h = held in
        let p = w.point.definition in
        let none : status_of p (of_class value) h.register ≡ 0 = simp (status_of, ne_eqb p.scale_kind scale_by_point n) in
        let status : s.point.status ≡ 0 = h.status ∙ none in (
          status,
          h.scale ∙ ap (λ (x : ℕ). scale_of p x h.register) status ∙ same_scale_lem p h.register 0 (λ k. absurd (n k)) 0,
        )

    -- All together.
    scaled_by_lem : ScaledBy top before after w s
    scaled_by_lem =
        record {
          exists = (scale_factors catalog map before headers all_before).exists w there top known;
          stays = factor_stays;
          status = factor_status_lem;
          scale = factor_scale;
          unscaled = no_factor;
        }

-- ---- The claim

module _ (catalog map : List ℕ) (before : List Record) (headers : ℕ) (all : all_records catalog map ≡ listed before headers)
    (index number : ℕ) (path : List ℕ) (raw : ℕ) (new : List ℕ) where
  -- It holds of every accepted write.
  pub read_back : writing catalog map index number path raw ≡ written new
      → ReadBack catalog map before headers all index number path raw new
  read_back e =
      let a = accepted_write catalog map index number path raw new e before headers all in
      let w = a.point in
      let ds = definitions catalog in
      let test = is_record index number path in
      let m = map_after_lem catalog map before headers all index number path w a.found raw a.accepted in
      let s = pairwise_found (RecordAfter ds w raw) test (λ r s c. same_record index number path r s c.same) before m.0
      m.2 w a.found in
      let h = after_written ds w raw s.0 s.2 in
      let there = (found_in test before w a.found).0 in
      let again = (found_in test m.0 s.0 s.1).0 in
      let can = refusal_none (target_of w) raw a.accepted in
      let all_after = ap (all_records catalog) a.rewrites ∙ m.1 in
      let t = top_of_lem catalog map new before m.0 headers all all_after w s.0 there again raw can m.2 s.2 in
      record {
        point = w;
        found = a.found;
        accepted = a.accepted;
        rewrites = a.rewrites;
        after = m.0;
        all_after = all_after;
        pairs = m.2;
        point_after = s.0;
        found_after = s.1;
        holds = h.holds;
        same = s.2.same;
        implemented = h.implemented;
        mandatory = h.mandatory;
        in_range = h.in_range;
        top = t.0;
        known = t.1;
        scaled_by = scaled_by_lem catalog map new before m.0 headers all all_after w s.0 there again raw can m.2 s.2 t.0
            t.1;
        same_length = ap length a.rewrites ∙ rewritten_length w raw map;
        outside = λ k o. ap (λ l. get_or l k 0) a.rewrites ∙ rewritten_outside w raw map k o;
      }

  -- A listing with any capacity that shows the records before the write shows those after it.
  pub shown_after : (b : ReadBack catalog map before headers all index number path raw new) → (capacity : ℕ) (rs : List Record) (n : ℕ)
      → listing catalog map capacity ≡ listed rs n
      → (rs ≡ before) × (n ≡ headers) × (listing catalog new capacity ≡ listed b.after n)
  shown_after b capacity rs n e =
      let l = listed_walks catalog map capacity rs n e in
      let shown = walk_records catalog map l.0 in
      let same : rs ≡ before = cc in
      let also : n ≡ headers = cc in
      let R = RecordAfter (definitions catalog) b.point raw in
      let count : length b.after ≡ length rs = pairwise_length R before b.after b.pairs ∙ ap length (sym same) in (
        same,
        also,
        listing_records catalog new capacity
            ∙ ap (with_capacity capacity) b.all_after
            ∙ with_capacity_lem capacity b.after headers (omega (arith, l.1, count))
            ∙ ap (listed b.after) (sym also),
      )
