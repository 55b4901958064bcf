-- The records of a map after an accepted write: they are listed as before, each changed as `RecordAfter` says.
use mathlib.Core.Path.{◌≡◌, refl, sym, ap, subst, ◌∙◌}
use mathlib.Core.Bool.{Bool, true}
use mathlib.Core.List.{List, ◌∷◌, ◌++◌}
use mathlib.Core.Option.{Option, none, some}
use Prim.Native.Nat.{ℕ, ◌+◌, ◌≤◌}
use native.Mathlib.Omega.{arith}
use borrow.Author.Tests.{eq-eqb, ne_eqb}
use lib.ListN.{length}
use lib.Seq.{sets, length-sets}
use Rattle.lists.specs.Members.{In}
use Rattle.lists.specs.Tests.{first_with}
use Rattle.lists.specs.Each.{Pairwise}
use Rattle.lists.proofs.FirstFound.{found_in}
use Rattle.registers.specs.Registers.{split}
use Rattle.registers.proofs.Splitting.{split_length}
use Rattle.model_definitions.specs.Definitions.{Content, Definition, definitions}
use Rattle.register_map.specs.Scan.{size_of, marked, scan}
use Rattle.register_map.proofs.BodyReplaced.{stored_in, scan_replaced, opens_replaced}
use Rattle.layout.specs.Points.{ModelPoint}
use Rattle.layout.specs.Reading.{points, top_of, reading}
use Rattle.layout.proofs.PointPlaces.{point_inside}
use Rattle.listing.specs.Listing.{Record, record_of, listed, walk, all_records}
use Rattle.listing.specs.Finding.{is_record, target_of}
use Rattle.listing.proofs.ListingCases.{records_walk, walk_records}
use Rattle.listing.proofs.ListingInversion.{headers_walked}
use Rattle.listed_records.proofs.WalkedModels.{records_replaced}
use Rattle.listed_records.proofs.RecordSources.{record_source, source_known, read_with}
use Rattle.writing.specs.Writing.{refusal, rewritten}
use Rattle.writing.specs.AfterWriting.{PointAfter, PointBecomes, RecordAfter}
use Rattle.writing.proofs.ModelAfter.{model_after}
use Rattle.writing.proofs.WritingCases.{Writable, refusal_none}
use Rattle.writing.proofs.AfterCases.{keeps_place, point_place}

module _ (ds : List Definition) (w : Record) (raw : ℕ) where
  -- A record of another model stays as it is.
  other_model : (r : Record) → (r.index ≡ w.index → ⊥) → RecordAfter ds w raw r r
  other_model r n =
      let P : Bool → Type 0 = λ b. PointBecomes b (top_of w.id ds) w.point raw r.point r.point in
      record {
        same = record { index = refl; id = refl; address = refl; place = keeps_place r.point };
        point = subst P (sym (ne_eqb r.index w.index n)) refl;
      }

  -- A record of the model that is written to changes as its point does.
  own_model : (c : Content) → top_of w.id ds ≡ some c → (at id : ℕ) (p q : ModelPoint) → PointAfter c w.point raw p q
      → RecordAfter ds w raw (record_of w.index at id p) (record_of w.index at id q)
  own_model c t at id p q a =
      let P : Bool → Option Content → Type 0 = λ b o. PointBecomes b o w.point raw p q in
      let here = eq-eqb w.index w.index refl in
      let place = point_place c w.point raw p q a in
      record {
        same = record { index = refl; id = refl; address = ap (λ k. at + 2 + k) place.offset; place = place };
        point = subst (λ b. P b (top_of w.id ds)) (sym here) (subst (P true) (sym t) a);
      }

module _ (catalog map : List ℕ) (rs : List Record) (headers : ℕ)
    (all : all_records catalog map ≡ listed rs headers) (w : Record) (there : In w rs) (raw : ℕ) (can : Writable (target_of w) raw) where
  -- After a write to any writable record of the map, the records are listed as before, each changed so.
  records_after : (ss : List Record)
      × (all_records catalog (rewritten (target_of w) raw map) ≡ listed ss headers)
      × Pairwise (RecordAfter (definitions catalog) w raw) rs ss
  unfolding rewritten
  records_after =
      let ds : List Definition = definitions catalog in
      let read = reading ds in
      let walks = records_walk catalog map all in
      let ends : (scan map).ending ≡ marked = (headers_walked catalog map walks).1 in
      let o = record_source catalog map rs headers all w there in
      let m = o.own in
      let d = o.by.definition in
      let p = w.point in
      let vs = split p.definition.size raw in
      let n = stored_in m p.offset vs in
      let a = model_after d o.by.sound m.body o.all o.by.reads p o.holds raw can.access can.small
      can.implemented can.holds in
      let qs = a.0 in
      let R = PointAfter d.top p raw in
      let Q = RecordAfter ds w raw in
      let new : read n ≡ points qs = read_with ds d m.id o.by.named o.by.known n.body ∙ a.1 in
      let size : size_of n ≡ size_of m = omega (arith, length-sets m.body p.offset vs) in
      let inside : p.offset + length vs ≤ length m.body =
      omega (
        arith,
        point_inside d o.by.sound m.body o.all o.by.reads p o.holds,
        split_length p.definition.size raw,
      ) in
      let index : w.index ≡ 0 + length o.preceding = omega (arith, o.index) in
      let old : walk read marked 0 2 (o.preceding ++ m ∷ o.following) ≡ listed rs headers =
      ap (λ ms. walk read marked 0 2 ms) (sym o.splits)
      ∙ ap (λ x. walk read x 0 2 (scan map).models) (sym ends)
      ∙ walks.walks in
      let r = records_replaced read marked R Q m n size o.all qs o.reads new a.2 w.index (other_model ds w raw)
      (λ x. own_model ds w raw d.top (source_known w o) x m.id) o.preceding o.following 0 2 rs headers index old in
      let scanned = scan_replaced map o.preceding m o.following o.made p.offset vs inside w.address o.address in (
        r.0,
        walk_records catalog (sets map w.address vs) {answer = listed r.0 headers} (record {
          models = walks.models;
          accepted = walks.accepted;
          opens = opens_replaced map o.preceding m o.following o.made p.offset vs inside w.address o.address
              walks.opens;
          walks = subst (λ s. walk read s.ending 0 2 s.models ≡ listed r.0 headers) (sym scanned) r.1;
        }),
        r.2,
      )

-- The same for the record that is found and not refused.
pub map_after_lem : (catalog map : List ℕ) (rs : List Record) (headers : ℕ) → all_records catalog map ≡ listed rs headers
    → (index number : ℕ) (path : List ℕ) (w : Record) → first_with (is_record index number path) rs ≡ some w
    → (raw : ℕ) → refusal (target_of w) raw ≡ none
    → (ss : List Record)
    × (all_records catalog (rewritten (target_of w) raw map) ≡ listed ss headers)
    × Pairwise (RecordAfter (definitions catalog) w raw) rs ss
map_after_lem catalog map rs headers all index number path w found raw accepted =
    records_after catalog map rs headers all w (found_in (is_record index number path) rs w found).0 raw
    (refusal_none (target_of w) raw accepted)
