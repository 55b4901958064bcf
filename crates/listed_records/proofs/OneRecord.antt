-- Index, number and path name one record: no two records have the same, and each record is found by its own.
use mathlib.Core.Path.{◌≡◌, refl, sym, ap, subst, ◌∙◌}
use mathlib.Core.Bool.{Bool, true, false}
use mathlib.Core.List.{List, ◌∷◌}
use mathlib.Core.Option.{Option, none, some}
use Prim.Native.Nat.{ℕ, ◌+◌}
use borrow.Author.Tests.{eq-eqb, eqb-true}
use lib.Dec.{eqb}
use lib.ListN.{get_or, take, drop}
use lib.Seq.{take_at, drop_at}
use Rattle.lists.specs.Members.{In}
use Rattle.lists.specs.Tests.{first_with}
use Rattle.lists.proofs.TestOutcomes.{both, clash}
use Rattle.lists.proofs.EachLaws.{each_one}
use Rattle.lists.proofs.FirstFound.{found_in, none_found}
use Rattle.model_definitions.specs.Definitions.{definitions}
use Rattle.register_map.specs.Scan.{Model, scan, total_size}
use Rattle.layout.specs.Points.{ModelPoint}
use Rattle.layout.specs.Reading.{reading, points}
use Rattle.layout.specs.Paths.{depth_in, agree_to, path_of}
use Rattle.layout.proofs.Depths.{levels, same_three, agree_itself}
use Rattle.layout.proofs.Places.{Place}
use Rattle.layout.proofs.PointPlaces.{point_places}
use Rattle.listing.specs.Listing.{Record, all_records, listed}
use Rattle.layout.specs.Paths.{is_at, is_point}
use Rattle.listing.specs.Finding.{is_record}
use Rattle.listed_records.proofs.RecordSources.{record_source, Source}

-- A record has its own index, number and path.
own_place : (r : Record) → is_record r.index r.point.definition.number (path_of r.point) r ≡ true
own_place r =
    simp (
      eq-eqb r.index r.index refl,
      eq-eqb r.point.definition.number r.point.definition.number refl,
      eq-eqb r.point.level2 r.point.level2 refl,
      eq-eqb r.point.level3 r.point.level3 refl,
      eq-eqb r.point.level4 r.point.level4 refl,
    )

-- A record w that passes the test for an index, a number and a path has these.
pub has_place : (index number : ℕ) (path : List ℕ) (w : Record) → is_record index number path w ≡ true
    → (w.index ≡ index) × (w.point.definition.number ≡ number) × (path_of w.point ≡ levels path)
has_place index number path w e =
    let q = w.point in
    let a = both (eqb w.index index) (is_point number path q) e in
    let b = both (eqb q.definition.number number) (is_at path q) a.1 in (
      eqb-true w.index index a.0,
      eqb-true q.definition.number number b.0,
      same_three q.level2 q.level3 q.level4 (get_or path 0 0) (get_or path 1 0) (get_or path 2 0) b.1,
    )

module _ (catalog map : List ℕ) (rs : List Record) (headers : ℕ) (all : all_records catalog map ≡ listed rs headers) where
  module _ (r w : Record) (i : In r rs) (j : In w rs) (index : w.index ≡ r.index) where
    -- The models of the two records.
    abbrev of_r : Source catalog map r
    of_r = record_source catalog map rs headers all r i

    abbrev of_w : Source catalog map w
    of_w = record_source catalog map rs headers all w j

    -- Records with the same index are of the same model: the models before it are the same,
    same_preceding : of_w.preceding ≡ of_r.preceding
    same_preceding =
        let ms = (scan map).models in
        sym (ap (take w.index) of_w.splits ∙ take_at of_w.preceding (of_w.own ∷ of_w.following) w.index (sym of_w.index))
        ∙ ap (λ n. take n ms) index
        ∙ ap (take r.index) of_r.splits
        ∙ take_at of_r.preceding (of_r.own ∷ of_r.following) r.index (sym of_r.index)

    -- and so is the model.
    same_model : of_w.own ≡ of_r.own
    same_model =
        let ms = (scan map).models in
        let rests : of_w.own ∷ of_w.following ≡ of_r.own ∷ of_r.following =
        sym (ap (drop w.index) of_w.splits ∙ drop_at of_w.preceding (of_w.own ∷ of_w.following) w.index (sym of_w.index))
        ∙ ap (λ n. drop n ms) index
        ∙ ap (drop r.index) of_r.splits
        ∙ drop_at of_r.preceding (of_r.own ∷ of_r.following) r.index (sym of_r.index) in
        cc

    -- So the point of w is a point of the model of r.
    point_there : In w.point of_r.all
    point_there =
        let same : points of_w.all ≡ points of_r.all =
        sym of_w.reads ∙ ap (reading (definitions catalog)) same_model ∙ of_r.reads in
        let alls : of_w.all ≡ of_r.all = cc in
        subst (In w.point) alls of_w.holds

    -- If their points are equal, so are the records.
    same_record : w.point ≡ r.point → w ≡ r
    same_record e =
        let id = of_w.id ∙ ap (λ (m : Model). m.id) same_model ∙ sym of_r.id in
        let address = of_w.address
        ∙ ap (λ f. 2 + total_size f + 2 + w.point.offset) same_preceding
        ∙ ap (λ (p : ModelPoint). 2 + total_size of_r.preceding + 2 + p.offset) e
        ∙ sym of_r.address in
        λ k. record { index = index k; id = id k; address = address k; point = e k }

    -- No two records have the same index, number and path.
    pub one_record : w.point.definition.number ≡ r.point.definition.number → path_of w.point ≡ path_of r.point → w ≡ r
    one_record number path =
        let d = of_r.by.definition in
        let places = point_places d of_r.by.sound of_r.own.body of_r.all of_r.by.reads r.point of_r.holds in
        let place = each_one (Place d.top r.point) of_r.all places w.point point_there in
        let depth = depth_in r.point.definition.number d.top.groups in
        let agrees : agree_to depth (path_of r.point) (path_of w.point) ≡ true =
        subst (λ p. agree_to depth (path_of r.point) p ≡ true) (sym path) (agree_itself depth (path_of r.point)) in
        same_record (place.same (place.found number agrees))

  -- A record is found by its own index, number and path.
  pub own_found : (r : Record) → In r rs
      → first_with (is_record r.index r.point.definition.number (path_of r.point)) rs ≡ some r
  own_found r i = go (first_with test rs) refl
    where
      test : Record → Bool
      test = is_record r.index r.point.definition.number (path_of r.point)

      go : (o : Option Record) → first_with test rs ≡ o → first_with test rs ≡ some r
      go none e = clash (sym (own_place r) ∙ each_one (λ s. test s ≡ false) rs (none_found test rs e) r i)
      go (some w) e =
          let f = found_in test rs w e in
          let h = has_place r.index r.point.definition.number (path_of r.point) w f.1 in
          e ∙ ap some (one_record r w i f.0 h.0 h.1 h.2)
