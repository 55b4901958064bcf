-- The scale factors of the records of a map: each record whose point takes its scale from a point has exactly one, of the same
-- model, and its raw value gives the status and the scale.
use mathlib.Core.Path.{◌≡◌, refl, sym, ap, subst, ◌∙◌}
use mathlib.Core.Bool.{Bool, true}
use mathlib.Core.List.{List, ◌∷◌, ◌++◌, map}
use mathlib.Core.Option.{some}
use Prim.Native.Nat.{ℕ, ◌+◌}
use native.Mathlib.Omega.{arith}
use borrow.Author.Tests.{eq-eqb}
use lib.Dec.{eqb}
use Rattle.lists.specs.Members.{In}
use Rattle.lists.proofs.InLaws.{in_map}
use Rattle.lists.proofs.SelectedLaws.{in_selected, selected_in}
use Rattle.catalog_frames.specs.Frames.{scale_by_point}
use Rattle.model_definitions.specs.Definitions.{Content, definitions}
use Rattle.register_map.specs.Scan.{total_size, scan}
use Rattle.layout.specs.Points.{ModelPoint}
use Rattle.layout.specs.Reading.{top_of, reading}
use Rattle.layout.specs.Paths.{path_of}
use Rattle.listing.specs.Listing.{Record, record_of, listed, walk, all_records, listing}
use Rattle.listing.proofs.ListingCases.{records_walk}
use Rattle.listed_records.proofs.AllRecords.{all_shown}
use Rattle.listed_records.specs.Tiling.{records_with}
use Rattle.listed_records.proofs.ModelRecords.{RecordsOf, model_records}
use Rattle.listed_records.proofs.WalkedModels.{in_records}
use Rattle.listed_records.proofs.RecordSources.{Source, record_source, source_known}
use Rattle.listed_records.proofs.OneRecord.{one_record}
use Rattle.writing.specs.AfterWriting.{is_scale_factor_of}
use Rattle.writing.specs.ScaleFactors.{IsFactor, ScaleFactors}
use Rattle.writing.proofs.ModelFactors.{FactorOf, has_factor, same_factor, factor_of}

-- ---- The records of one model

module _ (catalog registers : List ℕ) (rs : List Record) (headers : ℕ)
    (all : all_records catalog registers ≡ listed rs headers) where
  module _ (r : Record) (there : In r rs) where
    -- The model of a record.
    source : Source catalog registers r
    source = record_source catalog registers rs headers all r there

    -- The records with its index are those of its model's points.
    own_records : records_with r.index rs
        ≡ map (record_of r.index (2 + total_size source.preceding) source.own.id) source.all
    own_records =
        let read = reading (definitions catalog) in
        let ending = (scan registers).ending in
        let o = source in
        let walks : walk read ending 0 2 (o.preceding ++ o.own ∷ o.following) ≡ listed rs headers =
        ap (λ ms. walk read ending 0 2 ms) (sym o.splits) ∙ (records_walk catalog registers all).walks in
        let at = 2 + total_size o.preceding in
        subst (RecordsOf r.index at o.own rs) o.reads
        (model_records read ending o.preceding o.own o.following 0 2 rs headers walks r.index at
        (omega (arith, o.index)) refl)

    -- So a record with its index is that of a point of its model,
    point_there : (f : Record) → In f rs → f.index ≡ r.index → In f.point source.all
    point_there f i index =
        let test : Record → Bool = λ x. eqb x.index r.index in
        (in_records r.index (2 + total_size source.preceding) source.own.id source.all f
        (subst (In f) own_records (in_selected test f rs i (eq-eqb f.index r.index index)))).0

    -- and each point of its model has a record with its index.
    record_there : (p : ModelPoint) → In p source.all → (f : Record) × (In f rs) × (f.index ≡ r.index) × (f.point ≡ p)
    record_there p i =
        let at = 2 + total_size source.preceding in
        let f = record_of r.index at source.own.id p in
        let own = in_map (record_of r.index at source.own.id) p source.all i in
        (f, selected_in (λ x. eqb x.index r.index) f rs (subst (In f) (sym own_records) own), refl, refl)

    module _ (top : Content) (known : top_of r.id (definitions catalog) ≡ some top) where
      -- Its definition has this top group.
      same_top : source.by.definition.top ≡ top
      same_top =
          let q : some source.by.definition.top ≡ some top = sym (source_known r source) ∙ known in
          cc

      -- A scale factor of the record is one of its point.
      of_point : (f : Record) → IsFactor top f r → is_scale_factor_of source.by.definition.top f.point r.point ≡ true
      of_point f e = subst (λ (c : Content). is_scale_factor_of c f.point r.point ≡ true) (sym same_top) e.factor

      -- If its point takes its scale from a point, it has a scale factor,
      factor_exists : r.point.definition.scale_kind ≡ scale_by_point → (f : Record) × (In f rs) × IsFactor top f r
      factor_exists k =
          let o = source in
          let x = has_factor o.by.definition o.by.sound o.own.body o.all o.by.reads r.point o.holds k in
          let f = record_there x.point x.there in
          let is : is_scale_factor_of top f.0.point r.point ≡ true =
          subst (λ (p : ModelPoint). is_scale_factor_of top p r.point ≡ true) (sym f.3)
          (subst (λ (c : Content). is_scale_factor_of c x.point r.point ≡ true) same_top x.is) in
          (f.0, f.1, record { index = f.2; factor = is })

      -- only one,
      factor_only : (f g : Record) → In f rs → In g rs → IsFactor top f r → IsFactor top g r → g ≡ f
      factor_only f g i j e q =
          let o = source in
          let same : g.point ≡ f.point =
          same_factor o.by.definition o.by.sound o.own.body o.all o.by.reads f.point g.point r.point
          (point_there f i e.index) (point_there g j q.index) (of_point f e) (of_point g q) in
          one_record catalog registers rs headers all f g i j (q.index ∙ sym e.index)
          (ap (λ (p : ModelPoint). p.definition.number) same) (ap path_of same)

      -- and that is a sunssf point other than its own, without a scale, whose raw value gives its status and scale.
      pub record_factor : (f : Record) → In f rs → IsFactor top f r → FactorOf f.point r.point
      record_factor f i e =
          let o = source in
          factor_of o.by.definition o.by.sound o.own.body o.all o.by.reads f.point r.point
          (point_there f i e.index) o.holds (of_point f e)

  -- The claim holds of the records of every map.
  pub scale_factors : ScaleFactors (definitions catalog) rs
  scale_factors =
      record {
        exists = factor_exists;
        only = factor_only;
        sunssf_point = λ r there top known f i e. (record_factor r there top known f i e).code;
        gives = λ r there top known f i e. (record_factor r there top known f i e).gives;
      }

-- So it holds of the records that a listing shows.
pub shown_scale_factors : (catalog registers : List ℕ) (capacity : ℕ) (rs : List Record) (headers : ℕ)
    → listing catalog registers capacity ≡ listed rs headers → ScaleFactors (definitions catalog) rs
shown_scale_factors catalog registers capacity rs headers e =
    scale_factors catalog registers rs headers (all_shown catalog registers capacity rs headers e)
