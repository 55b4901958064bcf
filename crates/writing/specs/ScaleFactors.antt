-- The claim on the scale points of listed records: each is that of the same instance or of one around it (document 01, "Status of a
-- point"). Proof: `proofs/ScaleFactors.antt`.
use Rattle.std.specs.Prelude.{◌≡◌, true, List}
use Rattle.std.proofs.Math.Option.{some}
use Rattle.lists.specs.Members.{In}
use Rattle.catalog_frames.specs.Frames.{scale_by_point, sunssf}
use Rattle.model_definitions.specs.Definitions.{Content, Definition}
use Rattle.layout.specs.Reading.{top_of}
use Rattle.listing.specs.Listing.{Record}
use Rattle.writing.specs.AfterWriting.{is_scale_factor_of, rescaled}

-- Record f is that of the scale factor of record r: it is of the same model, whose definition has the top group `top`.
pub record IsFactor (top : Content) (f r : Record) : Type 0 where
  pub index : f.index ≡ r.index
  pub factor : is_scale_factor_of top f.point r.point ≡ true

-- What holds of the records `rs` of a map, by the definitions `ds` of its catalog. A record whose point takes its scale from a point
-- has exactly one scale factor among them. That is a sunssf point, and its raw value gives the status and the scale of the record.
pub record ScaleFactors (ds : List Definition) (rs : List Record) : Type 0 where
  pub exists : (r : Record) → In r rs → (top : Content) → top_of r.id ds ≡ some top
      → r.point.definition.scale_kind ≡ scale_by_point → (f : Record) × (In f rs) × IsFactor top f r
  pub only : (r : Record) → In r rs → (top : Content) → top_of r.id ds ≡ some top
      → (f g : Record) → In f rs → In g rs → IsFactor top f r → IsFactor top g r → g ≡ f
  pub sunssf_point : (r : Record) → In r rs → (top : Content) → top_of r.id ds ≡ some top
      → (f : Record) → In f rs → IsFactor top f r → f.point.definition.type_code ≡ sunssf
  pub gives : (r : Record) → In r rs → (top : Content) → top_of r.id ds ≡ some top
      → (f : Record) → In f rs → IsFactor top f r → r.point ≡ rescaled f.point.raw r.point
