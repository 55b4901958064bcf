-- The claim that an accepted write reads back, and that no other register changes (document 01, "Writing").
-- Proof: `proofs/ReadBack.antt`.
use Rattle.std.specs.Prelude.{◌≡◌, List, ◌⊎◌, ℕ, ◌+◌, ◌≤◌, ◌<◌, length, get_or}
use Rattle.std.proofs.Math.Option.{none, some}
use Rattle.lists.specs.Tests.{first_with}
use Rattle.lists.specs.Each.{Pairwise}
use Rattle.lists.specs.Members.{In}
use Rattle.values.specs.Classes.{value, of_class}
use Rattle.catalog_frames.specs.Frames.{scale_by_point}
use Rattle.model_definitions.specs.Definitions.{Content, definitions}
use Rattle.layout.specs.Points.{status_of, scale_of}
use Rattle.layout.specs.Reading.{top_of}
use Rattle.listing.specs.Listing.{Record, listed, all_records}
use Rattle.listing.specs.Finding.{is_record, target_of}
use Rattle.writing.specs.Writing.{refusal, rewritten}
use Rattle.writing.specs.AfterWriting.{OfSamePoint, RecordAfter}
use Rattle.writing.specs.ScaleFactors.{IsFactor}

-- The status and the scale of the point written; its record was w and is s. If the point takes its scale from a point, the record f
-- of its scale factor is among those before the write, stays as it is, and gives the status and the scale by its raw value. Else the
-- status is 0 and the scale is the fixed one, or 0.
pub record ScaledBy (top : Content) (before after : List Record) (w s : Record) : Type 0 where
  pub exists : w.point.definition.scale_kind ≡ scale_by_point → (f : Record) × (In f before) × IsFactor top f w
  pub stays : (f : Record) → In f before → IsFactor top f w → In f after
  pub status : (f : Record) → In f before → IsFactor top f w
      → s.point.status ≡ status_of w.point.definition (of_class value) f.point.raw
  pub scale : (f : Record) → In f before → IsFactor top f w
      → s.point.scale ≡ scale_of w.point.definition s.point.status f.point.raw
  pub unscaled : (w.point.definition.scale_kind ≡ scale_by_point → ⊥)
      → (s.point.status ≡ 0) × (s.point.scale ≡ scale_of w.point.definition 0 0)

-- What holds after an accepted write of `raw`, where `new` is the map after it, and the map before it has the records `before` and these
-- headers (`all`). `point` is the record of the point asked for, which is not refused. After the write there are the same number of
-- records and the same headers, and each record has changed as `RecordAfter` says. `point_after` is the record of the point asked for: it
-- is of the same point, holds `raw`, and is neither unimplemented nor out of range; its scale point, if it has one, gives its status and
-- scale. All other registers stay.
pub record ReadBack (catalog map : List ℕ) (before : List Record) (headers : ℕ) (all : all_records catalog map ≡ listed before headers)
    (index number : ℕ) (path : List ℕ) (raw : ℕ) (new : List ℕ) : Type 0 where
  pub point : Record
  pub found : first_with (is_record index number path) before ≡ some point
  pub accepted : refusal (target_of point) raw ≡ none
  pub rewrites : new ≡ rewritten (target_of point) raw map
  pub after : List Record
  pub all_after : all_records catalog new ≡ listed after headers
  pub pairs : Pairwise (RecordAfter (definitions catalog) point raw) before after
  pub point_after : Record
  pub found_after : first_with (is_record index number path) after ≡ some point_after
  pub holds : point_after.point.raw ≡ raw
  pub same : OfSamePoint point point_after
  pub implemented : point_after.point.status ≡ 1 → ⊥
  pub mandatory : point_after.point.status ≡ 2 → ⊥
  pub in_range : point_after.point.status ≡ 5 → ⊥
  pub top : Content
  pub known : top_of point.id (definitions catalog) ≡ some top
  pub scaled_by : ScaledBy top before after point point_after
  pub same_length : length new ≡ length map
  pub outside : (k : ℕ) → (k < point.address) ⊎ (point.address + point.point.definition.size ≤ k)
      → get_or new k 0 ≡ get_or map k 0
