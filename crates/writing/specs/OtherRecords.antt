-- The claim on all records after an accepted write: the point written holds the raw value, the points that it scales have the
-- status and scale that it gives, and all others stay. Proof: `proofs/OtherRecords.antt`.
use Rattle.std.specs.Prelude.{◌≡◌, true, false, List, ℕ}
use Rattle.std.proofs.Math.Option.{some}
use Rattle.lists.specs.Tests.{first_with}
use Rattle.lists.specs.Each.{Pairwise}
use Rattle.model_definitions.specs.Definitions.{Content, definitions}
use Rattle.layout.specs.Reading.{top_of}
use Rattle.listing.specs.Listing.{Record, listed, all_records, listing}
use Rattle.listing.specs.Finding.{is_record, target_of}
use Rattle.writing.specs.AfterWriting.{is_scale_factor_of, Holds, rescaled, OfSamePoint}
use Rattle.writing.specs.ScaleFactors.{ScaleFactors}

-- Record r has become s by writing `raw` to the point of record w, in a model with the top group `top`. It is of the same point. A
-- record at another address keeps what a write to it needs. A record of another model is unchanged. A record of the same model at
-- another address is unchanged unless w is its scale factor; then only its status and scale change. The record w itself holds `raw`.
pub record Change (top : Content) (w : Record) (raw : ℕ) (r s : Record) : Type 0 where
  pub same : OfSamePoint r s
  pub target : (r.address ≡ w.address → ⊥) → target_of s ≡ target_of r
  pub unchanged : (r.index ≡ w.index → ⊥) → s ≡ r
  pub unscaled : (r.address ≡ w.address → ⊥) → is_scale_factor_of top w.point r.point ≡ false → s ≡ r
  pub scaled : r.index ≡ w.index → (r.address ≡ w.address → ⊥) → is_scale_factor_of top w.point r.point ≡ true
      → s ≡ record { index = r.index; id = r.id; address = r.address; point = rescaled raw r.point }
  pub holds : r.index ≡ w.index → r.address ≡ w.address → Holds raw r.point s.point

-- What holds of all records after an accepted write, and so of what a listing with any capacity shows, where the map before it has the
-- records `before` and these headers (`all`): the same number of records in the same order, each changed as `Change` says by the point
-- that was found; and each that takes its scale from a point has the status and scale that the record of its scale factor gives.
pub record OtherRecords (catalog map : List ℕ) (before : List Record) (headers : ℕ)
    (all : all_records catalog map ≡ listed before headers) (index number : ℕ) (path : List ℕ) (raw : ℕ) (new : List ℕ) : Type 0 where
  pub after : List Record
  pub all_after : all_records catalog new ≡ listed after headers
  pub point : Record
  pub found : first_with (is_record index number path) before ≡ some point
  pub top : Content
  pub known : top_of point.id (definitions catalog) ≡ some top
  pub changes : Pairwise (Change top point raw) before after
  pub factors : ScaleFactors (definitions catalog) after
  pub shown : (capacity : ℕ) (rs : List Record) (n : ℕ) → listing catalog map capacity ≡ listed rs n
      → (rs ≡ before) × (listing catalog new capacity ≡ listed after n)
