-- In an accepted map the points of each known model are consecutive, without gap or overlap, from the register after its length
-- register to its last. (A pad that is left out has no record, and the last register is then that of the point before it.)
use mathlib.Core.Path.{◌≡◌, ap, ◌∙◌}
use mathlib.Core.Bool.{false}
use mathlib.Core.List.{List, [], ◌∷◌, ◌++◌}
use Prim.Native.Nat.{ℕ, ◌+◌}
use lib.ListN.{length}
use Rattle.lists.specs.Members.{among, In}
use Rattle.catalog_frames.specs.Frames.{frames}
use Rattle.catalog.specs.Checking.{accepted, checked}
use Rattle.model_definitions.specs.Definitions.{Definition, definitions, model_ids}
use Rattle.model_definitions.proofs.ModelIds.{ids_of_model_frames}
use Rattle.register_map.specs.Scan.{Model, size_of, total_size, scan}
use Rattle.layout.specs.Points.{ModelPoint}
use Rattle.layout.specs.Reading.{points, reading}
use Rattle.layout.specs.Tiling.{BodyTiled}
use Rattle.listing.specs.Listing.{Record, listed, listing}
use Rattle.listed_records.specs.Tiling.{RecordsTiled, records_with}
use Rattle.listed_records.proofs.RecordsTiling as steps

module _ (catalog registers : List ℕ) (capacity : ℕ) (rs : List Record) (headers : ℕ)
    (accept : listing catalog registers capacity ≡ listed rs headers)
    (preceding : List Model) (m : Model) (following : List Model) (splits : (scan registers).models ≡ preceding ++ m ∷ following) where
  -- The records of a model that the catalog knows fill it, from the register after its length register to its last. (The header of
  -- the first model has address 2.)
  pub points_tile : (d : Definition) → In d (definitions catalog) → d.id ≡ m.id
      → RecordsTiled d (2 + total_size preceding + 2) (2 + total_size preceding + size_of m) (records_with (length preceding) rs)
  points_tile d o same = steps.model_filled catalog registers capacity rs headers accept preceding m following splits d o same

  -- A model that the catalog does not know has no record.
  pub unknown_has_none : among m.id (model_ids (frames catalog)) ≡ false → records_with (length preceding) rs ≡ []
  unknown_has_none e =
      steps.nothing_unknown catalog registers capacity rs headers accept preceding m following splits
      (ap (among m.id) (ids_of_model_frames catalog) ∙ e)

-- The points of a model, as an accepted catalog reads them, fill its body.
pub body_tiled : (catalog : List ℕ) (n : ℕ) → checked catalog ≡ accepted n
    → (d : Definition) → In d (definitions catalog) → (m : Model) → d.id ≡ m.id
    → (ps : List ModelPoint) → reading (definitions catalog) m ≡ points ps → BodyTiled d (length m.body) ps
body_tiled catalog n e d o m same ps r = steps.body_filled catalog n e d o m same ps r
