-- The records of one model tile its registers, from the one after its length register to its last.
use Rattle.std.specs.Prelude.{◌≡◌, List, ℕ, eqb}
use Rattle.lists.specs.Each.{Each}
use Rattle.lists.specs.Members.{In}
use Rattle.lists.specs.Tests.{selected}
use Rattle.model_definitions.specs.Definitions.{Definition}
use Rattle.layout.specs.Tiling.{defined_points, Tiles}
use Rattle.listing.specs.Listing.{Record}

-- The records rs are of a model with the definition d, each of a point of d, and tile the registers from `from` up to `to`.
pub record RecordsTiled (d : Definition) (from to : ℕ) (rs : List Record) : Type 0 where
  pub defined : Each (λ r. In r.point.definition (defined_points d)) rs
  pub tiles : Tiles (λ r. r.address) (λ r. r.point.definition.size) from to rs
  pub ids : Each (λ r. r.id ≡ d.id) rs

-- The records of the model with this index.
abbrev pub records_with : ℕ → List Record → List Record
records_with index = selected (λ r. eqb r.index index)
