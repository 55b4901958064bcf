-- Internal: what a walk over the models of a map gives; no public contract cites this file.
use Rattle.std.specs.Prelude.{◌≡◌, Option, Some, None, List, ℕ, ◌+◌, ◌≤◌, eqb, length, take, drop}
use Rattle.register_map.specs.Headers.{Header, model, end_marker, refused, header_at}
use Rattle.listing.specs.declared.models.Models.{Models}
use Rattle.listing.specs.declared.models.ModelAt.{ModelAt}

-- The header that the walk is at.
abbrev pub header_there : Models → Header
header_there s = header_at (eqb s.at 2) (drop s.at s.map.now)

-- The header is that of no model.
abbrev pub IsNoModel : Header → Type 0
IsNoModel (model id len) = ⊥
IsNoModel end_marker = Unit {0}
IsNoModel (refused number) = Unit {0}

-- The walk may go on.
pub record CanWalk (s : Models) : Type 0 where
  pub low : 2 ≤ s.at
  pub high : s.at ≤ 65536
  pub short : length s.map.now ≤ 65536

-- The walk is at the first header of the map.
pub record StartsAt (map : List ℕ) (s : Models) : Type 0 where
  pub at : s.at ≡ 2
  pub map_is : s.map.now ≡ map

-- The walk from s gave the model m there, and went on to t.
pub record ModelGiven (s : Models) (m : ModelAt) (t : Models) : Type 0 where
  pub address : m.address ≡ s.at
  pub header : header_there s ≡ model m.id (length m.body.now)
  pub body : m.body.now ≡ take (length m.body.now) (drop (s.at + 2) s.map.now)
  pub same_map : t.map.now ≡ s.map.now
  pub next : t.at ≡ s.at + (2 + length m.body.now)

-- A call from s gives the model there and goes on to t, or nothing if there is no model.
abbrev pub GivesModel : Models → Option ModelAt → Models → Type 0
GivesModel s None t = (t ≡ s) × IsNoModel (header_there s)
GivesModel s (Some m) t = ModelGiven s m t
