-- A model's points fill its body: they are consecutive, from the register after the length to the last register.
use Rattle.std.specs.Prelude.{◌≡◌, List, [], ◌∷◌, ◌++◌, ℕ, ◌+◌, ◌≤◌}
use Rattle.lists.specs.Each.{Each}
use Rattle.lists.specs.Members.{In}
use Rattle.catalog_frames.specs.Frames.{Point}
use Rattle.model_definitions.specs.Definitions.{Groups, no_group, group, Definition}
use Rattle.layout.specs.Points.{ModelPoint}

-- ---- The points of a definition

-- The points of groups and of the groups nested in them.
abbrev pub lower_points : Groups → List Point
lower_points no_group = []
lower_points (group h ps inside following) = ps ++ (lower_points inside ++ lower_points following)

-- All points of a model's definition.
abbrev pub defined_points : Definition → List Point
defined_points d = d.top.points ++ lower_points d.top.groups

-- ---- Tiling

-- Consecutive elements without gap or overlap, from the address `from` up to `to`: each takes at least one register, and the
-- next begins where it ends.
abbrev pub Tiles : {A : Type 0} → (A → ℕ) → (A → ℕ) → ℕ → ℕ → List A → Type 0
Tiles at size from to [] = from ≡ to
Tiles at size from to (x ∷ xs) = (at x ≡ from) × (1 ≤ size x) × Tiles at size (from + size x) to xs

-- Elements in the order of their addresses, without overlap but perhaps with gaps, from the address `from` on: each takes at least one
-- register, and the next begins where it ends or later.
abbrev pub Rises : {A : Type 0} → (A → ℕ) → (A → ℕ) → ℕ → List A → Type 0
Rises at size from [] = Unit {0}
Rises at size from (x ∷ xs) = (from ≤ at x) × (1 ≤ size x) × Rises at size (at x + size x) xs

-- The points tile the registers of a body between two offsets, each with the size in its own definition.
abbrev pub PointsTile : ℕ → ℕ → List ModelPoint → Type 0
PointsTile = Tiles (λ p. p.offset) (λ p. p.definition.size)

-- Each point of a model is one of its definition's points, and together they fill its body of `len` registers.
pub record BodyTiled (d : Definition) (len : ℕ) (ps : List ModelPoint) : Type 0 where
  pub defined : Each (λ p. In p.definition (defined_points d)) ps
  pub tiles : PointsTile 0 len ps
