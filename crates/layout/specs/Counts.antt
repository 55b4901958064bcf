-- The number of points in a model's groups.
use Rattle.std.proofs.Math.Option.{Option, none, some}
use Rattle.std.specs.Prelude.{ℕ, length}
use Rattle.catalog_frames.specs.Frames.{Head}
use Rattle.model_definitions.specs.Definitions.{Groups}
use Rattle.layout.specs.Layout.{measured, fill_measured}

-- The number, or 0 where there is none.
abbrev pub or0 : Option ℕ → ℕ
or0 none = 0
or0 (some n) = n

-- The number of points in sibling groups, all instances included.
abbrev pub groups_points : (Head → ℕ) → Groups → ℕ
groups_points = measured length

-- The number of points in one instance of the fill group, 0 where none of these groups is a fill group.
abbrev pub fill_points : (Head → ℕ) → Groups → ℕ
fill_points count g = or0 (fill_measured length count g)
