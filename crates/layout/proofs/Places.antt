-- The registers of one point of a model compared with those of another.
use mathlib.Core.Path.{◌≡◌}
use mathlib.Core.Bool.{true}
use mathlib.Core.Logic.{◌⊎◌}
use Prim.Native.Nat.{◌+◌, ◌≤◌}
use Rattle.model_definitions.specs.Definitions.{Content}
use Rattle.layout.specs.Points.{ModelPoint}
use Rattle.layout.specs.Paths.{depth_in, agree_to, path_of}

-- p is w, or it ends before w or begins after it; and a point with w's number in w's instance is w.
pub record Place (top : Content) (w p : ModelPoint) : Type 0 where
  pub same : p.offset ≡ w.offset → p ≡ w
  pub apart : (p.offset ≡ w.offset → ⊥)
      → (p.offset + p.definition.size ≤ w.offset) ⊎ (w.offset + w.definition.size ≤ p.offset)
  pub found : p.definition.number ≡ w.definition.number
      → agree_to (depth_in w.definition.number top.groups) (path_of w) (path_of p) ≡ true
      → p.offset ≡ w.offset
