-- The code's types as the definitions see them: frames by kind, and runs of points.
use Rattle.std.specs.Prelude as Code
use Rattle.std.specs.Prelude.{◌≡◌, Bool, true, false, ◌&&◌, List, ℕ, ◌+◌, eqb, length, Some, None}
use Rattle.std.proofs.Math.Option.{Option, none, some}
use Rattle.catalog_frames.specs.Frames as Frames
use Rattle.catalog_frames.specs.CodeTypes.{to_spec_head, to_spec_point}
use Rattle.model_definitions.specs.Definitions.{points_size}
use Rattle.layout.specs.Reading.{ends_with_pad}
use Rattle.catalog_frames.specs.declared.Point.{Point}
use Rattle.catalog_frames.specs.declared.Head.{Head}
use Rattle.catalog.specs.Rules.{run}
use Rattle.layout.specs.FrameWalk.{onward}
use Rattle.definition_frames.specs.declared.points.Points.{Points}
use Rattle.definition_frames.specs.declared.runs.Run.{Run}

-- What `point_at` returns: the point of a point frame; none for any other frame.
abbrev pub to_spec_point_or : Code.Option Point → Option Frames.Point
to_spec_point_or (Some p) = some (to_spec_point p)
to_spec_point_or None = none

-- What `group_at` returns: the head of a group frame; none for any other frame.
abbrev pub to_spec_group_or : Code.Option Head → Option Frames.Head
to_spec_group_or (Some h) = some (to_spec_head h)
to_spec_group_or None = none

-- The points that `Points` has still to give.
abbrev pub points_left : Points → List Frames.Point
points_left s = run (onward s.catalog.now s.frame)

-- A run of points: its registers, its number of points, the frame after it, and whether its last point is a pad.
pub record PointRun : Type 0 where
  pub size : ℕ
  pub points : ℕ
  pub next : ℕ
  pub pad : Bool

-- The run that `run_extent` returns.
abbrev pub to_spec_run : Run → PointRun
to_spec_run r = record { size = r.size; points = r.points; next = r.next; pad = r.ends_with_pad }

-- The run of these points from frame `first` on.
abbrev pub run_of : List Frames.Point → ℕ → PointRun
run_of ps first =
    record { size = points_size ps; points = length ps; next = first + length ps; pad = ends_with_pad ps }

-- `r` is the run of these points from frame `first` on, part by part.
pub record RunOf (ps : List Frames.Point) (first : ℕ) (r : Run) : Type 0 where
  pub size : r.size ≡ points_size ps
  pub points : r.points ≡ length ps
  pub next : r.next ≡ first + length ps
  pub pad : r.ends_with_pad ≡ ends_with_pad ps

-- Is there no group?
abbrev pub is_none : Option Frames.Head → Bool
is_none none = true
is_none (some h) = false

-- Is the last pad of a model left out? `run` is its top points, `next` the group after them, and `len` the model's length.
-- Document 01 allows it for id 1 if there is no group, the last point is a pad and the length is one register short.
abbrev pub lacks_pad : ℕ → PointRun → Option Frames.Head → ℕ → Bool
lacks_pad id run next len = eqb id 1 && (run.pad && (eqb (len + 1) run.size && is_none next))
