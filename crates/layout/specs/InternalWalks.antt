-- Internal: the position of a walk in a catalog's frames, and what follows from it; no public contract cites this file.
use Rattle.std.specs.Prelude.{◌≡◌, Bool, false, List, [], ◌∷◌, ◌++◌, ℕ, ◌+◌, ◌-◌, ◌/◌, ◌≤◌, eqb, length, get_or}
use Rattle.std.proofs.Math.Option.{some}
use Rattle.lists.specs.Members.{among, Distinct, In}
use Rattle.catalog_frames.specs.Frames.{Point, Frame, model_frame, group_frame, point_frame, end_frame, malformed}
use Rattle.catalog.specs.Checking as Checking
use Rattle.model_definitions.specs.Definitions.{Content, point_frames, group_frames, parsed, inner, definitions}
use Rattle.model_definitions.specs.Soundness.{numbers_of, SoundGroups}
use Rattle.layout.specs.Points.{ModelPoint, Instance}
use Rattle.layout.specs.Layout.{fill_of}
use Rattle.layout.specs.Reading.{top_of, Reading, unknown, faulty, points, fault_number, reading}
use Rattle.layout.specs.FrameWalk.{onward}
use Rattle.layout.specs.PointTables.{scope_in, table_with, present_within}

-- ---- Frames

-- The rest of the content of the innermost group that is open at frame i.
unfoldable pub content_from : List ℕ → ℕ → Content
content_from ws i = inner (parsed (onward ws i)).rest

-- The frames from frame i on are that content, the end frame of its group, and then `following`.
pub record ParsesAt (ws : List ℕ) (i : ℕ) : Type 0 where
  pub following : List Frame
  pub here : onward ws i
      ≡ point_frames (content_from ws i).points ++ (group_frames (content_from ws i).groups ++ (end_frame ∷ following))

-- The frame after the end frame of the group that is open at frame i.
abbrev pub past_end : List ℕ → ℕ → ℕ
past_end ws i = i + length (content_from ws i).points + length (group_frames (content_from ws i).groups) + 1

-- A catalog that checking accepts.
abbrev pub Accepted : List ℕ → Type 0
Accepted ws = (models : ℕ) × (Checking.checked ws ≡ Checking.accepted models)

-- Is it the model frame of `id`?
abbrev pub is_model_of : ℕ → Frame → Bool
is_model_of id (model_frame found) = eqb found id
is_model_of id (group_frame h) = false
is_model_of id (point_frame p) = false
is_model_of id end_frame = false
is_model_of id malformed = false

-- ---- The table of the points in scope

-- The instance with this path whose scope is recorded in `table`.
abbrev pub instance_in : List ℕ → List ℕ → Instance
instance_in table path = record { scope = scope_in table; path = path }

-- The points of the group that is open at `frame` that begin before the end of the body, placed from `offset`.
abbrev pub present_points : List ℕ → List ℕ → ℕ → ℕ → List Point
present_points ws body offset frame = present_within (length body) offset (content_from ws frame).points

-- A table with an entry for each 16-bit number.
abbrev pub IsTable : List ℕ → Type 0
IsTable table = length table ≡ 65536

-- Two tables agree on all but these numbers.
abbrev pub AgreeExcept : List ℕ → List ℕ → List ℕ → Type 0
AgreeExcept numbers old new = (n : ℕ) → among n numbers ≡ false → get_or new n 0 ≡ get_or old n 0

-- ---- Groups

-- The level of groups of which `levels` levels are left, their own included: three at level 2, one at level 4.
abbrev pub level_of : ℕ → ℕ
level_of levels = 5 - levels

-- The groups at frame i are sound at their level, with numbers that are distinct and differ from those of the enclosing
-- points.
pub record SoundAt (ws : List ℕ) (i levels : ℕ) : Type 0 where
  pub top : List Point
  pub enclosing : List Point
  pub sound : SoundGroups top enclosing (level_of levels) (content_from ws i).groups
  pub top_in_scope : (p : Point) → In p top → In p enclosing
  pub distinct : Distinct (numbers_of (group_frames (content_from ws i).groups))
  pub apart : (p : Point) → In p enclosing → among p.number (numbers_of (group_frames (content_from ws i).groups)) ≡ false

-- At frame i a walk is at the groups of the open group, past its points: these groups are sound, and the catalog has at most
-- 4,096 frames.
pub record AtGroups (ws : List ℕ) (i levels : ℕ) : Type 0 where
  pub parses : ParsesAt ws i
  pub no_point : (content_from ws i).points ≡ []
  pub sound : SoundAt ws i levels
  pub few : length ws / 8 ≤ 4096

-- ---- Readings

-- The reading of a model with this id and body by the definitions of a catalog.
abbrev pub read_in : List ℕ → ℕ → List ℕ → Reading
read_in ws id body = reading (definitions ws) (record { id = id; body = body })

-- The points of a reading, none where it is unknown or faulty.
abbrev pub points_of : Reading → List ModelPoint
points_of unknown = []
points_of (faulty fault) = []
points_of (points ps) = ps

-- A reading has points.
abbrev pub HasPoints : Reading → Type 0
HasPoints unknown = ⊥
HasPoints (faulty fault) = ⊥
HasPoints (points ps) = Unit {0}

-- The result of surveying a model: unknown, the number of a refusal, or the number of its points.
pub data Surveyed : Type 0 where
  surveyed_unknown : Surveyed
  surveyed_refused : ℕ → Surveyed
  surveyed_points : ℕ → Surveyed

-- The result for a reading.
abbrev pub surveyed : Reading → Surveyed
surveyed unknown = surveyed_unknown
surveyed (faulty fault) = surveyed_refused (fault_number fault)
surveyed (points ps) = surveyed_points (length ps)

-- The definition of `id` is at frame `first`, `fill` is the count of its fill group, and the top points are recorded in the
-- table.
pub record Ready (ws : List ℕ) (id : ℕ) (body table : List ℕ) (first fill : ℕ) : Type 0 where
  pub known : top_of id (definitions ws) ≡ some (content_from ws first)
  pub parses : ParsesAt ws first
  pub filling : fill ≡ fill_of (content_from ws first) body
  pub is_table : IsTable table
  pub before : List ℕ
  pub table_recorded : table ≡ table_with body 0 (present_within (length body) 0 (content_from ws first).points) before
