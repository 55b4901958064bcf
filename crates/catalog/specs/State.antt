-- What checking knows between two frames (document 01, "Checking"), and how a frame changes it.
use Rattle.std.specs.Prelude.{Bool, true, false, ◌||◌, List, [], ◌∷◌, ◌++◌, ℕ, eqb}
use Rattle.catalog_frames.specs.Frames.{Point, Frame, model_frame, group_frame, point_frame, end_frame, malformed, fill}

-- An open group: its own points so far, in order, and whether a group is directly in it.
pub record OpenGroup : Type 0 where
  pub points : List Point
  pub has_group : Bool

-- The ids of the models so far; the numbers used in the open model; whether a fill group is in its top group; the open groups,
-- the innermost first. If no group is open, no model is.
pub record State : Type 0 where
  pub ids : List ℕ
  pub numbers : List ℕ
  pub has_fill : Bool
  pub open_groups : List OpenGroup

-- Before the first frame.
abbrev pub start : State
start = record { ids = []; numbers = []; has_fill = false; open_groups = [] }

-- A newly opened group.
abbrev pub opened : OpenGroup
opened = record { points = []; has_group = false }

-- The open groups after a point frame: the innermost has one more point.
abbrev pub with_point : Point → List OpenGroup → List OpenGroup
with_point p [] = []
with_point p (l ∷ ls) = record { points = l.points ++ (p ∷ []); has_group = l.has_group } ∷ ls

-- After a group frame: a new group is open in the innermost one, which now has a group.
abbrev pub with_group : List OpenGroup → List OpenGroup
with_group [] = []
with_group (l ∷ ls) = opened ∷ record { points = l.points; has_group = true } ∷ ls

-- After an end frame: the innermost group is closed.
abbrev pub closed : List OpenGroup → List OpenGroup
closed [] = []
closed (l ∷ ls) = ls

-- The state after a frame that breaks no rule. (By rule 9, every fill group is directly in the top group.)
abbrev pub next : State → Frame → State
next s (model_frame id) = record { ids = id ∷ s.ids; numbers = []; has_fill = false; open_groups = opened ∷ [] }
next s (group_frame h) =
    record {
      ids = s.ids;
      numbers = h.number ∷ s.numbers;
      has_fill = s.has_fill || eqb h.count_kind fill;
      open_groups = with_group s.open_groups;
    }
next s (point_frame p) =
    record { ids = s.ids; numbers = p.number ∷ s.numbers; has_fill = s.has_fill; open_groups = with_point p s.open_groups }
next s end_frame = record { ids = s.ids; numbers = s.numbers; has_fill = s.has_fill; open_groups = closed s.open_groups }
next s malformed = s
