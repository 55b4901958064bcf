-- The model definitions of a catalog as trees of groups (document 01, "The book": a model frame opens the top group, a group
-- frame opens a group in the innermost open group, and an end frame ends the innermost open group).
use Rattle.std.specs.Prelude.{List, [], ◌∷◌, ◌++◌, ℕ, ◌+◌}
use Rattle.catalog_frames.specs.Frames.{Point, Head, Frame, model_frame, group_frame, point_frame, end_frame, malformed, frames}

-- Sibling groups, in order: none, or a first group, given by its head, its own points and the groups inside it, and then the
-- groups after it.
pub data Groups : Type 0 where
  no_group : Groups
  group : Head → List Point → Groups → Groups → Groups

-- The content of a group: its own points, then the groups in it.
pub record Content : Type 0 where
  pub points : List Point
  pub groups : Groups

-- The definition of a model: its id and the content of its top group.
pub record Definition : Type 0 where
  pub id : ℕ
  pub top : Content

-- The number of registers that points take.
abbrev pub points_size : List Point → ℕ
points_size [] = 0
points_size (p ∷ ps) = p.size + points_size ps

-- ---- The frames of a definition

-- The frames of points.
abbrev pub point_frames : List Point → List Frame
point_frames [] = []
point_frames (p ∷ ps) = point_frame p ∷ point_frames ps

-- The frames of sibling groups: each from its group frame to its end frame.
abbrev pub group_frames : Groups → List Frame
group_frames no_group = []
group_frames (group h ps inside following) =
    (group_frame h ∷ point_frames ps) ++ (group_frames inside ++ (end_frame ∷ group_frames following))

-- The frames of a model, from its model frame to the end frame of its top group.
abbrev pub definition_frames : Definition → List Frame
definition_frames d =
    (model_frame d.id ∷ point_frames d.top.points) ++ (group_frames d.top.groups ++ (end_frame ∷ []))

-- The frames of consecutive models.
abbrev pub catalog_frames : List Definition → List Frame
catalog_frames [] = []
catalog_frames (d ∷ ds) = definition_frames d ++ catalog_frames ds

-- ---- From frames to definitions

-- The result of reading the frames from a frame on: for each group that is open there its remaining content (`rest`, the
-- innermost first), and the models that begin there or later.
pub record Parsed : Type 0 where
  pub rest : List Content
  pub models : List Definition

-- A group without content.
abbrev pub empty : Content
empty = record { points = []; groups = no_group }

-- The remaining content of the innermost open group. (The list is empty only if an end frame is missing, which is never the case
-- in an accepted catalog.)
abbrev pub inner : List Content → Content
inner [] = empty
inner (c ∷ cs) = c

-- The remaining content of the groups around it.
abbrev pub outer : List Content → List Content
outer [] = []
outer (c ∷ cs) = cs

-- One more frame, before those already read. Reading goes from the last frame to the first, so a group is complete when its
-- group frame is reached: an end frame starts an empty content, a point is added at the front, a group or model frame takes the
-- complete content. Writing the result as frames gives the frames back (`proofs/ModelFrames.antt`).
abbrev pub prepended : Frame → Parsed → Parsed
prepended (model_frame id) r =
    record { rest = outer r.rest; models = record { id = id; top = inner r.rest } ∷ r.models }
prepended (group_frame h) r =
    let here = inner r.rest in
    let around = inner (outer r.rest) in
    record {
      rest = record { points = around.points; groups = group h here.points here.groups around.groups }
          ∷ outer (outer r.rest);
      models = r.models;
    }
prepended (point_frame p) r =
    let here = inner r.rest in
    record { rest = record { points = p ∷ here.points; groups = here.groups } ∷ outer r.rest; models = r.models }
prepended end_frame r = record { rest = empty ∷ r.rest; models = r.models }
prepended malformed r = r

-- Frames read as definitions, from the last frame to the first.
unfoldable pub parsed : List Frame → Parsed
parsed [] = record { rest = []; models = [] }
parsed (f ∷ fs) = prepended f (parsed fs)

-- The model definitions of a catalog. (If it is not accepted, they may skip frames or change their order.)
abbrev pub definitions : List ℕ → List Definition
definitions ws = (parsed (frames ws)).models

-- The ids of the model frames: the known ids of a catalog, accepted or not (document 01, "The map").
abbrev pub model_ids : List Frame → List ℕ
model_ids [] = []
model_ids (model_frame id ∷ fs) = id ∷ model_ids fs
model_ids (group_frame h ∷ fs) = model_ids fs
model_ids (point_frame p ∷ fs) = model_ids fs
model_ids (end_frame ∷ fs) = model_ids fs
model_ids (malformed ∷ fs) = model_ids fs
