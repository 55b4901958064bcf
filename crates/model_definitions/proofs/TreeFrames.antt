-- The frames of groups and of a model, followed by further frames.
use mathlib.Core.Path.{◌≡◌, refl, ap}
use mathlib.Core.List.{List, [], ◌∷◌, ◌++◌, append_assoc}
use Rattle.catalog_frames.specs.Frames.{Point, Head, Frame, model_frame, group_frame, end_frame}
use Rattle.catalog.specs.Rules.{run}
use Rattle.model_definitions.specs.Definitions.{Groups, no_group, group, Definition, point_frames, group_frames, definition_frames}

-- The frames of the content of a group, up to its end frame, followed by `following`.
abbrev pub content_frames : List Point → Groups → List Frame → List Frame
content_frames ps g following = point_frames ps ++ (group_frames g ++ (end_frame ∷ following))

-- The frames of a group are its group frame, those of its content, and those of the groups after it.
pub group_frames_lem : (h : Head) (ps : List Point) (inside following : Groups) (fs : List Frame)
    → group_frames (group h ps inside following) ++ fs ≡ group_frame h ∷ content_frames ps inside (group_frames following ++ fs)
group_frames_lem h ps inside following fs = simp append_assoc

-- The frames of a model are its model frame and those of the content of its top group.
pub definition_frames_lem : (d : Definition) (fs : List Frame)
    → definition_frames d ++ fs ≡ model_frame d.id ∷ content_frames d.top.points d.top.groups fs
definition_frames_lem d fs = simp append_assoc

-- If no point follows, the run of the frames of `ps` is `ps`.
pub run_points : (ps : List Point) (fs : List Frame) → run fs ≡ [] → run (point_frames ps ++ fs) ≡ ps
run_points [] fs e = e
run_points (p ∷ ps) fs e = ap {B = List Point} (λ r. p ∷ r) (run_points ps fs e)

-- No point frame follows the points of a group.
pub run_groups : (g : Groups) (fs : List Frame) → run (group_frames g ++ (end_frame ∷ fs)) ≡ []
run_groups no_group fs = refl
run_groups (group h ps inside following) fs = refl
