-- Reading the frames of definitions gives the definitions back.
use mathlib.Core.Path.{◌≡◌, refl, ap, ◌∙◌}
use mathlib.Core.List.{List, [], ◌∷◌, ◌++◌}
use Rattle.catalog_frames.specs.Frames.{Point, Frame, point_frame, end_frame, words_of_all}
use Rattle.model_definitions.specs.Definitions.{Groups, no_group, group, Definition, point_frames, group_frames, definition_frames}
use Rattle.model_definitions.specs.Definitions.{catalog_frames, Parsed, prepended, parsed, definitions}
use Rattle.catalog.proofs.FrameWords.{frames_words}
use Rattle.model_definitions.proofs.TreeFrames.{group_frames_lem, definition_frames_lem}

-- The reading `r` of the frames after a group, with the points and groups of this group, which is open.
abbrev pub holding : List Point → Groups → Parsed → Parsed
holding ps g r = record { rest = record { points = ps; groups = g } ∷ r.rest; models = r.models }

-- Reading points before the groups of their group.
pub points_read : (ps : List Point) (g : Groups) (fs : List Frame) (r : Parsed)
    → parsed fs ≡ holding [] g r → parsed (point_frames ps ++ fs) ≡ holding ps g r
unfolding parsed
points_read [] g fs r e = e
points_read (p ∷ ps) g fs r e = ap (prepended (point_frame p)) (points_read ps g fs r e)

-- Reading groups up to the end frame of the group around them.
pub groups_read : (g : Groups) (fs : List Frame) → parsed (group_frames g ++ (end_frame ∷ fs)) ≡ holding [] g (parsed fs)
unfolding parsed
groups_read no_group fs = refl
groups_read (group h ps inside following) fs =
    let tail = group_frames following ++ (end_frame ∷ fs) in
    let e = points_read ps inside (group_frames inside ++ (end_frame ∷ tail)) (parsed tail) (groups_read inside tail) in
    ap parsed (group_frames_lem h ps inside following (end_frame ∷ fs)) ∙ rw (e, groups_read following fs)

-- Reading a model before the models after it.
definition_read : (d : Definition) (fs : List Frame)
    → parsed (definition_frames d ++ fs) ≡ record { rest = (parsed fs).rest; models = d ∷ (parsed fs).models }
unfolding parsed
definition_read d fs =
    let g = d.top.groups in
    let held = points_read d.top.points g (group_frames g ++ (end_frame ∷ fs)) (parsed fs) (groups_read g fs) in
    ap parsed (definition_frames_lem d fs) ∙ rw held

-- Reading the models of a catalog gives them back, and no group is open.
catalog_read : (ds : List Definition) → parsed (catalog_frames ds) ≡ record { rest = []; models = ds }
unfolding parsed
catalog_read [] = refl
catalog_read (d ∷ ds) = rw (definition_read d (catalog_frames ds), catalog_read ds)

-- The definitions of the catalog written from `ds` are `ds`.
pub definitions_back : (ds : List Definition) → definitions (words_of_all (catalog_frames ds)) ≡ ds
definitions_back ds = ap (λ (r : Parsed). r.models) (ap parsed (frames_words (catalog_frames ds)) ∙ catalog_read ds)
