-- Rules 3 to 10 for a frame (document 01, "Checking"), in order: the first broken rule decides.
use Rattle.std.specs.Prelude.{Bool, true, false, not, ◌&&◌, ◌||◌, List, [], ◌∷◌, ◌++◌, ℕ, eqb, leb, length}
use Rattle.std.proofs.Math.Option.{Option}
use Rattle.lists.specs.Members.{among}
use Rattle.lists.specs.Tests.{one_holds, first_broken}
use Rattle.catalog_frames.specs.Frames.{Point, Head, Frame, model_frame, group_frame, point_frame, end_frame, malformed}
use Rattle.catalog_frames.specs.Frames.{uint16, sunssf, read_only}
use Rattle.frame_rules.specs.FrameTests.{has_bad_type, scale_tests, count_tests}
use Rattle.catalog.specs.State.{OpenGroup, State}

-- ---- What the rules look at. Rules after 4 may assume an open model; without one, rule 4 has already refused.

-- No model is open.
abbrev pub no_model : List OpenGroup → Bool
no_model [] = true
no_model (l ∷ ls) = false

-- The top group is the innermost open one.
abbrev pub in_top : List OpenGroup → Bool
in_top [] = false
in_top (l ∷ ls) = no_model ls

-- A group is directly in the innermost open one.
abbrev pub after_group : List OpenGroup → Bool
after_group [] = false
after_group (l ∷ ls) = l.has_group

-- The points of the unbroken run of point frames at the start of these frames.
abbrev pub run : List Frame → List Point
run [] = []
run (model_frame id ∷ fs) = []
run (group_frame h ∷ fs) = []
run (point_frame p ∷ fs) = p ∷ run fs
run (end_frame ∷ fs) = []
run (malformed ∷ fs) = []

-- The points so far of all these groups.
abbrev pub points_of : List OpenGroup → List Point
points_of [] = []
points_of (l ∷ ls) = l.points ++ points_of ls

-- The points that a scale reference may name (rule 8): those of the same unbroken run of point frames, earlier and later ones,
-- and those directly in an enclosing group.
abbrev pub points_in_scope : List OpenGroup → List Point → List Point
points_in_scope [] upcoming_run = upcoming_run
points_in_scope (l ∷ ls) upcoming_run = (l.points ++ upcoming_run) ++ points_of ls

-- The points so far of the top group, which is the last of the open groups.
abbrev pub top_points : List OpenGroup → List Point
top_points [] = []
top_points (l ∷ ls) = elim (no_model ls) [ true ↦ l.points | false ↦ top_points ls ]

-- Does one of the points satisfy `such`?
abbrev pub has_point : (Point → Bool) → List Point → Bool
has_point such [] = false
has_point such (p ∷ ps) = such p || has_point such ps

-- Is `p` a sunssf point with the number n?
abbrev pub is_scale_factor_point : ℕ → Point → Bool
is_scale_factor_point n p = eqb p.number n && eqb p.type_code sunssf

-- Is there a sunssf point with the number n among `ps`?
abbrev pub has_scale_factor : ℕ → List Point → Bool
has_scale_factor n ps = has_point (is_scale_factor_point n) ps

-- Is `p` a uint16 point with the number n and access R?
abbrev pub is_count_point : ℕ → Point → Bool
is_count_point n p = eqb p.number n && eqb p.type_code uint16 && eqb p.access read_only

-- Is there a uint16 point with the number n and access R among `ps`?
abbrev pub has_count_point : ℕ → List Point → Bool
has_count_point n ps = has_point (is_count_point n) ps

-- ---- The rules: does this frame, in this state, break the rule?

-- 3: the kind is not 1–4, or an unnamed word is not zero.
abbrev pub is_malformed : Frame → Bool
is_malformed (model_frame id) = false
is_malformed (group_frame h) = false
is_malformed (point_frame p) = false
is_malformed end_frame = false
is_malformed malformed = true

-- 4: a model frame inside a model; any other frame with no model open; a point after a group in the same group; a group directly
-- in the top group after a fill group.
abbrev pub has_bad_place : State → Frame → Bool
has_bad_place s (model_frame id) = not (no_model s.open_groups)
has_bad_place s (group_frame h) = no_model s.open_groups || in_top s.open_groups && s.has_fill
has_bad_place s (point_frame p) = no_model s.open_groups || after_group s.open_groups
has_bad_place s end_frame = no_model s.open_groups
has_bad_place s malformed = false

-- 5: a group that would be at a fifth level. The top group is level 1.
abbrev pub is_too_deep : State → Frame → Bool
is_too_deep s (model_frame id) = false
is_too_deep s (group_frame h) = leb 4 (length s.open_groups)
is_too_deep s (point_frame p) = false
is_too_deep s end_frame = false
is_too_deep s malformed = false

-- 6: a model id 0, 65535 or already used; a point's or group's number 0 or already used in this model.
abbrev pub has_bad_number : State → Frame → Bool
has_bad_number s (model_frame id) = eqb id 0 || eqb id 65535 || among id s.ids
has_bad_number s (group_frame h) = eqb h.number 0 || among h.number s.numbers
has_bad_number s (point_frame p) = eqb p.number 0 || among p.number s.numbers
has_bad_number s end_frame = false
has_bad_number s malformed = false

-- 7: an unknown type or wrong size; group type, mandatory or access not 0 or 1. This is `has_bad_type` of `frame_rules`.

-- The clauses of rule 8 for point `p`, given the points in scope.
abbrev pub scale_faults : List Point → Point → List Bool
scale_faults in_scope p = scale_tests (has_scale_factor p.scale in_scope) p

-- 8: a scale kind over 2; kind 0 with word 5 not 0; kind 1 or 2 on a type that may not be scaled; a fixed scale factor outside
-- −10 to 10; kind 2 that names no sunssf point in scope.
abbrev pub has_bad_scale : State → List Point → Frame → Bool
has_bad_scale s upcoming_run (model_frame id) = false
has_bad_scale s upcoming_run (group_frame h) = false
has_bad_scale s upcoming_run (point_frame p) = one_holds (scale_faults (points_in_scope s.open_groups upcoming_run) p)
has_bad_scale s upcoming_run end_frame = false
has_bad_scale s upcoming_run malformed = false

-- The clauses of rule 9 for a group: `top` is the points of the top group, `direct` says whether the group is directly in it.
abbrev pub count_faults : List Point → Bool → Head → List Bool
count_faults top direct h = count_tests (has_count_point h.count top) direct h

-- 9: a count kind over 2; a constant 0; kind 1 that names no uint16 R point directly in the top group; fill outside the top
-- group, or with word 4 not 0.
abbrev pub has_bad_count : State → Frame → Bool
has_bad_count s (model_frame id) = false
has_bad_count s (group_frame h) = one_holds (count_faults (top_points s.open_groups) (in_top s.open_groups) h)
has_bad_count s (point_frame p) = false
has_bad_count s end_frame = false
has_bad_count s malformed = false

-- Is there no point?
abbrev pub no_point : List Point → Bool
no_point [] = true
no_point (p ∷ ps) = false

-- 10: the end of a lower group with no point of its own, or of a top group with neither point nor group.
abbrev pub lacks_content : List OpenGroup → Frame → Bool
lacks_content ls (model_frame id) = false
lacks_content ls (group_frame h) = false
lacks_content ls (point_frame p) = false
lacks_content [] end_frame = false
lacks_content (l ∷ ls) end_frame = no_point l.points && not (no_model ls && l.has_group)
lacks_content ls malformed = false

-- ---- The rules in order

-- Each rule for a frame, in order: whether it is broken, and its number. `upcoming_run` is the run of points from this frame on.
abbrev pub rules : State → Frame → List Point → List (Bool × ℕ)
rules s f upcoming_run =
    (is_malformed f, 3)
    ∷ (has_bad_place s f, 4)
    ∷ (is_too_deep s f, 5)
    ∷ (has_bad_number s f, 6)
    ∷ (has_bad_type f, 7)
    ∷ (has_bad_scale s upcoming_run f, 8)
    ∷ (has_bad_count s f, 9)
    ∷ (lacks_content s.open_groups f, 10)
    ∷ []

-- The number of the first rule that the frame breaks, if it breaks one.
abbrev pub fault : State → Frame → List Point → Option ℕ
fault s f upcoming_run = first_broken (rules s f upcoming_run)
