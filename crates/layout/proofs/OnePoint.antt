-- A number belongs to one point of a sound definition, so points of equal number have one size.
use mathlib.Core.Path.{◌≡◌, refl, sym, ap, subst, ◌∙◌}
use mathlib.Core.Bool.{true}
use mathlib.Core.List.{List, [], ◌∷◌, ◌++◌, append_assoc, append-nil}
use borrow.Author.Tests.{eq-eqb}
use Rattle.lists.specs.Members.{among, Distinct, In, first, later}
use Rattle.lists.proofs.TestOutcomes.{clash}
use Rattle.catalog_frames.specs.Frames.{Point, Frame, model_frame, group_frame, point_frame, end_frame, malformed}
use Rattle.model_definitions.specs.Definitions.{Groups, no_group, group, Definition, point_frames, group_frames, definition_frames}
use Rattle.model_definitions.specs.Soundness.{SoundDefinition, numbers_of}
use Rattle.model_definitions.proofs.GroupNumbers.{among_later}
use Rattle.layout.specs.Tiling.{lower_points, defined_points}

-- The points of these frames.
abbrev pub frame_points : List Frame → List Point
frame_points [] = []
frame_points (model_frame id ∷ fs) = frame_points fs
frame_points (group_frame h ∷ fs) = frame_points fs
frame_points (point_frame p ∷ fs) = p ∷ frame_points fs
frame_points (end_frame ∷ fs) = frame_points fs
frame_points (malformed ∷ fs) = frame_points fs

-- The points of point frames, of the frames of groups, and of a definition's frames.
of_points_lem : (ps : List Point) (fs : List Frame) → frame_points (point_frames ps ++ fs) ≡ ps ++ frame_points fs
of_points_lem [] fs = refl
of_points_lem (p ∷ ps) fs = ap (λ qs. p ∷ qs) (of_points_lem ps fs)

pub of_groups : (g : Groups) (fs : List Frame) → frame_points (group_frames g ++ fs) ≡ lower_points g ++ frame_points fs
of_groups no_group fs = refl
of_groups (group h ps inside following) fs =
    let i = group_frames inside in
    let b = group_frames following in
    let P = lower_points inside in
    let Q = lower_points following in
    let R = frame_points fs in
    ap frame_points (append_assoc (group_frame h ∷ point_frames ps) (i ++ (end_frame ∷ b)) fs)
    ∙ of_points_lem ps ((i ++ (end_frame ∷ b)) ++ fs)
    ∙ ap (λ gs. ps ++ frame_points gs) (append_assoc i (end_frame ∷ b) fs)
    ∙ ap (λ qs. ps ++ qs) (of_groups inside ((end_frame ∷ b) ++ fs) ∙ ap (λ qs. P ++ qs) (of_groups following fs))
    ∙ ap (λ qs. ps ++ qs) (sym (append_assoc P Q R))
    ∙ sym (append_assoc ps (P ++ Q) R)

of_definition : (d : Definition) → frame_points (definition_frames d) ≡ defined_points d
of_definition d =
    let ps = d.top.points in
    let g = d.top.groups in
    of_points_lem ps (group_frames g ++ (end_frame ∷ []))
    ∙ ap (λ qs. ps ++ qs) (of_groups g (end_frame ∷ []) ∙ append-nil (lower_points g))

-- The number of a point is among the numbers of the frames.
pub number_among : (fs : List Frame) (p : Point) → In p (frame_points fs) → among p.number (numbers_of fs) ≡ true
number_among (model_frame id ∷ fs) p i = number_among fs p i
number_among (group_frame h ∷ fs) p i =
    among_later p.number h.number (numbers_of fs) (number_among fs p i)
number_among (point_frame q ∷ fs) p first = rw (eq-eqb p.number p.number refl)
number_among (point_frame q ∷ fs) p (later i) =
    among_later p.number q.number (numbers_of fs) (number_among fs p i)
number_among (end_frame ∷ fs) p i = number_among fs p i
number_among (malformed ∷ fs) p i = number_among fs p i
number_among [] p i = elim i [ ]

-- Two points with the same number are equal where no number is used twice.
same_point : (fs : List Frame) → Distinct (numbers_of fs) → (p q : Point) → In p (frame_points fs) → In q (frame_points fs)
    → p.number ≡ q.number → p ≡ q
same_point (model_frame id ∷ fs) d p q i j e = same_point fs d p q i j e
same_point (group_frame h ∷ fs) d p q i j e = same_point fs d.1 p q i j e
same_point (point_frame r ∷ fs) d p q first first e = refl
same_point (point_frame r ∷ fs) d p q first (later j) e =
    clash (sym (number_among fs q j) ∙ ap (λ n. among n (numbers_of fs)) (sym e) ∙ d.0)
same_point (point_frame r ∷ fs) d p q (later i) first e =
    clash (sym (number_among fs p i) ∙ ap (λ n. among n (numbers_of fs)) e ∙ d.0)
same_point (point_frame r ∷ fs) d p q (later i) (later j) e = same_point fs d.1 p q i j e
same_point (end_frame ∷ fs) d p q i j e = same_point fs d p q i j e
same_point (malformed ∷ fs) d p q i j e = same_point fs d p q i j e
same_point [] d p q i j e = elim i [ ]

-- So two points of a sound definition with the same number are equal.
pub one_point_lem : (d : Definition) → SoundDefinition d → (p q : Point) → In p (defined_points d) → In q (defined_points d)
    → p.number ≡ q.number → p ≡ q
one_point_lem d s p q i j e =
    let same = sym (of_definition d) in
    same_point (definition_frames d) s.distinct p q (subst (In p) same i) (subst (In q) same j) e
