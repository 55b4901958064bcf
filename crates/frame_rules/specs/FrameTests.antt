-- Rules 4 to 10 (document 01, "Checking") for a single frame, given facts about the frames around it.
use Rattle.std.specs.Prelude.{Bool, false, not, ◌&&◌, ◌||◌, List, [], ◌∷◌, ℕ, eqb, leb, ltb}
use Rattle.std.proofs.Math.Option.{none, some}
use Rattle.point_types.specs.Rows.{may_scale, registers_of}
use Rattle.values.specs.Classes.{twos_complement, is_scale_factor}
use Rattle.catalog_frames.specs.Frames.{Point, Head, Frame, model_frame, group_frame, point_frame, end_frame, malformed, no_scale}
use Rattle.catalog_frames.specs.Frames.{fixed_scale, scale_by_point, constant_count, count_by_point, fill}

-- Is `size` a size of the type with this code? An unknown type has none.
unfoldable pub is_size_of : ℕ → ℕ → Bool
is_size_of code size =
    elim (registers_of code) [ none ↦ false | some r ↦ leb r.0 size && leb size r.1 ]

-- 7: an unknown type or wrong size; group type, mandatory or access not 0 or 1.
abbrev pub has_bad_type : Frame → Bool
has_bad_type (model_frame id) = false
has_bad_type (group_frame h) = ltb 1 h.group_type
has_bad_type (point_frame p) = not (is_size_of p.type_code p.size) || ltb 1 p.mandatory || ltb 1 p.access
has_bad_type end_frame = false
has_bad_type malformed = false

-- ---- For each kind of frame the rules that it can break, in order: whether it breaks the rule, and the rule's number

-- A model frame. `depth` is the number of open groups, here and below; `used` says whether its id is already used.
abbrev pub model_tests : ℕ → Bool → ℕ → List (Bool × ℕ)
model_tests depth used id = (not (eqb depth 0), 4) ∷ (eqb id 0 || eqb id 65535 || used, 6) ∷ []

-- A group frame. `has_fill` says whether a fill group is in the top group, `used` whether its number is already used, `bad_count`
-- whether it breaks rule 9.
abbrev pub group_tests : ℕ → Bool → Bool → Bool → Head → List (Bool × ℕ)
group_tests depth has_fill used bad_count h =
    (eqb depth 0 || eqb depth 1 && has_fill, 4)
    ∷ (leb 4 depth, 5)
    ∷ (eqb h.number 0 || used, 6)
    ∷ (ltb 1 h.group_type, 7)
    ∷ (bad_count, 9)
    ∷ []

-- A point frame. `has_group` says whether a group is directly in the innermost open one, here and below, `used` whether its
-- number is already used, `bad_scale` whether it breaks rule 8.
abbrev pub point_tests : ℕ → Bool → Bool → Bool → Point → List (Bool × ℕ)
point_tests depth has_group used bad_scale p =
    (eqb depth 0 || has_group, 4) ∷ (eqb p.number 0 || used, 6) ∷ (has_bad_type (point_frame p), 7) ∷ (bad_scale, 8) ∷ []

-- An end frame. `empty` says whether the group that ends has no point of its own.
abbrev pub end_tests : ℕ → Bool → Bool → List (Bool × ℕ)
end_tests depth has_group empty = (eqb depth 0, 4) ∷ (empty && not (eqb depth 1 && has_group), 10) ∷ []

-- The clauses of rule 8, true if broken. `known` says whether a sunssf point with the number in word 5 is in scope.
abbrev pub scale_tests : Bool → Point → List Bool
scale_tests known p =
    ltb 2 p.scale_kind
    ∷ (eqb p.scale_kind no_scale && not (eqb p.scale 0))
    ∷ (not (eqb p.scale_kind no_scale) && not (may_scale p.type_code))
    ∷ (eqb p.scale_kind fixed_scale && not (is_scale_factor (twos_complement 16 p.scale)))
    ∷ (eqb p.scale_kind scale_by_point && not known)
    ∷ []

-- The clauses of rule 9, true if broken. `counted` says whether a uint16 R point with the number in word 4 is directly in the
-- top group, `direct` whether the group itself is.
abbrev pub count_tests : Bool → Bool → Head → List Bool
count_tests counted direct h =
    ltb 2 h.count_kind
    ∷ (eqb h.count_kind constant_count && eqb h.count 0)
    ∷ (eqb h.count_kind count_by_point && not counted)
    ∷ (eqb h.count_kind fill && not direct)
    ∷ (eqb h.count_kind fill && not (eqb h.count 0))
    ∷ []
