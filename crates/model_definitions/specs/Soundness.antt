-- What holds of the definitions of an accepted catalog: the rules of document 01, "Checking", stated for the trees instead of
-- frame by frame. A catalog is accepted if and only if its words are those of its definitions and these are sound. Rules 1, 3
-- and 11 and the rest of 4 hold for the words of any trees (`proofs/AcceptedIsSound.antt`, `SoundIsAccepted.antt`).
use Rattle.std.specs.Prelude.{◌≡◌, true, List, [], ◌∷◌, ◌++◌, ℕ, suc, ◌≤◌, length}
use Rattle.lists.specs.Members.{In, Distinct}
use Rattle.lists.specs.Each.{Each}
use Rattle.point_types.specs.Rows.{may_scale}
use Rattle.values.specs.Classes.{twos_complement, is_scale_factor}
use Rattle.catalog_frames.specs.Frames.{Point, Head, Frame, model_frame, group_frame, point_frame, end_frame, malformed, no_scale}
use Rattle.catalog_frames.specs.Frames.{fixed_scale, scale_by_point, constant_count, count_by_point, fill, uint16, sunssf, read_only}
use Rattle.frame_rules.specs.FrameTests.{is_size_of}
use Rattle.catalog.specs.Rules.{has_scale_factor, has_count_point}
use Rattle.model_definitions.specs.Definitions.{Groups, no_group, group, Definition, definition_frames, catalog_frames}

-- The numbers of the points and groups of these frames, in order.
abbrev pub numbers_of : List Frame → List ℕ
numbers_of [] = []
numbers_of (model_frame id ∷ fs) = numbers_of fs
numbers_of (group_frame h ∷ fs) = h.number ∷ numbers_of fs
numbers_of (point_frame p ∷ fs) = p.number ∷ numbers_of fs
numbers_of (end_frame ∷ fs) = numbers_of fs
numbers_of (malformed ∷ fs) = numbers_of fs

-- A sound point (rules 7 and 8). `in_scope` is the points of its own group and of the enclosing ones.
pub record SoundPoint (in_scope : List Point) (p : Point) : Type 0 where
  pub sized : is_size_of p.type_code p.size ≡ true
  pub mandatory_flag : p.mandatory ≤ 1
  pub access_flag : p.access ≤ 1
  pub scale_known : p.scale_kind ≤ 2
  pub unscaled : p.scale_kind ≡ no_scale → p.scale ≡ 0
  pub scalable : (p.scale_kind ≡ no_scale → ⊥) → may_scale p.type_code ≡ true
  pub in_range : p.scale_kind ≡ fixed_scale → is_scale_factor (twos_complement 16 p.scale) ≡ true
  pub resolved : p.scale_kind ≡ scale_by_point → has_scale_factor p.scale in_scope ≡ true

-- A sound head of a group (rules 4, 5, 7 and 9). `top` is the points of the top group, `level` the level of the group (the top
-- group is level 1), `following` the sibling groups after it.
pub record SoundHead (top : List Point) (level : ℕ) (h : Head) (following : Groups) : Type 0 where
  pub level_in_range : level ≤ 4
  pub type_flag : h.group_type ≤ 1
  pub count_known : h.count_kind ≤ 2
  pub constant : h.count_kind ≡ constant_count → 1 ≤ h.count
  pub counted : h.count_kind ≡ count_by_point → has_count_point h.count top ≡ true
  pub filling : h.count_kind ≡ fill → (level ≡ 2) × (following ≡ no_group) × (h.count ≡ 0)

-- Sound sibling groups, with the groups in them (rule 10: each has a point of its own). `enclosing` is the points of the groups
-- around them.
abbrev pub SoundGroups : List Point → List Point → ℕ → Groups → Type 0
SoundGroups top enclosing level no_group = Unit {0}
SoundGroups top enclosing level (group h ps inside following) =
    SoundHead top level h following
    × (1 ≤ length ps)
    × Each (SoundPoint (ps ++ enclosing)) ps
    × SoundGroups top (ps ++ enclosing) (suc level) inside
    × SoundGroups top enclosing level following

-- A sound model (rules 6 and 10, and the rules for its points and groups).
pub record SoundDefinition (d : Definition) : Type 0 where
  pub not_zero : d.id ≡ 0 → ⊥
  pub not_marker : d.id ≡ 65535 → ⊥
  pub numbered : Each (λ n. 1 ≤ n) (numbers_of (definition_frames d))
  pub distinct : Distinct (numbers_of (definition_frames d))
  pub not_empty : d.top.points ≡ [] → d.top.groups ≡ no_group → ⊥
  pub points : Each (SoundPoint d.top.points) d.top.points
  pub groups : SoundGroups d.top.points d.top.points 2 d.top.groups

-- The ids of the models.
abbrev pub ids_of : List Definition → List ℕ
ids_of [] = []
ids_of (d ∷ ds) = d.id ∷ ids_of ds

-- A sound catalog (rules 2 and 6, and the rules for each model).
pub record SoundCatalog (ds : List Definition) : Type 0 where
  pub few : length (catalog_frames ds) ≤ 4096
  pub distinct : Distinct (ids_of ds)
  pub each : Each SoundDefinition ds

-- ---- Facts about every group and point

-- P holds of each of these groups and of each group in them. P is about the points of the groups around a group, its level, its
-- head, its own points and the sibling groups after it.
abbrev pub EachGroup : (List Point → ℕ → Head → List Point → Groups → Type 0) → List Point → ℕ → Groups → Type 0
EachGroup P enclosing level no_group = Unit {0}
EachGroup P enclosing level (group h ps inside following) =
    P enclosing level h ps following × EachGroup P (ps ++ enclosing) (suc level) inside × EachGroup P enclosing level following

-- P holds of each lower group of a model.
abbrev pub EachLowerGroup : (List Point → ℕ → Head → List Point → Groups → Type 0) → Definition → Type 0
EachLowerGroup P d = EachGroup P d.top.points 2 d.top.groups

-- If a point gives the scale factor of `p`, it is a sunssf point in scope.
abbrev pub ScaleResolves : List Point → Point → Type 0
ScaleResolves in_scope p =
    p.scale_kind ≡ scale_by_point → (q : Point) × (In q in_scope) × (q.number ≡ p.scale) × (q.type_code ≡ sunssf)

-- If a point gives the count, it is a uint16 point with access R in the top group.
abbrev pub CountResolves : List Point → Head → Type 0
CountResolves top h =
    h.count_kind ≡ count_by_point
    → (q : Point) × (In q top) × (q.number ≡ h.count) × (q.type_code ≡ uint16) × (q.access ≡ read_only)

-- A fill group is directly in the top group, which is level 1, and no group follows it.
abbrev pub FillsLast : ℕ → Head → Groups → Type 0
FillsLast level h following = h.count_kind ≡ fill → (level ≡ 2) × (following ≡ no_group)
