-- A walk over groups enters a group or skips it: the groups at its next position are sound too, at their level.
use mathlib.Core.Path.{◌≡◌, refl, sym, subst}
use mathlib.Core.Bool.{false}
use mathlib.Core.List.{List, [], ◌++◌}
use mathlib.Core.Option.{some}
use Prim.Native.Nat.{ℕ, suc, ◌+◌, ◌-◌, ◌/◌, ◌≤◌}
use native.Mathlib.Omega.{arith}
use lib.ListN.{length}
use Rattle.lists.specs.Members.{among, Distinct, In}
use Rattle.lists.proofs.InLaws.{in_append_right, in_either}
use Rattle.catalog_frames.specs.Frames.{Point, Head, frame_in}
use Rattle.model_definitions.specs.Definitions.{Groups, no_group, group, Definition, group_frames, definitions}
use Rattle.model_definitions.specs.Soundness.{numbers_of, SoundGroups, SoundDefinition}
use Rattle.model_definitions.proofs.GroupNumbers.{point_among, apart, none_of_parts}
use Rattle.layout.specs.Reading.{top_of}
use Rattle.layout.specs.FrameWalk.{head_of}
use Rattle.layout.specs.InternalWalks.{content_from, ParsesAt, past_end, Accepted, level_of, SoundAt, AtGroups}
use Rattle.layout.proofs.FramePosition as position
use Rattle.layout.proofs.AcceptedModels as models

-- Sound groups at a level, with numbers that are distinct and differ from those of the enclosing points.
pub record SoundBelow (top enclosing : List Point) (level : ℕ) (g : Groups) : Type 0 where
  pub sound : SoundGroups top enclosing level g
  pub top_in_scope : (p : Point) → In p top → In p enclosing
  pub distinct : Distinct (numbers_of (group_frames g))
  pub apart : (p : Point) → In p enclosing → among p.number (numbers_of (group_frames g)) ≡ false

module _ (top enclosing : List Point) (level : ℕ) (h : Head) (ps : List Point) (inside following : Groups)
    (s : SoundBelow top enclosing level (group h ps inside following)) where
  -- The groups in a group.
  pub below : SoundBelow top (ps ++ enclosing) (suc level) inside
  below =
      let a = apart ps inside following s.distinct.1 in
      record {
        sound = s.sound.3;
        top_in_scope = λ p i. in_append_right p ps enclosing (s.top_in_scope p i);
        distinct = a.inside_distinct;
        apart = λ p i.
            in_either p ps enclosing i (λ j. a.points_inside p.number (point_among p ps j))
            (λ j. (none_of_parts p.number h ps inside following (s.apart p j)).of_inside);
      }

  -- The groups after it.
  pub beside : SoundBelow top enclosing level following
  beside =
      let a = apart ps inside following s.distinct.1 in
      record {
        sound = s.sound.4;
        top_in_scope = s.top_in_scope;
        distinct = a.following_distinct;
        apart = λ p i. (none_of_parts p.number h ps inside following (s.apart p i)).of_following;
      }

-- What a walk knows at groups, as a fact about these groups,
pub sound_below : {ws : List ℕ} {i levels : ℕ} (s : SoundAt ws i levels)
    → SoundBelow s.top s.enclosing (level_of levels) (content_from ws i).groups
sound_below s = record { sound = s.sound; top_in_scope = s.top_in_scope; distinct = s.distinct; apart = s.apart }

-- and the converse.
pub position_at : {ws : List ℕ} {i levels : ℕ} {top enclosing : List Point} {g : Groups} → ParsesAt ws i → (content_from ws i).points ≡ []
    → (content_from ws i).groups ≡ g → SoundBelow top enclosing (level_of levels) g → length ws / 8 ≤ 4096 → AtGroups ws i levels
position_at {levels = levels} {top = top} {enclosing = enclosing} s n q b few =
    let c = subst (λ x. SoundBelow top enclosing (level_of levels) x) (sym q) b in
    record {
      parses = s;
      no_point = n;
      sound = record {
        top = top;
        enclosing = enclosing;
        sound = c.sound;
        top_in_scope = c.top_in_scope;
        distinct = c.distinct;
        apart = c.apart;
      };
      few = few;
    }

module _ (ws : List ℕ) (i levels : ℕ) (at : AtGroups ws i levels) (few : levels ≤ 3) (h : Head)
    (e : head_of (frame_in ws i) ≡ some h) where
  -- The group at frame i: its own points, the groups in it and the groups after it.
  abbrev own : List Point
  own = (content_from ws (i + 1)).points

  abbrev inside : Groups
  inside = (content_from ws (i + 1)).groups

  abbrev following : Groups
  following = (content_from ws (past_end ws (i + 1))).groups

  here : (content_from ws i).groups ≡ group h own inside following
  here = (position.group_next ws i at.parses at.no_point h e).0

  pub sound_here : SoundBelow at.sound.top at.sound.enclosing (level_of levels) (group h own inside following)
  sound_here =
      subst (λ g. SoundBelow at.sound.top at.sound.enclosing (level_of levels) g) here
      (sound_below at.sound)

  -- There is a level left.
  pub level_left : 1 ≤ levels
  level_left = let l = sound_here.sound.0.level_in_range in omega arith

  -- The position inside the group, past its points.
  pub into : AtGroups ws (i + 1 + length own) (levels - 1)
  into =
      let n = position.group_next ws i at.parses at.no_point h e in
      let r = position.after_run ws (i + 1) n.1 in
      let l : suc (level_of levels) ≡ level_of (levels - 1) = let z = level_left in omega arith in
      let b = below at.sound.top at.sound.enclosing (level_of levels) h own inside following sound_here in
      position_at r.2 r.0 r.1 (subst (λ k. SoundBelow at.sound.top (own ++ at.sound.enclosing) k inside) l b)
      at.few

  -- The position after the group.
  pub past : AtGroups ws (past_end ws (i + 1)) levels
  past =
      let n = position.group_next ws i at.parses at.no_point h e in
      let b = beside at.sound.top at.sound.enclosing (level_of levels) h own inside following sound_here in
      position_at n.2 n.3 refl b at.few

-- From groups, a walk can step into the first group or past it.
pub into_group : (ws : List ℕ) (i levels : ℕ) → AtGroups ws i levels → levels ≤ 3 → (h : Head) → head_of (frame_in ws i) ≡ some h
    → (1 ≤ levels) × AtGroups ws (i + 1 + length (content_from ws (i + 1)).points) (levels - 1)
    × AtGroups ws (past_end ws (i + 1)) levels
into_group ws i levels at few h e =
    (level_left ws i levels at few h e, into ws i levels at few h e, past ws i levels at few h e)

-- The groups of a sound definition, with its top points around them.
pub definition_below : (d : Definition) → SoundDefinition d → SoundBelow d.top.points d.top.points 2 d.top.groups
definition_below d s =
    let a = apart d.top.points d.top.groups no_group s.distinct in
    record {
      sound = s.groups;
      top_in_scope = λ p i. i;
      distinct = a.inside_distinct;
      apart = λ p i. a.points_inside p.number (point_among p d.top.points i);
    }

-- The groups of a model that is in the catalog.
top_below : (ws : List ℕ) (id i : ℕ) → Accepted ws → top_of id (definitions ws) ≡ some (content_from ws i)
    → SoundBelow (content_from ws i).points (content_from ws i).points 2 (content_from ws i).groups
top_below ws id i a e =
    let d = models.top_sound ws id (content_from ws i) a e in
    subst (λ c. SoundBelow c.points c.points 2 c.groups) d.3 (definition_below d.0 d.1)

-- The groups of a model that is in the catalog begin after its top points.
pub top_groups : (ws : List ℕ) (id i : ℕ) → Accepted ws → ParsesAt ws i → top_of id (definitions ws) ≡ some (content_from ws i)
    → AtGroups ws (i + length (content_from ws i).points) 3
top_groups ws id i a s e =
    let r = position.after_run ws i s in position_at r.2 r.0 r.1 (top_below ws id i a e) (models.accepted_few ws a)
