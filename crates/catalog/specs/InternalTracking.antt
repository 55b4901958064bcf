-- Internal: the code's state between two frames, and the rules as the code tests them; no public contract cites this file.
-- `proofs/TrackedState.antt` and `TrackedRules.antt` show that they agree with the state and the rules of the definition.
use Rattle.std.specs.Prelude.{◌≡◌, Bool, true, false, ◌||◌, List, [], ◌∷◌, ◌++◌, ℕ, ◌+◌, ◌-◌, ◌≤◌, ◌<◌, eqb, length, get_or, set}
use Rattle.lists.specs.Members.{among}
use Rattle.lists.specs.Tests.{one_holds}
use Rattle.number_sets.specs.NumberSets.{in_set}
use Rattle.catalog_frames.specs.Frames.{Point, Head, Frame, model_frame, group_frame, point_frame, end_frame, malformed, fill}
use Rattle.frame_rules.specs.FrameTests.{model_tests, group_tests, point_tests, end_tests}
use Rattle.catalog.specs.State as check
use Rattle.catalog.specs.State.{OpenGroup}
use Rattle.catalog.specs.Rules.{run, no_point, scale_faults, count_faults}
use Rattle.catalog.specs.InternalScans.{frames_onward, numbers_in, runs_of}
use Rattle.catalog.specs.declared.state.State.{State}

-- ---- The tests of `frame_rules` before frame i, with facts found by a search of the catalog

-- The run of points that begins at the first frame inside the open group at level k + 1.
abbrev pub run_in : List ℕ → State → ℕ → List Point
run_in ws c k = run (frames_onward ws (get_or c.firsts k 0))

-- The numbers of the groups and points of the open model, before frame i.
abbrev pub numbers_so_far : List ℕ → ℕ → State → List ℕ
numbers_so_far ws i c = numbers_in ws (get_or c.firsts 0 0) (i - get_or c.firsts 0 0)

-- The tests of a model, a group, a point and an end frame. `used` is the set of the model ids so far.
abbrev pub model_rules : List ℕ → State → ℕ → List (Bool × ℕ)
model_rules used c id = model_tests c.depth (in_set used id) id

abbrev pub group_rules : List ℕ → ℕ → State → Head → List (Bool × ℕ)
group_rules ws i c h =
    group_tests c.depth c.has_fill (among h.number (numbers_so_far ws i c))
    (one_holds (count_faults (run_in ws c 0) (eqb c.depth 1) h)) h

abbrev pub point_rules : List ℕ → ℕ → State → Point → List (Bool × ℕ)
point_rules ws i c p =
    point_tests c.depth c.has_group (among p.number (numbers_so_far ws i c))
    (one_holds (scale_faults (runs_of ws c.firsts c.depth) p)) p

abbrev pub end_rules : List ℕ → State → List (Bool × ℕ)
end_rules ws c = end_tests c.depth c.has_group (no_point (run_in ws c (c.depth - 1)))

-- The tests of any frame.
abbrev pub code_rules : List ℕ → List ℕ → ℕ → State → Frame → List (Bool × ℕ)
code_rules ws used i c (model_frame id) = model_rules used c id
code_rules ws used i c (group_frame h) = group_rules ws i c h
code_rules ws used i c (point_frame p) = point_rules ws i c p
code_rules ws used i c end_frame = end_rules ws c
code_rules ws used i c malformed = (true, 3) ∷ []

-- ---- The code's state

-- Before the first frame.
abbrev pub code_start : State
code_start =
    record { models = 0; depth = 0; firsts = 0 ∷ 0 ∷ 0 ∷ 0 ∷ []; has_group = false; has_fill = false }

-- ---- The code's state after frame i

-- Frame i opens a group, which may be the top group of a model.
abbrev pub with_opened : State → ℕ → ℕ → Bool → State
with_opened c i models has_fill =
    record {
      models = models;
      depth = c.depth + 1;
      firsts = set c.firsts c.depth (i + 1);
      has_group = false;
      has_fill = has_fill;
    }

-- Frame i ends the innermost open group.
abbrev pub with_ended : State → State
with_ended c =
    record {
      models = c.models;
      depth = c.depth - 1;
      firsts = c.firsts;
      has_group = true;
      has_fill = c.has_fill;
    }

-- Frame i has this kind and, if it is a group frame, this count kind.
abbrev pub state_of : ℕ → ℕ → ℕ → State → State
state_of kind count_kind i c =
    elim (eqb kind 1) [
      | true ↦ with_opened c i (c.models + 1) false
      | false ↦ elim (eqb kind 2) [
        | true ↦ with_opened c i c.models (c.has_fill || eqb count_kind fill)
        | false ↦ elim (eqb kind 4) [ true ↦ with_ended c | false ↦ c ]
      ]
    ]

-- ---- What holds of the code's state

-- The bounds of the code's state before frame i.
pub record Within (i : ℕ) (c : State) : Type 0 where
  pub few : c.models ≤ i
  pub deep : c.depth ≤ 4
  pub four : length c.firsts ≡ 4
  pub passed : (k : ℕ) → get_or c.firsts k 0 ≤ i

-- A frame of this kind opens no fifth level, and ends a group only if one is open.
pub record DepthAllows (kind : ℕ) (c : State) : Type 0 where
  pub opens : kind ≤ 2 → c.depth < 4
  pub ends : kind ≡ 4 → 1 ≤ c.depth

-- The rest, from frame i on, of the run of points of the innermost open group. It is empty once a group is in that group.
abbrev pub upcoming_run_at : List ℕ → ℕ → Bool → List Point
upcoming_run_at ws i has_group = elim has_group [ true ↦ [] | false ↦ run (frames_onward ws i) ]

-- The run that begins at an open group's first frame is its points so far, followed by `upcoming_run` for the innermost group.
-- The innermost group has a group in it if `has_group` holds, the others always.
abbrev pub Opens : List ℕ → List ℕ → Bool → List Point → List OpenGroup → Type 0
Opens ws firsts has_group upcoming_run [] = Unit {0}
Opens ws firsts has_group upcoming_run (l ∷ ls) =
    (run (frames_onward ws (get_or firsts (length ls) 0)) ≡ l.points ++ upcoming_run)
    × (l.has_group ≡ has_group)
    × Opens ws firsts true [] ls

-- Before frame i, the code's state `c` and its set `used` of model ids agree with the state `s` of the definition.
pub record Tracks (ws used : List ℕ) (i : ℕ) (c : State) (s : check.State) : Type 0 where
  pub within : Within i c
  pub models : c.models ≡ length s.ids
  pub words : length used ≡ 1024
  pub ids : (n : ℕ) → n < 65536 → in_set used n ≡ among n s.ids
  pub depth : c.depth ≡ length s.open_groups
  pub numbers : 1 ≤ c.depth → s.numbers ≡ numbers_so_far ws i c
  pub has_fill : c.has_fill ≡ s.has_fill
  pub open_groups : Opens ws c.firsts c.has_group (upcoming_run_at ws i c.has_group) s.open_groups

-- The ids and numbers of a frame that the code looks up in its sets fit in 16 bits.
abbrev pub IdFits : Frame → Type 0
IdFits (model_frame id) = id < 65536
IdFits (group_frame h) = (h.number < 65536) × (h.count < 65536)
IdFits (point_frame p) = (p.number < 65536) × (p.scale < 65536)
IdFits end_frame = Unit {0}
IdFits malformed = Unit {0}
