-- A walk over groups that sums up their extent: a step over a group, and the end.
use mathlib.Core.Path.{◌≡◌, refl, sym, ap, subst, ◌∙◌}
use mathlib.Core.List.{List, [], ◌∷◌, ◌++◌}
use mathlib.Core.Option.{none, some}
use Prim.Native.Nat.{ℕ, ◌+◌, ◌≤◌, ◌<◌}
use native.Mathlib.Omega.{arith}
use lib.ListN.{length, take, length-append}
use Rattle.catalog.specs.Rules.{run}
use Rattle.catalog_frames.specs.Frames.{Point, Head, end_frame, fill, frame_in}
use Rattle.model_definitions.specs.Definitions.{Groups, no_group, group, points_size, point_frames, group_frames}
use Rattle.layout.specs.Points.{Scope}
use Rattle.layout.specs.FrameWalk.{onward, head_of}
use Rattle.layout.specs.InternalWalks.{content_from, past_end, AtGroups}
use Rattle.layout.proofs.FramePosition as position
use Rattle.layout.proofs.GroupDescent as groups
use Rattle.layout.proofs.Sizes.{points_small}
use Rattle.definition_frames.specs.CodeTypes.{to_spec_run, run_of}
use Rattle.definition_frames.proofs.RunSteps.{content_run}
use Rattle.listing.specs.InternalContracts.{RunOf, ExtentOf, WithGroup}
use Rattle.definition_frames.specs.declared.runs.Run.{Run}
use Rattle.listing.specs.declared.extents.Extent.{Extent}
use Rattle.listing.proofs.ExtentSteps.{SummedUp, all_visited, one_more}

-- The number of frames of a group and those after it.
frames_taken : (h : Head) (ps : List Point) (inside following : Groups)
    → length (group_frames (group h ps inside following))
    ≡ length ps + length (group_frames inside) + length (group_frames following) + 2
frames_taken h ps inside following =
    let p = position.length_points ps in
    let a = length-append (point_frames ps) (group_frames inside ++ (end_frame ∷ group_frames following)) in
    let b = length-append (group_frames inside) (end_frame ∷ group_frames following) in
    omega (arith, p, a, b)

-- The end frame comes after the groups that begin at frame i.
end_here : (ws : List ℕ) (i : ℕ) (g : Groups) → (content_from ws i).points ≡ [] → (content_from ws i).groups ≡ g
    → past_end ws i ≡ i + length (group_frames g) + 1
end_here ws i g n e =
    let p : length (content_from ws i).points ≡ 0 = ap length n in
    let q : length (group_frames (content_from ws i).groups) ≡ length (group_frames g) = ap (λ x. length (group_frames x)) e in
    omega (arith, p, q)

-- ---- A step over a group

module _ (ws : List ℕ) (i levels : ℕ) (at : AtGroups ws i levels) (few : levels ≤ 3) (h : Head)
    (e : head_of (frame_in ws i) ≡ some h) where
  -- From the frame after the group on, the enclosing group has the same end.
  same_end : past_end ws (past_end ws (i + 1)) ≡ past_end ws i
  same_end =
      let n = position.group_next ws i at.parses at.no_point h e in
      let c = content_from ws (i + 1) in
      let following = (content_from ws (past_end ws (i + 1))).groups in
      let here = end_here ws i (group h c.points c.groups following) at.no_point n.0 in
      let there = end_here ws (past_end ws (i + 1)) following n.3 refl in
      let f = frames_taken h c.points c.groups following in
      omega (arith, here, there, f)

  -- From the frame after its own points on, the group has the same end.
  pub own_end : past_end ws (i + 1 + length (content_from ws (i + 1)).points) ≡ past_end ws (i + 1)
  own_end =
      let n = position.group_next ws i at.parses at.no_point h e in
      let r = position.after_run ws (i + 1) n.1 in
      end_here ws (i + 1 + length (content_from ws (i + 1)).points) (content_from ws (i + 1)).groups r.0 r.1

  -- It has at most 4,096 points, of at most 64 registers each.
  pub own_few : (length (content_from ws (i + 1)).points ≤ 4096) × (points_size (content_from ws (i + 1)).points ≤ 262144)
  own_few =
      let n = position.group_next ws i at.parses at.no_point h e in
      let own = (content_from ws (i + 1)).points in
      let w = position.past_end_within ws (i + 1) n.1 in
      let s = (groups.sound_here ws i levels at few h e).sound.2 in
      let b = points_small (own ++ at.sound.enclosing) own s in
      (omega (arith, w, at.few), omega (arith, w, at.few, b))

  -- The run that the code finds after the group's frame is that of its own points.
  pub own_run : (r : Run) → to_spec_run r ≡ run_of (take 4096 (run (onward ws (i + 1)))) (i + 1) → RunOf ws (i + 1) r
  own_run = content_run ws (i + 1) (position.group_next ws i at.parses at.no_point h e).1 at.few

-- ---- The sum

-- The walk is at groups of the group in which it began, and `sum` is the extent of the groups before them.
pub record Walked (ws : List ℕ) (top : Scope) (levels first : ℕ) (sum : Extent) : Type 0 where
  pub position : AtGroups ws sum.next levels
  pub few : levels ≤ 3
  pub end : past_end ws sum.next ≡ past_end ws first
  pub summed : SummedUp top (content_from ws first).groups (content_from ws sum.next).groups sum

module _ (ws : List ℕ) (top : Scope) (levels first : ℕ) (sum : Extent) (walked : Walked ws top levels first sum) where
  -- A step over the group at `sum.next`.
  pub walks_on : (h : Head) → head_of (frame_in ws sum.next) ≡ some h → (run : Run) → RunOf ws (sum.next + 1) run
      → (lower : Extent) → ExtentOf top (content_from ws run.next).groups lower → lower.next ≡ past_end ws run.next
      → (r : Extent) → WithGroup sum top h run lower r → Walked ws top levels first r × (sum.next < r.next)
  walks_on h e run o lower i l r w =
      let at = walked.position in
      let all = (content_from ws first).groups in
      let n = position.group_next ws sum.next at.parses at.no_point h e in
      let c = content_from ws (sum.next + 1) in
      let following = (content_from ws (past_end ws (sum.next + 1))).groups in
      let same : (content_from ws run.next).groups ≡ c.groups =
      ap (λ j. (content_from ws j).groups) o.next ∙ (position.after_run ws (sum.next + 1) n.1).1 in
      let next : r.next ≡ past_end ws (sum.next + 1) =
      w.next ∙ l ∙ ap (λ j. past_end ws j) o.next ∙ own_end ws sum.next levels at walked.few h e in
      let last : h.count_kind ≡ fill → following ≡ no_group = λ k.
      ((groups.sound_here ws sum.next levels at walked.few h e).sound.0.filling k).1 in
      let s : SummedUp top all (group h c.points c.groups following) sum =
      subst (λ g. SummedUp top all g sum) n.0 walked.summed in
      let m : SummedUp top all following r =
      one_more top all h c.points c.groups following sum s last run o.size o.points lower
      (subst (λ g. ExtentOf top g lower) same i) r w in
      let there : Walked ws top levels first r =
      record {
        position = subst (λ j. AtGroups ws j levels) (sym next) (groups.past ws sum.next levels at walked.few h e);
        few = walked.few;
        end = ap (λ j. past_end ws j) next ∙ same_end ws sum.next levels at walked.few h e ∙ walked.end;
        summed = subst (λ j. SummedUp top all (content_from ws j).groups r) (sym next) m;
      } in
      (there, omega (arith, next))

  -- No group is left: `sum` is the extent of all.
  pub walk_ends : head_of (frame_in ws sum.next) ≡ none
      → ExtentOf top (content_from ws first).groups (record sum { next = sum.next + 1 }) × (sum.next + 1 ≡ past_end ws first)
  walk_ends e =
      let g = position.no_group_lem ws sum.next walked.position.parses walked.position.no_point e in
      let s = subst (λ x. SummedUp top (content_from ws first).groups x sum) g walked.summed in
      let here = end_here ws sum.next no_group walked.position.no_point g in
      (all_visited top (content_from ws first).groups sum (sum.next + 1) s, omega (arith, here, walked.end))
