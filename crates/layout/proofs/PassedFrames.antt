-- A walk visits the frames of the open groups in order.
use mathlib.Core.Path.{◌≡◌, refl, sym, ap, ◌∙◌}
use mathlib.Core.Bool.{false}
use mathlib.Core.List.{List, [], ◌∷◌, ◌++◌}
use Prim.Native.Nat.{ℕ, zero, suc, ◌+◌, ◌-◌, ◌/◌, ◌≤◌, ◌<◌}
use native.Mathlib.Omega.{arith}
use lib.ListN.{length, length-append}
use Rattle.catalog_frames.specs.Frames.{Point, Frame, model_frame, group_frame, point_frame, end_frame, malformed, frame_in}
use Rattle.model_definitions.specs.Definitions.{Groups, no_group, group, Content, point_frames, group_frames}
use Rattle.model_definitions.proofs.ModelFrames.{rest_frames}
use Rattle.layout.specs.FrameWalk.{onward, open_after, frames_to_end, frames_of_group}
use Rattle.layout.specs.InternalWalks.{content_from, ParsesAt, past_end, is_model_of}
use Rattle.layout.proofs.FramePosition.{length_onward, onward_more, onward_none, parses_within, at_point, at_group, at_end_lem, rest_there, rest_within}

-- After frame i, in open groups with the contents `cs`: the contents that are left, whose frames follow; frame i is not a
-- model frame.
pub record Passed (ws : List ℕ) (i : ℕ) (cs : List Content) (rest : List Frame) : Type 0 where
  pub left : List Content
  pub there : onward ws (i + 1) ≡ rest_frames left rest
  pub deep : length left ≡ open_after (frame_in ws i) (length cs)
  pub in_model : (id : ℕ) → is_model_of id (frame_in ws i) ≡ false

-- This holds at each frame where a group is open.
pub passed : (ws : List ℕ) (i : ℕ) (c : Content) (cs : List Content) (rest : List Frame)
    → onward ws i ≡ rest_frames (c ∷ cs) rest → Passed ws i (c ∷ cs) rest
passed ws i c cs rest e = go c.points c.groups e
  where
    following : List Frame
    following = rest_frames cs rest

    go : (ps : List Point) (gs : Groups) → onward ws i ≡ point_frames ps ++ (group_frames gs ++ (end_frame ∷ following))
        → Passed ws i (c ∷ cs) rest
    go (p ∷ ps) gs q =
        let t = at_point ws i following p ps gs q in
        let f = t.0 in
        record {
          left = record { points = ps; groups = gs } ∷ cs;
          there = t.1;
          deep = rw f;
          in_model = λ id. rw f;
        }
    go [] (group h ps inside after) q =
        let t = at_group ws i following h ps inside after q in
        let f = t.0 in
        record {
          left = record { points = ps; groups = inside } ∷ record { points = []; groups = after } ∷ cs;
          there = t.1;
          deep = rw f (omega arith);
          in_model = λ id. rw f;
        }
    go [] no_group q =
        let t = at_end_lem ws i following q in
        let f = t.0 in
        record { left = cs; there = t.1; deep = rw f (omega arith); in_model = λ id. rw f }

-- Each open group still has an end frame to come.
ends_to_come : (cs : List Content) (rest : List Frame) → length cs ≤ length (rest_frames cs rest)
ends_to_come [] rest = omega arith
ends_to_come (c ∷ cs) rest =
    let gs = group_frames c.groups in
    let e = ends_to_come cs rest in
    let a = length-append (point_frames c.points) (gs ++ (end_frame ∷ rest_frames cs rest)) in
    let b = length-append gs (end_frame ∷ rest_frames cs rest) in
    omega arith

-- ---- The way through a group

-- On the way from frame `first` to the end of the group that is open there: at frame `at`, `depth` groups are open.
pub record Passing (ws : List ℕ) (first at depth : ℕ) : Type 0 where
  pub left : List Content
  pub following : List Frame
  pub here : onward ws at ≡ rest_frames left following
  pub deep : length left ≡ depth
  pub beyond : onward ws (past_end ws first) ≡ following
  pub inside : past_end ws first ≤ length ws / 8
  pub within : at ≤ length ws / 8

-- At the start, only that group is open.
pub passing_start : (ws : List ℕ) (first : ℕ) → ParsesAt ws first → Passing ws first first 1
passing_start ws first s =
    let c = content_from ws first in
    let inside = rest_within ws first c.points c.groups s.following s.here in
    record {
      left = c ∷ [];
      following = s.following;
      here = s.here;
      deep = refl;
      beyond = rest_there ws first c.points c.groups s.following s.here;
      inside = inside;
      within = omega arith;
    }

module _ (ws : List ℕ) (first at depth : ℕ) (p : Passing ws first at depth) where
  -- No more groups are open than frames are left.
  pub passing_few : depth + at ≤ length ws / 8
  passing_few =
      let e = ends_to_come p.left p.following in
      let l = sym (length_onward ws at) ∙ ap length p.here in
      let d = p.deep in
      let w = p.within in
      omega arith

  -- One frame further.
  pub passing_next : 0 < depth → Passing ws first (at + 1) (open_after (frame_in ws at) depth)
  passing_next h = go p.left p.deep p.here
    where
      go : (cs : List Content) → length cs ≡ depth → onward ws at ≡ rest_frames cs p.following
          → Passing ws first (at + 1) (open_after (frame_in ws at) depth)
      go [] d e = absurd (omega arith)
      go (c ∷ cs) d e =
          let n = passed ws at c cs p.following e in
          let few = passing_few in
          record {
            left = n.left;
            following = p.following;
            here = n.there;
            deep = n.deep ∙ ap (open_after (frame_in ws at)) d;
            beyond = p.beyond;
            inside = p.inside;
            within = omega arith;
          }

  -- Where no group is open any more, the walk is past the end of the group.
  pub passing_done : depth ≤ 0 → at ≡ past_end ws first
  passing_done h = go p.left p.deep p.here
    where
      go : (cs : List Content) → length cs ≡ depth → onward ws at ≡ rest_frames cs p.following → at ≡ past_end ws first
      go (c ∷ cs) d e = absurd (omega arith)
      go [] d e =
          let here = sym (length_onward ws at) ∙ ap length e in
          let beyond = sym (length_onward ws (past_end ws first)) ∙ ap length p.beyond in
          let w = p.within in
          let i = p.inside in
          omega arith

-- ---- The number of frames to the end

-- With no open group left, or no frame left, the number is 0.
pub at_the_end : (fs : List Frame) → frames_to_end fs 0 ≡ 0
unfolding frames_to_end
at_the_end [] = refl
at_the_end (f ∷ fs) = refl

pub no_frame_left : (ws : List ℕ) (at depth : ℕ) → length ws / 8 ≤ at → frames_to_end (onward ws at) depth ≡ 0
unfolding frames_to_end
no_frame_left ws at depth h = rw (onward_none ws at h)

-- At any other frame it is one more than from the next frame.
pub one_frame_nearer : (ws : List ℕ) (at depth : ℕ) → at < length ws / 8 → 0 < depth
    → frames_to_end (onward ws at) depth ≡ suc (frames_to_end (onward ws (at + 1)) (open_after (frame_in ws at) depth))
unfolding frames_to_end
one_frame_nearer ws at zero h d = absurd (omega arith)
one_frame_nearer ws at (suc depth) h d = rw (onward_more ws at h)

-- A frame opens at most one group.
pub opens_one : (f : Frame) (depth : ℕ) → open_after f depth ≤ depth + 1
opens_one (group_frame h) depth = omega arith
opens_one end_frame depth = omega arith
opens_one (model_frame id) depth = omega arith
opens_one (point_frame p) depth = omega arith
opens_one malformed depth = omega arith

-- The number of frames of a group, where there is a frame i and where there is none.
pub group_begins : (ws : List ℕ) (i : ℕ) → i < length ws / 8
    → frames_of_group (onward ws i) ≡ suc (frames_to_end (onward ws (i + 1)) 1)
group_begins ws i h = rw (onward_more ws i h)

pub no_group_begins : (ws : List ℕ) (i : ℕ) → length ws / 8 ≤ i → frames_of_group (onward ws i) ≡ 0
no_group_begins ws i h = rw (onward_none ws i h)

-- From any frame on the way, this number of frames further is past the end of the group.
to_the_end : (n : ℕ) (ws : List ℕ) (first at depth : ℕ) → at + n ≡ length ws / 8 → Passing ws first at depth
    → at + frames_to_end (onward ws at) depth ≡ past_end ws first
to_the_end zero ws first at depth e p =
    let few = passing_few ws first at depth p in
    let done = passing_done ws first at depth p (omega arith) in
    omega (arith, no_frame_left ws at depth (omega arith))
to_the_end (suc n) ws first at zero e p =
    let done = passing_done ws first at 0 p (omega arith) in
    omega (arith, at_the_end (onward ws at))
to_the_end (suc n) ws first at (suc depth) e p =
    let next = passing_next ws first at (suc depth) p (omega arith) in
    let rest = to_the_end n ws first (at + 1) (open_after (frame_in ws at) (suc depth)) (omega arith) next in
    omega (arith, one_frame_nearer ws at (suc depth) (omega arith) (omega arith))

-- Where a group is open after frame i, the group's number of frames from frame i leads past its end.
pub group_passed : (ws : List ℕ) (i : ℕ) → ParsesAt ws (i + 1) → i + frames_of_group (onward ws i) ≡ past_end ws (i + 1)
group_passed ws i s =
    let inside = parses_within ws (i + 1) s in
    let n = length ws / 8 - (i + 1) in
    let counted = to_the_end n ws (i + 1) (i + 1) 1 (omega arith) (passing_start ws (i + 1) s) in
    omega (arith, group_begins ws i (omega arith))
