-- The position of a walk in a catalog's frames: the rest of the content of the open group, frame by frame.
use mathlib.Core.Path.{◌≡◌, refl, sym, ap, ◌∙◌}
use mathlib.Core.List.{List, [], ◌∷◌, ◌++◌}
use mathlib.Core.Option.{none, some}
use Prim.Native.Nat.{ℕ, zero, suc, ◌+◌, ◌-◌, ◌/◌, ◌≤◌, ◌<◌}
use native.Mathlib.Numerals.{add-one}
use native.Mathlib.Omega.{arith}
use lib.ListN.{length, drop, get_or, length-drop, drop_of_length-le}
use lib.Seq.{drop-cons, get_or-drop, drop-drop, drop-append_seam}
use Rattle.lists.proofs.TestOutcomes.{impossible}
use Rattle.catalog_frames.specs.Frames.{Point, Head, Frame, group_frame, point_frame, end_frame, malformed, frames_from, frames, frame_in}
use Rattle.model_definitions.specs.Definitions.{Groups, no_group, group, point_frames, group_frames, parsed, inner}
use Rattle.model_definitions.proofs.TreeFrames.{content_frames, group_frames_lem}
use Rattle.model_definitions.proofs.DefinitionsBack.{points_read, groups_read}
use Rattle.layout.specs.FrameWalk.{onward, point_of, head_of}
use Rattle.layout.specs.InternalWalks.{content_from, ParsesAt, past_end}

-- ---- Frames by their index

-- There is one frame for every eight words.
length_from : (ws : List ℕ) (i n : ℕ) → length (frames_from ws i n) ≡ n
unfolding frames_from
length_from ws i zero = refl
length_from ws i (suc n) = ap suc (length_from ws (suc i) n)

-- There is one frame for each point.
pub length_points : (ps : List Point) → length (point_frames ps) ≡ length ps
length_points [] = refl
length_points (p ∷ ps) = ap suc (length_points ps)

module _ (ws : List ℕ) (i : ℕ) where
  -- From frame i on there are all frames but the i before it.
  pub length_onward : length (onward ws i) ≡ length ws / 8 - i
  length_onward = let n = length_from ws 0 (length ws / 8) in length-drop i (frames ws) ∙ ap (λ k. k - i) n

  -- They begin with frame i, or there are none.
  pub onward_more : i < length ws / 8 → onward ws i ≡ frame_in ws i ∷ onward ws (i + 1)
  onward_more h =
      let n = length_from ws 0 (length ws / 8) in
      rw add-one (drop-cons (frames ws) i malformed (omega arith))

  pub onward_none : length ws / 8 ≤ i → onward ws i ≡ []
  onward_none h = let n = length_from ws 0 (length ws / 8) in drop_of_length-le (frames ws) {i = i} (omega arith)

  -- The frames after some of these.
  skipped : (xs ys : List Frame) → onward ws i ≡ xs ++ ys → onward ws (i + length xs) ≡ ys
  skipped xs ys e = sym (drop-drop (length xs) i (frames ws)) ∙ ap (drop (length xs)) e ∙ drop-append_seam xs ys

  -- The first of the frames from frame i on is frame i.
  pub first_frame : (f : Frame) (fs : List Frame) → onward ws i ≡ f ∷ fs
      → (frame_in ws i ≡ f) × (onward ws (i + 1) ≡ fs) × (i < length ws / 8)
  first_frame f fs e =
      let z : i + 0 ≡ i = omega arith in
      let n : length ws / 8 - i ≡ suc (length fs) = sym length_onward ∙ ap length e in (
        ap (λ k. frame_in ws k) (sym z) ∙ sym (get_or-drop i (frames ws) 0 malformed) ∙ ap (λ l. get_or l 0 malformed) e,
        sym (drop-drop 1 i (frames ws)) ∙ ap (drop 1) e,
        omega arith,
      )

-- ---- The content at a frame

module _ (ws : List ℕ) (i : ℕ) (ps : List Point) (gs : Groups) (rest : List Frame)
    (e : onward ws i ≡ content_frames ps gs rest) where
  -- The rest of the open group's content is the points and groups whose frames are next.
  content_back : content_from ws i ≡ record { points = ps; groups = gs }
  unfolding content_from
  content_back =
      let held = points_read ps gs (group_frames gs ++ (end_frame ∷ rest)) (parsed rest) (groups_read gs rest) in
      ap (λ r. inner r.rest) (ap parsed e ∙ held)

  -- So the walk is at this content.
  pub placed : ((content_from ws i).points ≡ ps) × ((content_from ws i).groups ≡ gs) × ParsesAt ws i
  placed =
      let p : (content_from ws i).points ≡ ps = ap (λ c. c.points) content_back in
      let g : (content_from ws i).groups ≡ gs = ap (λ c. c.groups) content_back in
      (p, g, record { following = rest; here = e ∙ rw (p, g) })

  -- The groups follow the points.
  groups_there : onward ws (i + length ps) ≡ content_frames [] gs rest
  groups_there = ap (λ n. onward ws (i + n)) (sym (length_points ps))
      ∙ skipped ws i (point_frames ps) (group_frames gs ++ (end_frame ∷ rest)) e

  -- The rest follows the end frame.
  pub rest_there : onward ws (i + length ps + length (group_frames gs) + 1) ≡ rest
  rest_there =
      let g = skipped ws (i + length ps) (group_frames gs) (end_frame ∷ rest) groups_there in
      (first_frame ws (i + length ps + length (group_frames gs)) end_frame rest g).1

  -- All of these frames are in the catalog.
  pub rest_within : i + length ps + length (group_frames gs) + 1 ≤ length ws / 8
  rest_within =
      let g = skipped ws (i + length ps) (group_frames gs) (end_frame ∷ rest) groups_there in
      let l = (first_frame ws (i + length ps + length (group_frames gs)) end_frame rest g).2 in
      omega arith

module _ (ws : List ℕ) (i : ℕ) (rest : List Frame) where
  -- The next frame is a point of the open group.
  pub at_point : (p : Point) (ps : List Point) (gs : Groups) → onward ws i ≡ content_frames (p ∷ ps) gs rest
      → (frame_in ws i ≡ point_frame p) × (onward ws (i + 1) ≡ content_frames ps gs rest)
  at_point p ps gs e = let t = first_frame ws i (point_frame p) (content_frames ps gs rest) e in (t.0, t.1)

  -- The next frame is a group in the open group: its content follows, and after its end frame the groups after it.
  pub at_group : (h : Head) (ps : List Point) (inside following : Groups)
      → onward ws i ≡ content_frames [] (group h ps inside following) rest
      → (frame_in ws i ≡ group_frame h) × (onward ws (i + 1) ≡ content_frames ps inside (content_frames [] following rest))
  at_group h ps inside following e =
      let all = content_frames ps inside (content_frames [] following rest) in
      let t = first_frame ws i (group_frame h) all (e ∙ group_frames_lem h ps inside following (end_frame ∷ rest)) in
      (t.0, t.1)

  -- The next frame is the end of the open group.
  pub at_end_lem : onward ws i ≡ content_frames [] no_group rest → (frame_in ws i ≡ end_frame) × (onward ws (i + 1) ≡ rest)
  at_end_lem e = let t = first_frame ws i end_frame rest e in (t.0, t.1)

-- ---- A walk, frame by frame

module _ (ws : List ℕ) (i : ℕ) (s : ParsesAt ws i) where
  -- The frame is in the catalog.
  pub parses_within : i < length ws / 8
  parses_within =
      let c = content_from ws i in let w = rest_within ws i c.points c.groups s.following s.here in omega arith

  -- The end of the group is in the catalog.
  pub past_end_within : past_end ws i ≤ length ws / 8
  past_end_within = let c = content_from ws i in rest_within ws i c.points c.groups s.following s.here

  -- The groups follow the points.
  pub after_run : ((content_from ws (i + length (content_from ws i).points)).points ≡ [])
      × ((content_from ws (i + length (content_from ws i).points)).groups ≡ (content_from ws i).groups)
      × ParsesAt ws (i + length (content_from ws i).points)
  after_run =
      let c = content_from ws i in
      placed ws (i + length c.points) [] c.groups s.following
      (groups_there ws i c.points c.groups s.following s.here)

  -- A point frame is the first of the points, and the others follow it.
  pub point_next : (p : Point) → point_of (frame_in ws i) ≡ some p
      → ((content_from ws i).points ≡ p ∷ (content_from ws (i + 1)).points)
      × ((content_from ws i).groups ≡ (content_from ws (i + 1)).groups)
      × ParsesAt ws (i + 1)
  point_next p f = go (content_from ws i).points (content_from ws i).groups refl refl s.here
    where
      go : (ps : List Point) (gs : Groups) → (content_from ws i).points ≡ ps → (content_from ws i).groups ≡ gs
          → onward ws i ≡ content_frames ps gs s.following
          → ((content_from ws i).points ≡ p ∷ (content_from ws (i + 1)).points)
          × ((content_from ws i).groups ≡ (content_from ws (i + 1)).groups)
          × ParsesAt ws (i + 1)
      go (q ∷ qs) gs a b e =
          let t = at_point ws i s.following q qs gs e in
          let same : some q ≡ some p = sym (ap point_of t.0) ∙ f in
          let n = placed ws (i + 1) qs gs s.following t.1 in
          let r = n.0 in
          (cc, b ∙ sym n.1, n.2)
      go [] no_group a b e =
          let t : none ≡ some p = sym (ap point_of (at_end_lem ws i s.following e).0) ∙ f in
          impossible (cc)
      go [] (group h ps inside following) a b e =
          let t : none ≡ some p = sym (ap point_of (at_group ws i s.following h ps inside following e).0) ∙ f in
          impossible (cc)

  -- At any other frame no point is left.
  pub no_point_lem : point_of (frame_in ws i) ≡ none → (content_from ws i).points ≡ []
  no_point_lem f = go (content_from ws i).points refl s.here
    where
      go : (ps : List Point) → (content_from ws i).points ≡ ps → onward ws i ≡ content_frames ps (content_from ws i).groups s.following
          → (content_from ws i).points ≡ []
      go [] a e = a
      go (q ∷ qs) a e =
          let t : some q ≡ none = sym (ap point_of (at_point ws i s.following q qs (content_from ws i).groups e).0) ∙ f in
          cc

  module _ (none_left : (content_from ws i).points ≡ []) where
    groups_here : onward ws i ≡ content_frames [] (content_from ws i).groups s.following
    groups_here = s.here ∙ ap (λ ps. content_frames ps (content_from ws i).groups s.following) none_left

    -- A group frame begins the first of the groups: its content follows, and after its end frame the other groups.
    pub group_next : (h : Head) → head_of (frame_in ws i) ≡ some h
        → ((content_from ws i).groups
        ≡ group h (content_from ws (i + 1)).points (content_from ws (i + 1)).groups (content_from ws (past_end ws (i + 1))).groups)
        × ParsesAt ws (i + 1)
        × ParsesAt ws (past_end ws (i + 1))
        × ((content_from ws (past_end ws (i + 1))).points ≡ [])
    group_next h f = go (content_from ws i).groups refl groups_here
      where
        go : (gs : Groups) → (content_from ws i).groups ≡ gs → onward ws i ≡ content_frames [] gs s.following
            → ((content_from ws i).groups
            ≡ group h (content_from ws (i + 1)).points (content_from ws (i + 1)).groups (content_from ws (past_end ws (i + 1))).groups)
            × ParsesAt ws (i + 1)
            × ParsesAt ws (past_end ws (i + 1))
            × ((content_from ws (past_end ws (i + 1))).points ≡ [])
        go no_group b e =
            let t : none ≡ some h = sym (ap head_of (at_end_lem ws i s.following e).0) ∙ f in
            impossible (cc)
        go (group g ps inside following) b e =
            let t = at_group ws i s.following g ps inside following e in
            let same : some g ≡ some h = sym (ap head_of t.0) ∙ f in
            let after = content_frames [] following s.following in
            let n = placed ws (i + 1) ps inside after t.1 in
            let c = content_from ws (i + 1) in
            let m = placed ws (past_end ws (i + 1)) [] following s.following
            (rest_there ws (i + 1) c.points c.groups after (t.1 ∙ rw (n.0, n.1))) in
            let x = n.0 in
            let y = n.1 in
            let w = m.1 in
            (cc, n.2, m.2, m.0)

    -- Where the frame is not a group frame, no group is left.
    pub no_group_lem : head_of (frame_in ws i) ≡ none → (content_from ws i).groups ≡ no_group
    no_group_lem f = go (content_from ws i).groups refl groups_here
      where
        go : (gs : Groups) → (content_from ws i).groups ≡ gs → onward ws i ≡ content_frames [] gs s.following
            → (content_from ws i).groups ≡ no_group
        go no_group b e = b
        go (group h ps inside following) b e =
            let t : some h ≡ none = sym (ap head_of (at_group ws i s.following h ps inside following e).0) ∙ f in
            cc
