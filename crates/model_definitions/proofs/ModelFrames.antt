-- The frames of an accepted catalog are the frames of its models in order, each from its model frame to its last end frame, and
-- its words are the words of these frames.
use mathlib.Core.Path.{◌≡◌, refl, sym, ap, ◌∙◌}
use mathlib.Core.Bool.{Bool, true, false, ◌&&◌, ◌||◌}
use mathlib.Core.List.{List, [], ◌∷◌}
use Prim.Native.Nat.{ℕ, suc}
use lib.Dec.{eqb}
use Rattle.lists.specs.Each.{Each}
use Rattle.lists.proofs.TestOutcomes.{clash}
use Rattle.lists.proofs.TestLaws.{neither, none_broken}
use Rattle.catalog_frames.specs.Frames.{Point, Head, Frame, model_frame, group_frame, point_frame, end_frame, malformed, fill, frames}
use Rattle.catalog_frames.specs.Frames.{words_of_all}
use Rattle.catalog.specs.State.{OpenGroup, State, start, opened, with_point, with_group, closed, next}
use Rattle.catalog.specs.Rules.{no_model, in_top, after_group, run, is_malformed, rules}
use Rattle.catalog.specs.Checking.{accepted, check_from, checked}
use Rattle.model_definitions.specs.Definitions.{Content, Definition, catalog_frames, Parsed, prepended, parsed, definitions}
use Rattle.model_definitions.proofs.AcceptedSteps.{accepted_start, accepted_step}
use Rattle.model_definitions.proofs.AcceptedFrames.{KeepsRulesBut6, accepted_frames}
use Rattle.model_definitions.proofs.TreeFrames.{content_frames, group_frames_lem, definition_frames_lem}
use Rattle.catalog.proofs.FrameWords.{words_frames}

-- The frames of the remaining content of the open groups, each up to its end frame, the innermost first, then `following`.
abbrev pub rest_frames : List Content → List Frame → List Frame
rest_frames [] following = following
rest_frames (c ∷ cs) following = content_frames c.points c.groups (rest_frames cs following)

-- There is one remaining content for each open group, and it has no point if the group already has a group in it.
abbrev Matches : List OpenGroup → List Content → Type 0
Matches [] [] = Unit {0}
Matches [] (c ∷ cs) = ⊥
Matches (l ∷ ls) [] = ⊥
Matches (l ∷ ls) (c ∷ cs) = (l.has_group ≡ true → c.points ≡ []) × Matches ls cs

-- Reading the frames `fs` with the groups `ls` open gives `r`: its contents match the open groups, and its frames are `fs`.
abbrev Reads : List OpenGroup → List Frame → Parsed → Type 0
Reads ls fs r = Matches ls r.rest × (rest_frames r.rest (catalog_frames r.models) ≡ fs)

module _ (fs : List Frame) (ds : List Definition) where
  -- The remaining content `cs` of the open groups, with the models after them.
  abbrev read : List Content → Parsed
  read cs = record { rest = cs; models = ds }

  -- Reading a model frame when no model is open.
  model_read : (id : ℕ) (ls : List OpenGroup) (cs : List Content) → no_model ls ≡ true
      → Reads (opened ∷ []) fs (read cs)
      → Reads ls (model_frame id ∷ fs) (prepended (model_frame id) (read cs))
  model_read id ls [] e h = absurd h.0
  model_read id ls (c ∷ b ∷ cs) e h = absurd h.0.1
  model_read id (l ∷ ls) (c ∷ []) e h = clash (sym e)
  model_read id [] (c ∷ []) e h =
      let d : Definition = record { id = id; top = c } in
      (tt, definition_frames_lem d (catalog_frames ds) ∙ rw h.1)

  -- Reading a group frame when a model is open.
  group_read : (g : Head) (ls : List OpenGroup) (cs : List Content) → no_model ls ≡ false
      → Reads (with_group ls) fs (read cs)
      → Reads ls (group_frame g ∷ fs) (prepended (group_frame g) (read cs))
  group_read g [] cs e h = clash e
  group_read g (l ∷ ls) [] e h = absurd h.0
  group_read g (l ∷ ls) (c ∷ []) e h = absurd h.0.1
  group_read g (l ∷ ls) (c ∷ b ∷ cs) e h =
      let none_left : b.points ≡ [] = h.0.1.0 refl in
      let following = end_frame ∷ rest_frames cs (catalog_frames ds) in
      let tail = rw none_left at h.1 in
      ((λ t. none_left, h.0.1.1), rw (none_left, group_frames_lem g c.points c.groups b.groups following, tail))

  -- Reading a point frame when its group has no group yet.
  point_read : (p : Point) (ls : List OpenGroup) (cs : List Content) → no_model ls || after_group ls ≡ false
      → Reads (with_point p ls) fs (read cs)
      → Reads ls (point_frame p ∷ fs) (prepended (point_frame p) (read cs))
  point_read p [] cs e h = clash e
  point_read p (l ∷ ls) [] e h = absurd h.0
  point_read p (l ∷ ls) (c ∷ cs) e h = ((λ t. cc, h.0.1), rw h.1)

  -- Reading an end frame when a group is open.
  end_read : (ls : List OpenGroup) (cs : List Content) → no_model ls ≡ false
      → Reads (closed ls) fs (read cs)
      → Reads ls (end_frame ∷ fs) (prepended end_frame (read cs))
  end_read [] cs e h = clash e
  end_read (l ∷ ls) cs e h = ((λ t. refl, h.0), rw h.1)

-- If no model is open, no content remains.
none_open : (ls : List OpenGroup) → no_model ls ≡ true → Matches ls []
none_open [] e = tt
none_open (l ∷ ls) e = clash (sym e)

-- Frames that keep all rules but perhaps 6 are read back.
reads : (fs : List Frame) (filled : Bool) (ls : List OpenGroup) → KeepsRulesBut6 filled ls fs → Reads ls fs (parsed fs)
unfolding parsed
reads [] filled ls s = (none_open ls s, refl)
reads (model_frame id ∷ fs) filled ls s =
    let r = parsed fs in model_read fs r.models id ls r.rest s.0 (reads fs false (opened ∷ []) s.1)
reads (group_frame h ∷ fs) filled ls s =
    let r = parsed fs in
    let open_model = ((neither (no_model ls) (in_top ls && filled)).0 s.0).0 in
    group_read fs r.models h ls r.rest open_model (reads fs (filled || eqb h.count_kind fill) (with_group ls) s.2)
reads (point_frame p ∷ fs) filled ls s =
    let r = parsed fs in point_read fs r.models p ls r.rest s.0 (reads fs filled (with_point p ls) s.2)
reads (end_frame ∷ fs) filled ls s =
    let r = parsed fs in end_read fs r.models ls r.rest s.0 (reads fs filled (closed ls) s.2)
reads (malformed ∷ fs) filled ls s = absurd s

-- The frames of an accepted catalog are the frames of its models.
pub frames_of_definitions : (ws : List ℕ) (n : ℕ) → checked ws ≡ accepted n → catalog_frames (definitions ws) ≡ frames ws
frames_of_definitions ws n e =
    let position = ((accepted_frames (frames ws) start 0 n).0 ((accepted_start ws n).0 e).2).0 in
    let r = reads (frames ws) false [] position in
    go (parsed (frames ws)).rest r.0 r.1
  where
    go : (cs : List Content) → Matches [] cs → rest_frames cs (catalog_frames (definitions ws)) ≡ frames ws
        → catalog_frames (definitions ws) ≡ frames ws
    go [] m q = q
    go (c ∷ cs) m q = absurd m

-- No accepted frame is malformed.
none_malformed : (fs : List Frame) (s : State) (i n : ℕ) → check_from s i fs ≡ accepted n → Each (λ f. is_malformed f ≡ false) fs
none_malformed [] s i n e = tt
none_malformed (f ∷ fs) s i n e =
    let h = (accepted_step s i f fs n).0 e in
    (((none_broken (rules s f (run (f ∷ fs)))).0 h.0).0, none_malformed fs (next s f) (suc i) n h.1)

-- The words of an accepted catalog are the words of the frames of its models.
pub words_of_definitions : (ws : List ℕ) (n : ℕ) → checked ws ≡ accepted n → words_of_all (catalog_frames (definitions ws)) ≡ ws
words_of_definitions ws n e =
    let a = (accepted_start ws n).0 e in
    ap words_of_all (frames_of_definitions ws n e) ∙ words_frames ws a.0 (none_malformed (frames ws) start 0 n a.2)
