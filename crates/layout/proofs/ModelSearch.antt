-- The search for the definition of an id, frame by frame.
use mathlib.Core.Path.{◌≡◌, refl, sym, ap, ◌∙◌}
use mathlib.Core.Bool.{true, false}
use mathlib.Core.List.{List, [], ◌∷◌}
use mathlib.Core.Option.{Option, none, some}
use Prim.Native.Nat.{ℕ, zero, suc, ◌+◌, ◌/◌, ◌≤◌, ◌<◌}
use native.Mathlib.Numerals.{add-one}
use native.Mathlib.Omega.{arith}
use lib.ListN.{length}
use Rattle.lists.proofs.TestOutcomes.{clash}
use Rattle.catalog_frames.specs.Frames.{Frame, model_frame, group_frame, point_frame, end_frame, malformed, frame_in}
use Rattle.model_definitions.specs.Definitions.{Content, Definition, catalog_frames, parsed, inner, definitions}
use Rattle.catalog_frames.proofs.FramesByIndex.{frame_beyond}
use Rattle.model_definitions.proofs.TreeFrames.{definition_frames_lem}
use Rattle.model_definitions.proofs.ModelFrames.{rest_frames, frames_of_definitions}
use Rattle.layout.specs.Reading.{top_of}
use Rattle.layout.specs.FrameWalk.{onward}
use Rattle.layout.specs.InternalWalks.{content_from, ParsesAt, Accepted, is_model_of}
use Rattle.layout.proofs.FramePosition.{length_onward, onward_more, onward_none, first_frame, placed}
use Rattle.layout.proofs.PassedFrames.{passed}

-- The top group of the definition of `id`, if its model frame is frame i or later.
abbrev pub top_from : List ℕ → ℕ → ℕ → Option Content
top_from ws id i = top_of id (parsed (onward ws i)).models

module _ (ws : List ℕ) (id i : ℕ) where
  -- It is found at its model frame.
  pub search_found : i < length ws / 8 → is_model_of id (frame_in ws i) ≡ true → some (content_from ws (i + 1)) ≡ top_from ws id i
  unfolding content_from parsed top_of
  search_found h t = rw (onward_more ws i h) (go (frame_in ws i) t)
    where
      rest : List Frame
      rest = onward ws (i + 1)

      go : (f : Frame) → is_model_of id f ≡ true
          → some (inner (parsed rest).rest) ≡ top_of id (parsed (f ∷ rest)).models
      go (model_frame k) q = rw (q, top_of)
      go (group_frame g) q = clash (sym q)
      go (point_frame p) q = clash (sym q)
      go end_frame q = clash (sym q)
      go malformed q = clash (sym q)

  -- At any other frame, the search goes on with the next one.
  pub search_on : i < length ws / 8 → is_model_of id (frame_in ws i) ≡ false → top_from ws id (i + 1) ≡ top_from ws id i
  unfolding parsed top_of
  search_on h t = rw (onward_more ws i h) (go (frame_in ws i) t)
    where
      rest : List Frame
      rest = onward ws (i + 1)

      go : (f : Frame) → is_model_of id f ≡ false → top_of id (parsed rest).models ≡ top_of id (parsed (f ∷ rest)).models
      go (model_frame k) q = rw (q, top_of)
      go (group_frame g) q = refl
      go (point_frame p) q = refl
      go end_frame q = refl
      go malformed q = refl

  -- After the last frame there is none.
  pub search_end : length ws / 8 ≤ i → none ≡ top_from ws id i
  unfolding parsed top_of
  search_end h = rw (onward_none ws i h)

-- ---- Model frames of an accepted catalog

-- The frames from frame i on are those of the rest of the open groups, then those of the models after them.
record At (ws : List ℕ) (i : ℕ) : Type 0 where
  left : List Content
  models : List Definition
  here : onward ws i ≡ rest_frames left (catalog_frames models)

-- If this holds at a frame, it holds at the next.
at_next : (ws : List ℕ) (i : ℕ) → At ws i → At ws (i + 1)
at_next ws i a = go a.left a.models a.here
  where
    go : (cs : List Content) (ds : List Definition) → onward ws i ≡ rest_frames cs (catalog_frames ds) → At ws (i + 1)
    go (c ∷ cs) ds e =
        let n = passed ws i c cs (catalog_frames ds) e in record { left = n.left; models = ds; here = n.there }
    go [] (d ∷ ds) e =
        let all = rest_frames (d.top ∷ []) (catalog_frames ds) in
        let t = first_frame ws i (model_frame d.id) all (e ∙ definition_frames_lem d (catalog_frames ds)) in
        record { left = d.top ∷ []; models = ds; here = t.1 }
    go [] [] e =
        let l = sym (length_onward ws i) ∙ ap length e in
        record { left = []; models = []; here = onward_none ws (i + 1) (omega arith) }

at_every : (ws : List ℕ) → Accepted ws → (i : ℕ) → At ws i
at_every ws a zero = record { left = []; models = definitions ws; here = sym (frames_of_definitions ws a.0 a.1) }
at_every ws a (suc i) = rw (← add-one i) (at_next ws i (at_every ws a i))

-- After a model frame, the walk is at its definition.
pub model_accepted : (ws : List ℕ) (id i : ℕ) → Accepted ws → is_model_of id (frame_in ws i) ≡ true → ParsesAt ws (i + 1)
model_accepted ws id i accepts t = let a = at_every ws accepts i in go a.left a.models a.here
  where
    go : (cs : List Content) (ds : List Definition) → onward ws i ≡ rest_frames cs (catalog_frames ds) → ParsesAt ws (i + 1)
    go (c ∷ cs) ds e = clash (sym t ∙ (passed ws i c cs (catalog_frames ds) e).in_model id)
    go [] (d ∷ ds) e =
        let all = rest_frames (d.top ∷ []) (catalog_frames ds) in
        let n = first_frame ws i (model_frame d.id) all (e ∙ definition_frames_lem d (catalog_frames ds)) in
        (placed ws (i + 1) d.top.points d.top.groups (catalog_frames ds) n.1).2
    go [] [] e =
        let l = sym (length_onward ws i) ∙ ap length e in
        clash (sym t ∙ ap (is_model_of id) (frame_beyond ws i (omega arith)))
