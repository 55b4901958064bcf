-- A run of points, counted point by point: its registers, its number of points, and whether the last is a pad.
use mathlib.Core.Path.{◌≡◌, refl, sym, ap, ◌∙◌}
use mathlib.Core.Bool.{Bool, false}
use mathlib.Core.List.{List, [], ◌∷◌}
use Prim.Native.Nat.{ℕ, zero, suc, max, ◌+◌, ◌*◌, ◌/◌, ◌≤◌, ◌<◌}
use native.Mathlib.Omega.{arith}
use lib.Dec.{eqb}
use lib.ListN.{length, take}
use lib.Seq.{take_all}
use Rattle.catalog_frames.specs.Frames.{Point, Frame, model_frame, group_frame, point_frame, end_frame, malformed, pad}
use Rattle.catalog.specs.Rules.{run}
use Rattle.model_definitions.specs.Definitions.{points_size}
use Rattle.layout.specs.Reading.{ends_with_pad}
use Rattle.layout.specs.FrameWalk.{onward}
use Rattle.layout.specs.InternalWalks.{content_from, ParsesAt}
use Rattle.definition_frames.specs.CodeTypes.{RunOf, PointRun, to_spec_run, run_of}
use Rattle.definition_frames.specs.declared.runs.Run.{Run}
use Rattle.layout.proofs.FramePosition.{length_onward, past_end_within}
use Rattle.layout.proofs.FrameRuns.{run_more, run_ends, run_content}

-- A point frame gives the first point of the run; any other frame ends it.
pub ruleset run_steps = (run_more, run_ends)

-- A run part by part is one equation.
to_spec_run_lem : {ps : List Point} {first : ℕ} {r : Run} → RunOf ps first r → to_spec_run r ≡ run_of ps first
to_spec_run_lem x = λ k. record { size = x.size k; points = x.points k; next = x.next k; pad = x.pad k }

-- Is the last of these points a pad? Where there are none, `before`.
abbrev pub last_is_pad : Bool → List Point → Bool
last_is_pad before [] = before
last_is_pad before (p ∷ ps) = ends_with_pad (p ∷ ps)

-- At the start, `before` is false.
pad_none : (ps : List Point) → last_is_pad false ps ≡ ends_with_pad ps
unfolding ends_with_pad
pad_none [] = refl
pad_none (p ∷ ps) = refl

-- One point further.
pad_next : (before : Bool) (p : Point) (ps : List Point) → last_is_pad (eqb p.type_code pad) ps ≡ last_is_pad before (p ∷ ps)
unfolding ends_with_pad
pad_next before p [] = refl
pad_next before p (q ∷ ps) = refl

-- The registers and points counted, and the points that are left, are together those of all points. `before`: the last counted
-- point is a pad.
pub record RunFrom (all left : List Point) (size points : ℕ) (before : Bool) : Type 0 where
  pub sizes : size + points_size left ≡ points_size all
  pub counted : points + length left ≡ length all
  pub padded : last_is_pad before left ≡ ends_with_pad all
  pub bounded : size ≤ points * 65535

-- A run has no more points than there are frames.
run_within : (fs : List Frame) → length (run fs) ≤ length fs
run_within [] = omega arith
run_within (model_frame id ∷ fs) = omega arith
run_within (group_frame h ∷ fs) = omega arith
run_within (point_frame p ∷ fs) = omega (arith, run_within fs)
run_within (end_frame ∷ fs) = omega arith
run_within (malformed ∷ fs) = omega arith

-- What is counted of the first 4,096 points of the run from frame `first` on, where `room` of the points `rest` are still to be
-- counted.
pub record Counted (ws : List ℕ) (first : ℕ) (r : Run) (room : ℕ) (rest : List Point) : Type 0 where
  pub from : RunFrom (take 4096 (run (onward ws first))) (take room rest) r.size r.points r.ends_with_pad
  pub next : r.next ≡ first + r.points
  pub within : r.next + length rest ≤ max first (length ws / 8)
  pub few : r.points + room ≡ 4096

module _ (ws : List ℕ) (first : ℕ) where
  -- At the start no point is counted.
  pub counts_none : (room : ℕ) (rest : List Point) → room ≡ 4096 → rest ≡ run (onward ws first)
      → Counted ws first (record { size = 0; points = 0; next = first; ends_with_pad = false }) room rest
  counts_none room rest e same =
      let all : List Point = take 4096 (run (onward ws first)) in
      let w = run_within (onward ws first) in
      let n = length_onward ws first in
      rw (e, same) (record {
        from = record { sizes = omega arith; counted = omega arith; padded = pad_none all; bounded = omega arith };
        next = omega arith;
        within = omega (arith, w, n);
        few = omega arith;
      })

  -- One more point is counted.
  pub counts_point : (r : Run) (room room' : ℕ) (rest rest' : List Point) (p : Point) → Counted ws first r room rest
      → rest ≡ p ∷ rest' → room' + 1 ≡ room → p.size ≤ 65535
      → Counted ws first (record { size = r.size + p.size; points = r.points + 1; next = r.next + 1; ends_with_pad = eqb p.type_code pad })
      room' rest'
  counts_point r room room' rest rest' p x e n b =
      let one : room ≡ suc room' = omega (arith, n) in
      let left : take room rest ≡ p ∷ take room' rest' = rw (e, one) in
      let s = ap points_size left in
      let l = ap length left in
      let k = ap length e in
      record {
        from = record {
          sizes = omega (arith, s, x.from.sizes);
          counted = omega (arith, l, x.from.counted);
          padded = pad_next r.ends_with_pad p _ ∙ sym (ap (last_is_pad r.ends_with_pad) left) ∙ x.from.padded;
          bounded = omega (arith, b, x.from.bounded);
        };
        next = omega (arith, x.next);
        within = omega (arith, k, x.within);
        few = omega (arith, n, x.few);
      }

  -- No point is left.
  pub counts_end : (r : Run) (room : ℕ) (rest : List Point) → Counted ws first r room rest → (0 < room → rest ≡ [])
      → to_spec_run r ≡ run_of (take 4096 (run (onward ws first))) first
  counts_end r room rest x none_left =
      let e : take room rest ≡ [] = go room none_left in
      let s = ap points_size e in
      let l = ap length e in
      to_spec_run_lem (record {
        size = omega (arith, s, x.from.sizes);
        points = omega (arith, l, x.from.counted);
        next = omega (arith, l, x.from.counted, x.next);
        pad = sym (ap (last_is_pad r.ends_with_pad) e) ∙ x.from.padded;
      })
    where
      go : (n : ℕ) → (0 < n → rest ≡ []) → take n rest ≡ []
      go zero h = refl
      go (suc n) h = ap (take (suc n)) (h (omega arith))

-- In a catalog of at most 4,096 frames, where a group is open, the run is the rest of its points.
run_whole : (ws : List ℕ) (i : ℕ) → ParsesAt ws i → length ws / 8 ≤ 4096
    → take 4096 (run (onward ws i)) ≡ (content_from ws i).points
run_whole ws i s few =
    let w = past_end_within ws i s in
    ap (take 4096) (run_content ws i s) ∙ take_all 4096 (content_from ws i).points (omega arith)

-- Where a group is open, the run that `run_extent` finds is the rest of its points.
pub content_run : (ws : List ℕ) (first : ℕ) → ParsesAt ws first → length ws / 8 ≤ 4096 → (r : Run)
    → to_spec_run r ≡ run_of (take 4096 (run (onward ws first))) first → RunOf (content_from ws first).points first r
content_run ws first s few r e =
    let same = e ∙ ap (λ ps. run_of ps first) (run_whole ws first s few) in
    record {
      size = ap (λ (x : PointRun). x.size) same;
      points = ap (λ (x : PointRun). x.points) same;
      next = ap (λ (x : PointRun). x.next) same;
      pad = ap (λ (x : PointRun). x.pad) same;
    }
