-- Listing header by header from an address on, as the code walks over a map.
use mathlib.Core.Path.{◌≡◌, refl, ap, ◌∙◌}
use mathlib.Core.List.{List, []}
use mathlib.Core.List as Lists
use Prim.Native.Nat.{ℕ, suc, ◌+◌, ◌-◌, ◌≤◌, ◌<◌}
use native.Mathlib.Decide.{dec_le}
use native.Mathlib.Omega.{arith}
use lib.Dec.{eqb}
use lib.ListN.{length, take, drop, length-drop}
use lib.Seq.{length-take-le}
use Rattle.lists.proofs.TestOutcomes.{impossible}
use Rattle.register_map.specs.Headers.{model, end_marker, refused, header_at}
use Rattle.register_map.specs.Scan.{Model, size_of, Scan, marked, broken, with_model, scan_from, scan}
use Rattle.register_map.proofs.ScanSteps.{scan_next, scan_end, scan_refused, scan_enough}
use Rattle.register_map.proofs.HeaderLaws.{header_late}
use Rattle.register_map.proofs.HeaderCases.{model_ends}
use Rattle.layout.specs.Points.{ModelPoint}
use Rattle.layout.specs.Reading.{Reading, unknown, faulty, points, Fault, fault_number}
use Rattle.listing.specs.Listing as Listing
use Rattle.listing.specs.Listing.{record_of, Answer, listed, with_records, walk, walked}
use Rattle.listing.proofs.WalkSteps.{walk_unknown, walk_faulty, walk_points}

-- The models from the header at address `at` on.
abbrev pub scan_at : List ℕ → ℕ → Scan
scan_at map at = scan_from (length map) (eqb at 2) (drop at map)

-- The answer from the header at address `at` on, with `index` headers before it.
abbrev pub walk_at : (Model → Reading) → List ℕ → ℕ → ℕ → Answer
walk_at read map index at = walk read (scan_at map at).ending index at (scan_at map at).models

-- The model whose header is at address `at`, by its id and its length.
abbrev pub model_at : List ℕ → ℕ → ℕ → ℕ → Model
model_at map at id len = record { id = id; body = take len (drop (at + 2) map) }

-- ---- The scan from an address on

module _ (map : List ℕ) (at : ℕ) where
  -- If a register is left, the bound of the scan is not 0.
  bound_left : at < length map → scan_at map at ≡ scan_from (suc (length map - 1)) (eqb at 2) (drop at map)
  bound_left inside =
      let n : length map ≡ suc (length map - 1) = omega arith in
      ap (λ n. scan_from n (eqb at 2) (drop at map)) n

  -- A model, and those after it.
  scan_at_model : (id len : ℕ) → 2 ≤ at → header_at (eqb at 2) (drop at map) ≡ model id len
      → scan_at map at ≡ with_model (model_at map at id len) (scan_at map (at + 2 + len))
  scan_at_model id len low h =
      let ends = model_ends (eqb at 2) map at h in
      let next = at + 2 + len in
      let left = length-drop next map in
      let k = length map - 1 in
      bound_left (omega (arith, ends))
      ∙ scan_next k map at low h
      ∙ ap (with_model (model_at map at id len))
      (scan_enough k (length map) (eqb next 2) (drop next map) (omega (arith, left)) (omega (arith, left)))

  -- No register is left: the scan is broken by 22, and so is the header.
  scan_at_late : length map ≤ at → scan_at map at ≡ record { models = []; ending = broken 22 }
  scan_at_late past =
      let left = length-drop at map in
      scan_enough (length map) 1 (eqb at 2) (drop at map) (omega (arith, left)) (omega (arith, left))
      ∙ scan_refused 0 (eqb at 2) (drop at map) (header_late (eqb at 2) map at (omega arith))

  -- The end marker.
  scan_at_end : header_at (eqb at 2) (drop at map) ≡ end_marker → scan_at map at ≡ record { models = []; ending = marked }
  scan_at_end h = go (dec_le (length map) at)
    where
      go : Dec (length map ≤ at) → scan_at map at ≡ record { models = []; ending = marked }
      go (yes past) =
          let late = header_late (eqb at 2) map at (omega arith) in
          impossible (cc)
      go (no inside) = bound_left (omega arith) ∙ scan_end (length map - 1) (eqb at 2) (drop at map) h

  -- A header that is refused, also for want of registers.
  scan_at_refused : {number : ℕ} → header_at (eqb at 2) (drop at map) ≡ refused number
      → scan_at map at ≡ record { models = []; ending = broken number }
  scan_at_refused {number} h = go (dec_le (length map) at)
    where
      ends_by : ℕ → Scan
      ends_by n = record { models = []; ending = broken n }

      go : Dec (length map ≤ at) → scan_at map at ≡ record { models = []; ending = broken number }
      go (yes past) =
          let late = header_late (eqb at 2) map at (omega arith) in
          let same : 22 ≡ number = cc in
          scan_at_late past ∙ ap ends_by same
      go (no inside) = bound_left (omega arith) ∙ scan_refused (length map - 1) (eqb at 2) (drop at map) h

  -- A model's body has the number of registers that its length says.
  pub body_length : (id len : ℕ) → header_at (eqb at 2) (drop at map) ≡ model id len → length (take len (drop (at + 2) map)) ≡ len
  body_length id len h =
      let ends = model_ends (eqb at 2) map at h in
      length-take-le len (drop (at + 2) map) (omega (arith, ends, length-drop (at + 2) map))

-- ---- The walk from an address on

-- From the first header on it is the whole walk.
pub walk_starts : (read : Model → Reading) (map : List ℕ) → walk_at read map 0 2 ≡ walked read map
unfolding scan
walk_starts read map = refl

module _ (read : Model → Reading) (map : List ℕ) (index at : ℕ) where
  by_scan : {s : Scan} → scan_at map at ≡ s → walk_at read map index at ≡ walk read s.ending index at s.models
  by_scan e = ap (λ s. walk read s.ending index at s.models) e

  -- At the end marker no record is left.
  pub walk_at_end : header_at (eqb at 2) (drop at map) ≡ end_marker → walk_at read map index at ≡ listed [] (index + 1)
  unfolding walk
  walk_at_end h = by_scan (scan_at_end map at h)

  -- A header that is refused.
  pub walk_at_refused : {number : ℕ} → header_at (eqb at 2) (drop at map) ≡ refused number
      → walk_at read map index at ≡ Listing.refused number at index
  unfolding walk
  walk_at_refused h = by_scan (scan_at_refused map at h)

  module _ (id len : ℕ) (low : 2 ≤ at) (h : header_at (eqb at 2) (drop at map) ≡ model id len) where
    -- The walk after a model.
    following : walk read (scan_at map (at + 2 + len)).ending (index + 1) (at + size_of (model_at map at id len))
        (scan_at map (at + 2 + len)).models
        ≡ walk_at read map (index + 1) (at + (2 + len))
    following =
        let next : at + 2 + len ≡ at + (2 + len) = omega arith in
        let from : ℕ → ℕ → Answer =
        λ n size. walk read (scan_at map n).ending (index + 1) (at + (2 + size)) (scan_at map n).models in
        ap (from (at + 2 + len)) (body_length map at id len h) ∙ ap (λ n. from n len) next

    -- An unknown model is skipped.
    pub walk_at_unknown : read (model_at map at id len) ≡ unknown
        → walk_at read map index at ≡ walk_at read map (index + 1) (at + (2 + len))
    walk_at_unknown e =
        let s = scan_at map (at + 2 + len) in
        by_scan (scan_at_model map at id len low h)
        ∙ walk_unknown read s.ending index at (model_at map at id len) s.models e
        ∙ following

    -- A faulty model is refused.
    pub walk_at_faulty : {fault : Fault} → read (model_at map at id len) ≡ faulty fault
        → walk_at read map index at ≡ Listing.refused (fault_number fault) at index
    walk_at_faulty e =
        let s = scan_at map (at + 2 + len) in
        by_scan (scan_at_model map at id len low h)
        ∙ walk_faulty read s.ending index at (model_at map at id len) s.models e

    -- The records of a model come before those of the models after it.
    pub walk_at_points : {ps : List ModelPoint} → read (model_at map at id len) ≡ points ps
        → walk_at read map index at
        ≡ with_records (Lists.map (record_of index at id) ps) (walk_at read map (index + 1) (at + (2 + len)))
    walk_at_points {ps} e =
        let s = scan_at map (at + 2 + len) in
        by_scan (scan_at_model map at id len low h)
        ∙ walk_points read s.ending index at (model_at map at id len) s.models e
        ∙ ap (with_records (Lists.map (record_of index at id) ps)) following
