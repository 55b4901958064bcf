-- The chunks of eight words are the frames.
use mathlib.Core.Path.{◌≡◌, refl, sym, ◌∙◌}
use mathlib.Core.List.{List, []}
use Prim.Native.Nat.{ℕ, zero, suc, ◌+◌, ◌*◌, ◌/◌, ◌<◌}
use native.Mathlib.Omega.{arith}
use lib.ListN.{length, get_or, take, drop}
use Rattle.std.specs.Simd.{first_chunks}
use Rattle.std.proofs.lemmas.List.{get_or-drop, get_or-take, drop-drop}
use Rattle.catalog_frames.specs.Frames.{word, frame_of, frame_in}
use Rattle.catalog_frames.proofs.FramesByIndex.{frame_within}

-- Chunk i is the eight words from word 8 × i on.
chunk_at : (ws : List ℕ) (n i : ℕ) → i < n → get_or (first_chunks 8 n ws) i [] ≡ take 8 (drop (8 * i) ws)
chunk_at ws zero i h = absurd (omega (arith, h))
chunk_at ws (suc n) zero h = refl
chunk_at ws (suc n) (suc i) h =
    let e : 8 * suc i ≡ 8 + 8 * i = omega arith in
    rw (e, ← drop-drop (8 * i) 8 ws) (chunk_at (drop 8 ws) n i (omega (arith, h)))

-- Word k of chunk i is that of frame i.
chunk_word : (ws : List ℕ) (n i k : ℕ) → i < n → k < 8 → get_or (get_or (first_chunks 8 n ws) i []) k 0 ≡ word ws i k
chunk_word ws n i k h l =
    rw (chunk_at ws n i h) (get_or-take 8 (drop (8 * i) ws) k 0 l ∙ get_or-drop (8 * i) ws k 0)

-- The frame with the words of chunk i is frame i.
pub chunk_frame : (ws : List ℕ) (i : ℕ) (f : List ℕ) → i < length ws / 8 → f ≡ get_or (first_chunks 8 (length ws / 8) ws) i []
    → frame_of (get_or f 0 0) (get_or f 1 0) (get_or f 2 0) (get_or f 3 0) (get_or f 4 0) (get_or f 5 0) (get_or f 6 0) (get_or f 7 0)
    ≡ frame_in ws i
chunk_frame ws i f h e =
    let at : (k : ℕ) → k < 8 → get_or f k 0 ≡ word ws i k = λ k l. rw e (chunk_word ws (length ws / 8) i k h l) in
    rw (
      at 0 (omega arith),
      at 1 (omega arith),
      at 2 (omega arith),
      at 3 (omega arith),
      at 4 (omega arith),
      at 5 (omega arith),
      at 6 (omega arith),
      at 7 (omega arith),
    )
    (sym (frame_within ws i h))
