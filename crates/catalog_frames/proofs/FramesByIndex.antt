-- The whole frames of a catalog by their index.
use mathlib.Core.Path.{◌≡◌, refl, ◌∙◌, ap}
use Prim.Native.Nat.{ℕ, zero, suc, ◌+◌, ◌/◌, ◌≤◌, ◌<◌}
use native.Mathlib.Omega.{arith}
use mathlib.Core.List.{List}
use lib.ListN.{length, get_or}
use Rattle.catalog_frames.specs.Frames.{malformed, frame_at, frames_from, frame_in}

from_within : (ws : List ℕ) (i n j : ℕ) → j < n → get_or (frames_from ws i n) j malformed ≡ frame_at ws (i + j)
unfolding frames_from
from_within ws i zero j h = absurd (omega arith)
from_within ws i (suc n) zero h = let e : i + 0 ≡ i = omega arith in rw e
from_within ws i (suc n) (suc j) h =
    let e : suc i + j ≡ i + suc j = omega arith in
    from_within ws (suc i) n j (omega arith) ∙ ap (λ k. frame_at ws k) e

from_beyond : (ws : List ℕ) (i n j : ℕ) → n ≤ j → get_or (frames_from ws i n) j malformed ≡ malformed
unfolding frames_from
from_beyond ws i zero j h = refl
from_beyond ws i (suc n) zero h = absurd (omega arith)
from_beyond ws i (suc n) (suc j) h = from_beyond ws (suc i) n j (omega arith)

-- If there is a whole frame i, `frame_in` is that frame.
pub frame_within : (ws : List ℕ) (i : ℕ) → i < length ws / 8 → frame_in ws i ≡ frame_at ws i
frame_within ws i h =
    let e : 0 + i ≡ i = omega arith in
    from_within ws 0 (length ws / 8) i h ∙ ap (λ k. frame_at ws k) e

-- If there is none, `frame_in` is malformed.
pub frame_beyond : (ws : List ℕ) (i : ℕ) → length ws / 8 ≤ i → frame_in ws i ≡ malformed
frame_beyond ws i h = from_beyond ws 0 (length ws / 8) i h
