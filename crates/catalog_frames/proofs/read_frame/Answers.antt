-- `read_frame` meets its contract: frame i, or malformed if there is none.
use mathlib.Core.List.{[]}
use borrow.Author.Tests.{ltb-false, ltb-true}
use Rattle.std.proofs.Common.{sym, ◌∙◌}
use Rattle.catalog_frames.proofs.FramesByIndex.{frame_beyond}
use Rattle.catalog_frames.proofs.FrameChunks.{chunk_frame}
use Rattle.catalog_frames.proofs.read_frame.Goals as goal

pub returns-in_err-get : goal.returns-in_err-get
returns-in_err-get c =
    let beyond = ltb-false _ _ (sym c.in_err-get.ensures.lookup.0) in
    rw c.from_residual.ensures (sym (frame_beyond _ _ (rw c.as_chunks.ensures.front_len at beyond)))

pub returns : goal.returns
returns c =
    let found = c.in_ok-get.ensures.lookup in
    let within = ltb-true _ _ (sym found.0) in
    c.frame_of.ensures
    ∙ chunk_frame _ _ _ (rw c.as_chunks.ensures.front_len at within) (rw c.as_chunks.ensures.front at (found.3.1 []))
