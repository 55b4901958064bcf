-- `store_words`: the words so far are stored, and the rest of the text has the others.
use Rattle.std.proofs.Common.{◌<◌, length, arith}
use Rattle.std.proofs.lemmas.Option.{MatchOption-at_some}
use Rattle.input.proofs.WordRuns.{word_stored}
use Rattle.input.proofs.lines.store_words.Goals as goal

pub loop-word-preserved : goal.loop-word-preserved
loop-word-preserved c =
    let more : c.loop-word.word-index < length c.loop-word.word-items = omega arith in
    let parts = MatchOption-at_some _ _ c.unwrap.result c.unwrap.ensures c.split_first_chunk.ensures.cases in
    word_stored c.loop-word.invariant more (rw c.without_feed.ensures at parts.0) (rw c.without_feed.ensures at parts.1) c.word_of.ensures
