-- `store_words`: the words so far are stored, and the rest of the text has the others.
use lib.ListN.{length}
use Rattle.input.specs.InternalContracts.{words_from}
use Rattle.input.proofs.WordRuns.{StoredSoFar}
use Rattle.input.proofs.lines.store_words.Given as goal

abbrev pub invariant-loop-word : goal.invariant-loop-word
invariant-loop-word l = StoredSoFar (words_from (length l.fn.out) l.text) l.word-items l.rest l.word-index
