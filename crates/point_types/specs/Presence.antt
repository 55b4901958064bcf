-- Whether a model must have a point (document 01, "The book": mandatory, word 6 of a point frame).
use Rattle.std.specs.Prelude.{true, false, ℕ, eqb}

pub data Presence : Type 0 where
  mandatory optional : Presence

-- What word 6 means: 1 is mandatory, 0 optional. (Checking refuses any other with 7.)
abbrev pub presence_of : ℕ → Presence
presence_of word = elim (eqb word 1) [ true ↦ mandatory | false ↦ optional ]
