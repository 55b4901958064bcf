-- Document 01, "The program": what the program prints, for an input of any length.
use Rattle.std.specs.Prelude.{◌≡◌, List, [], ◌++◌, ℕ, ◌<◌, length, take}
use Rattle.report.specs.Program.{output}

-- `bytes` are the output for the whole input, of which the first `count` bytes were read into `buffer`. `rest` is the unread part:
-- any bytes if the buffer is full; none otherwise, since the input has ended. (A read that fails is taken as the end of the input.)
abbrev pub Prints : List ℕ → ℕ → List ℕ → Type 0
Prints buffer count bytes = (rest : List ℕ) → (count < length buffer → rest ≡ []) → bytes ≡ output (take count buffer ++ rest)
