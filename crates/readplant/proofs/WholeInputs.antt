-- The output for the bytes that were read is the output for the whole input, if the buffer holds 74,818 bytes.
use mathlib.Core.Path.{◌≡◌, sym, ap, ◌∙◌}
use mathlib.Core.List.{List, [], ◌++◌, append-nil}
use Prim.Native.Nat.{ℕ, ◌≤◌}
use native.Mathlib.Decide.{dec_le}
use native.Mathlib.Omega.{arith}
use lib.ListN.{length, take}
use lib.Seq.{take_at, length-take-le}
use Rattle.report.specs.Program.{output}
use Rattle.report.proofs.EnoughInput.{enough_input}
use Rattle.readplant.specs.Printing.{Prints}

pub whole_input : (buffer : List ℕ) (count : ℕ) (text : List ℕ) → length buffer ≡ 74818 → count ≤ length buffer
    → text ≡ output (take count buffer) → Prints buffer count text
whole_input buffer count text full h e rest ended = go (dec_le (length buffer) count)
  where
    go : Dec (length buffer ≤ count) → text ≡ output (take count buffer ++ rest)
    go (yes k) =
        let read = take count buffer in
        let n : length read ≡ 74818 = omega (arith, length-take-le count buffer h) in
        e ∙ ap output (sym (take_at read rest 74818 n)) ∙ enough_input (read ++ rest)
    go (no k) =
        let none : rest ≡ [] = ended (omega arith) in
        rw none (e ∙ ap output (sym (append-nil (take count buffer))))
