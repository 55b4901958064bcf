-- The program reads only the first 74,818 bytes of its input: its output is the output for the whole input.
use mathlib.Core.Path.{◌≡◌, ap}
use mathlib.Core.List.{List}
use Prim.Native.Nat.{ℕ}
use native.Mathlib.Omega.{arith}
use lib.ListN.{take}
use Rattle.input.specs.Parsing as Parsing
use Rattle.input.proofs.LongInputs.{cut_off}
use Rattle.report.specs.Program.{frame_capacity, register_capacity, found, found_in, printed, output}

pub enough_input : (input : List ℕ) → output (take 74818 input) ≡ output input
unfolding found
enough_input input = ap (λ (x : Parsing.Input). printed (found_in x)) (cut_off input frame_capacity register_capacity 74818 (omega arith))
