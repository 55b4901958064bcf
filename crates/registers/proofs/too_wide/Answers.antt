-- `too_wide`: a raw value above the largest pattern is too wide.
use mathlib.Core.Path.{ap, ◌∙◌}
use Prim.Native.Nat.{ℕ}
use native.Mathlib.Omega.{arith}
use lib.Dec.{ltb}
use Rattle.registers.proofs.Joining.{above_ones}
use Rattle.registers.proofs.too_wide.Goals as goal

pub returns : goal.returns
returns c =
    let a = c.args in
    ap (λ (ones : ℕ). ltb ones a.raw) c.all_ones.ensures ∙ above_ones a.count a.raw (omega arith)
