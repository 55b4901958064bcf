-- `digits_of`: the digits at the start of twenty zero bytes.
use mathlib.Core.Path.{◌≡◌, ap, ◌∙◌}
use mathlib.Core.List.{◌++◌}
use Prim.Native.Nat.{◌-◌}
use native.Mathlib.Omega.{arith}
use lib.ListN.{replicate}
use Rattle.std.proofs.Common.{rules}
use Rattle.display.specs.Decimals.{digit_count, digits_of}
use Rattle.display.proofs.AppendedTexts.{given_back}
use Rattle.display.proofs.DigitTexts.{number_length}
use Rattle.display.proofs.StoredTexts.{put_on_zeros}
use Rattle.display.proofs.decimals.digits_of.Goals as goal

pub returns-clause-value : goal.returns-clause-value
returns-clause-value c =
    let n = c.args.n in
    let count : c.number.new.self.length ≡ digit_count n = omega (arith, c.number.ensures.added.put.ends, number_length n) in
    let bytes = put_on_zeros {n = 20} (given_back c.number.ensures.added (search rules)) (omega arith)
    ∙ ap (λ k. digits_of n ++ replicate (20 - k) 0) (number_length n) in
    λ k. record { bytes = bytes k; count = count k }
