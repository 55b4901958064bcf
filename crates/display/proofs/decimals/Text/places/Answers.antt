-- `places`: the whole part, the decimal point and the places.
use mathlib.Core.Path.{ap}
use Prim.Native.Nat.{ℕ, ◌/◌}
use native.Mathlib.Omega.{arith}
use Rattle.display.specs.Decimals.{digits_of}
use Rattle.display.proofs.AppendedTexts.{appended_both, appended_same}
use Rattle.display.proofs.PowersOfTen.{positive}
use Rattle.display.proofs.DecimalCases.{places_text}
use Rattle.display.proofs.decimals.Text.places.Goals as goal

pub nonzero_div-n : goal.nonzero_div-n
nonzero_div-n c = rw c.pow.ensures (positive c.args.places)

pub returns-clause-added : goal.returns-clause-added
returns-clause-added c =
    let a = c.args in
    let whole = appended_same (ap (λ (u : ℕ). digits_of (a.n / u)) c.pow.ensures) c.number.ensures.added in
    appended_same (places_text a.n a.places (omega arith)) (appended_both whole (appended_both c.byte.ensures c.digits.ensures.added))
