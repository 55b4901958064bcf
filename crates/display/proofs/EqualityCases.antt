-- The result for two accepted amounts, by the code's parts.
use mathlib.Core.Path.{◌≡◌, sym, ap}
use Rattle.display.specs.Amounts.{Amount}
use Rattle.display.specs.Equality.{equality, equal_if}
use Rattle.display.specs.InternalParts.{IsAmount, is_same_by_parts}
use Rattle.display.specs.declared.quantities.ScaledNumber.{ScaledNumber}
use Rattle.display.proofs.SameAmount.{by_parts}

pub both_accepted : (a b : Amount) (x y : ScaledNumber) → IsAmount a x → IsAmount b y
    → equality a b ≡ equal_if (is_same_by_parts x y)
unfolding equality
both_accepted a b x y w u =
    rw (w.is, u.is, w.form, u.form) (ap equal_if (sym (by_parts w.value w.scale u.value u.scale)))
