-- A scale factor by its register: 0 to 10 is the number of zeros to append; from FFF6 on, 65536 less the register is the number of
-- places.
use mathlib.Core.Path.{◌≡◌, refl}
use mathlib.Core.Bool.{Bool, true, false, ◌&&◌}
use native.Mathlib.Omega.{arith}
use borrow.Author.Tests.{leb-true}
use lib.Dec.{leb}
use lib.IntN.{ℤ, pos, negsuc}
use Rattle.values.specs.Classes.{is_scale_factor}
use Rattle.display.specs.InternalParts.{TenAtMost}

-- At most ten zeros and ten places.
pub ten_at_most : (scale : ℤ) → is_scale_factor scale ≡ true → TenAtMost scale
ten_at_most (pos k) e = record { zeros_bound = leb-true k 10 e; places_bound = omega arith }
ten_at_most (negsuc k) e = record { zeros_bound = omega arith; places_bound = omega (arith, leb-true k 9 (left (leb k 9) e)) }
  where
    left : (a : Bool) → (a && true) ≡ true → a ≡ true
    left true q = refl
    left false q = q
