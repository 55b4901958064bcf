-- Laws of powers of ten: they are positive and grow, and the first twenty fit 64 bits.
use Prim.Native.Nat.{ℕ, ◌^◌, ◌≤◌, ◌<◌}
use native.Mathlib.Nat.{one-le-pow, pow-le-pow_right}
use native.Mathlib.Omega.{arith}

pub positive : (k : ℕ) → 0 < 10 ^ k
positive k = one-le-pow k 10 (omega arith)

pub grow : {i j : ℕ} → i ≤ j → 10 ^ i ≤ 10 ^ j
grow h = pow-le-pow_right {n = 10} (omega arith) h

pub fits : (k : ℕ) → k < 20 → 10 ^ k < 2 ^ 64
fits k h = omega (arith, grow {i = k} {j = 19} (omega arith))
