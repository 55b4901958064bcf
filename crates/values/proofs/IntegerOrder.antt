-- Laws of the order of integers: transitivity, antisymmetry, the next integer, and negative integers.
use mathlib.Core.Path.{◌≡◌}
use Prim.Native.Nat.{ℕ, ◌<◌}
use native.Mathlib.Omega.{arith}
use Rattle.std.proofs.lemmas.Int.{ints}
use lib.Dec.{T}
use lib.IntN.{ℤ, pos, negsuc, neg_ℤ, suc_ℤ}
use lib.Signed.{le_z}

pub le_le : (a b c : ℤ) → T (le_z a b) → T (le_z b c) → T (le_z a c)
le_le a b c p q = grind (arith, ints)

pub le_both : (a b : ℤ) → T (le_z a b) → T (le_z b a) → a ≡ b
le_both a b p q = grind (arith, ints)

-- If a ≤ z and z is not a, then a + 1 ≤ z.
pub next_le : (a z : ℤ) → T (le_z a z) → (z ≡ a → ⊥) → T (le_z (suc_ℤ a) z)
next_le a z p n = grind (arith, ints)

-- If z ≤ a + 1 and z is not a + 1, then z ≤ a.
pub le_last : (a z : ℤ) → T (le_z z (suc_ℤ a)) → (z ≡ suc_ℤ a → ⊥) → T (le_z z a)
le_last a z p n = grind (arith, ints)

pub le_next : (a : ℤ) → T (le_z a (suc_ℤ a))
le_next a = grind (arith, ints)

pub negative_le : (h x : ℕ) → T (le_z (neg_ℤ (pos h)) (pos x))
negative_le h x = grind (arith, ints)

pub negative_le_negative : (h k : ℕ) → k < h → T (le_z (neg_ℤ (pos h)) (negsuc k))
negative_le_negative h k l = grind (arith, ints)

pub negative_below : (h k : ℕ) → T (le_z (neg_ℤ (pos h)) (negsuc k)) → k < h
negative_below h k t = grind (arith, ints)
