-- The registers of a raw value: one of them by a shift, and all stored one by one, the highest first.
use mathlib.Core.Path.{◌≡◌, sym, ap, ◌∙◌}
use mathlib.Core.List.{List}
use Prim.Native.Nat.{ℕ, suc, ◌+◌, ◌-◌, ◌*◌, ◌/◌, ◌%◌, ◌^◌, ◌≤◌, ◌<◌}
use native.Mathlib.Omega.{arith}
use lib.ListN.{set}
use lib.Seq.{sets}
use Rattle.std.specs.Int.Bits.{bit_and}
use Rattle.std.proofs.lemmas.Nat.{and_mask}
use Rattle.registers.specs.Registers.{split}
use Rattle.registers.proofs.Joining.{sixteen_each}

-- The register with `lower` registers after it: those are shifted out, and the low 16 bits taken.
pub shifted : (raw lower : ℕ) → bit_and (raw / 2 ^ (16 * lower)) 65535 ≡ raw / 65536 ^ lower % 65536
shifted raw lower = and_mask (raw / 2 ^ (16 * lower)) 16 ∙ ap (λ (w : ℕ). raw / w % 65536) (sym (sixteen_each lower))

-- Storing register k and then those after it is storing all from k.
pub next_register : (map : List ℕ) (at k register size raw : ℕ) → k < size → register ≡ raw / 65536 ^ (size - 1 - k) % 65536
    → sets (set map (at + k) register) (at + (k + 1)) (split (size - (k + 1)) raw) ≡ sets map (at + k) (split (size - k) raw)
unfolding split
next_register map at k register size raw h e =
    let n = size - (k + 1) in
    let following : size - 1 - k ≡ n = omega arith in
    let left : size - k ≡ suc n = omega arith in
    let next : at + (k + 1) ≡ suc (at + k) = omega arith in
    rw (e, following, left, next)

-- No register is left to store.
pub no_register : (map : List ℕ) (at k size raw : ℕ) → size ≤ k → sets map (at + k) (split (size - k) raw) ≡ map
unfolding split
no_register map at k size raw h = let none : size - k ≡ 0 = omega arith in rw none
