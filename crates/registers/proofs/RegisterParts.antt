-- Laws of a part of a list of registers: its elements are registers, how long it is, and when they are all 0.
use mathlib.Core.Path.{◌≡◌, refl, sym, ◌∙◌}
use mathlib.Core.Bool.{Bool, true, false, ◌&&◌}
use mathlib.Core.List.{List, [], ◌∷◌}
use Prim.Native.Nat.{ℕ, ◌+◌, ◌-◌, ◌*◌, ◌^◌, ◌≤◌, ◌<◌}
use native.Mathlib.Nat.{mul-le-mul_right}
use native.Mathlib.Omega.{arith}
use borrow.Author.Tests.{ne_eqb, eqb-true, eqb-false}
use lib.Dec.{eqb}
use lib.ListN.{length, take, drop, length-drop, drop_of_length-le}
use lib.Seq.{take_all, take-nil}
use Rattle.lists.proofs.EachLaws.{each_take, each_drop}
use Rattle.registers.specs.Registers.{AreRegisters, join, all_zero}
use Rattle.registers.proofs.Joining.{positive}

-- The first k registers, and those after them, are registers.
pub first_registers : (k : ℕ) (rs : List ℕ) → AreRegisters rs → AreRegisters (take k rs)
first_registers = each_take (λ r. r < 65536)

pub later_registers : (k : ℕ) (rs : List ℕ) → AreRegisters rs → AreRegisters (drop k rs)
later_registers = each_drop (λ r. r < 65536)

-- A part from the end on is empty.
pub part_past_end : (rs : List ℕ) (start count : ℕ) → length rs ≤ start → [] ≡ take count (drop start rs)
part_past_end rs start count h = rw (drop_of_length-le rs {i = start} h) (sym (take-nil count))

-- If at most `count` registers are left, the part takes all of them.
pub part_rest : (rs : List ℕ) (start count : ℕ) → length rs - start ≤ count
    → take (length rs - start) (drop start rs) ≡ take count (drop start rs)
part_rest rs start count h =
    let rest = drop start rs in
    let left = length-drop start rs in
    take_all (length rs - start) rest (omega (arith, left)) ∙ sym (take_all count rest (omega (arith, left)))

-- Registers are all 0 if and only if they join to 0.
pub zero_joined : (rs : List ℕ) → all_zero rs ≡ eqb (join rs) 0
unfolding join
zero_joined [] = refl
zero_joined (r ∷ rs) = go (eqb r 0) refl (zero_joined rs)
  where
    p : ℕ
    p = 65536 ^ length rs

    go : (b : Bool) → eqb r 0 ≡ b → all_zero rs ≡ eqb (join rs) 0 → (b && all_zero rs) ≡ eqb (r * p + join rs) 0
    go true e ih =
        let same : r * p + join rs ≡ join rs = rw (eqb-true r 0 e) (omega arith) in
        rw same ih
    go false e ih =
        let one : 1 ≤ r = omega (arith, eqb-false r 0 e) in
        sym (ne_eqb (r * p + join rs) 0 (λ z. omega (arith, z, mul-le-mul_right p one, positive (length rs))))
