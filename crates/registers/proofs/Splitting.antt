-- Splitting a raw value into registers undoes joining them, and joining them undoes splitting it.
use mathlib.Core.Path.{◌≡◌, refl, sym, ap, ◌∙◌}
use mathlib.Core.Bool.{false}
use mathlib.Core.List.{List, [], ◌∷◌}
use Prim.Native.Nat.{ℕ, zero, suc, ◌+◌, ◌*◌, ◌/◌, ◌%◌, ◌^◌, ◌≤◌, ◌<◌}
use native.Mathlib.Nat.{pow-suc, mul_assoc, mul_comm, mul-add-div_right, mul-add-mod_self_right, mod-eq_of_lt, mod-lt, div-eq_of_lt, mul-le-mul_right, div-div-eq-div-mul, div-add-mod', div-one}
use native.Mathlib.Omega.{arith}
use borrow.Author.Tests.{leb-false}
use lib.ListN.{length, get_or}
use Rattle.registers.specs.Registers.{AreRegisters, join, split, shown_raw, too_wide}
use Rattle.registers.proofs.Joining.{positive, join_cons, sixteen_each, lower_register, shown}

-- The raw value of a list of registers is below 65536 ^ length.
pub join_bound : (rs : List ℕ) → AreRegisters rs → join rs < 65536 ^ length rs
unfolding join
join_bound [] a = omega arith
join_bound (r ∷ rs) a =
    rw (pow-suc 65536 (length rs), mul_comm (65536 ^ length rs) 65536)
    (omega (arith, join_bound rs a.1, mul-le-mul_right (65536 ^ length rs) a.0))

-- The low n registers of a number do not depend on the higher ones.
low_registers : (n x low : ℕ) → split n (x * 65536 ^ n + low) ≡ split n low
unfolding split
low_registers zero x low = refl
low_registers (suc n) x low =
    let e : x * 65536 ^ suc n ≡ x * 65536 * 65536 ^ n =
    ap (λ (p : ℕ). x * p) (pow-suc 65536 n ∙ mul_comm (65536 ^ n) 65536) ∙ sym (mul_assoc x 65536 (65536 ^ n)) in
    let d : (x * 65536 * 65536 ^ n + low) / 65536 ^ n ≡ x * 65536 + low / 65536 ^ n = mul-add-div_right (positive n) (x * 65536) low in
    rw (e, d, mul-add-mod_self_right x 65536 (low / 65536 ^ n), low_registers n (x * 65536) low)

-- Splitting the raw value of registers gives these registers.
pub split_join : (rs : List ℕ) → AreRegisters rs → split (length rs) (join rs) ≡ rs
unfolding split
split_join [] a = refl
split_join (r ∷ rs) a =
    let n = length rs in
    let b : join rs / 65536 ^ n ≡ 0 = div-eq_of_lt (join_bound rs a.1) in
    let d : (r * 65536 ^ n + join rs) / 65536 ^ n ≡ r = mul-add-div_right (positive n) r (join rs) ∙ omega (arith, b) in
    rw (join_cons r rs, d, mod-eq_of_lt a.0, low_registers n r (join rs), split_join rs a.1)

-- Splitting into n registers gives n registers.
pub split_length : (n raw : ℕ) → length (split n raw) ≡ n
unfolding split
split_length zero raw = refl
split_length (suc n) raw = ap suc (split_length n raw)

pub split_registers : (n raw : ℕ) → AreRegisters (split n raw)
unfolding split
split_registers zero raw = tt
split_registers (suc n) raw = (mod-lt (raw / 65536 ^ n) (omega arith), split_registers n raw)

-- The n registers of a raw value are its low part.
low_part : (n raw : ℕ) → raw / 65536 ^ n * 65536 ^ n + join (split n raw) ≡ raw
unfolding split join
low_part zero raw = rw (div-one raw) (omega arith)
low_part (suc n) raw =
    let x = raw / 65536 ^ n in
    let j = join (split n raw) in
    let high : raw / 65536 ^ suc n ≡ x / 65536 =
    ap (λ (p : ℕ). raw / p) (pow-suc 65536 n) ∙ sym (div-div-eq-div-mul raw (65536 ^ n) 65536) in
    let join_step = lower_register (x / 65536) (65536 ^ n) (x % 65536) j in
    rw (high, pow-suc 65536 n, split_length n raw, join_step, div-add-mod' x 65536) (low_part n raw)

-- Joining the n registers of a raw value that is not too wide for them gives the raw value.
pub join_split : (n raw : ℕ) → too_wide n raw ≡ false → join (split n raw) ≡ raw
unfolding too_wide
join_split n raw e =
    let small : raw < 65536 ^ n = rw (sixteen_each n) (leb-false (2 ^ (16 * n)) raw e) in
    let none : raw / 65536 ^ n ≡ 0 = div-eq_of_lt small in
    let low : 0 * 65536 ^ n + join (split n raw) ≡ raw = rw none at (low_part n raw) in
    omega (arith, low)

-- A raw value of one register is that register.
pub one_register : (raw : ℕ) → too_wide 1 raw ≡ false → get_or (split 1 raw) 0 0 ≡ raw
unfolding split join
one_register raw e = let j = join_split 1 raw e in omega (arith, j)

-- Splitting the raw value that up to four registers show gives these registers.
pub split_shown : (rs : List ℕ) → AreRegisters rs → length rs ≤ 4 → split (length rs) (shown_raw rs) ≡ rs
split_shown rs a h = ap (split (length rs)) (shown rs h) ∙ split_join rs a
