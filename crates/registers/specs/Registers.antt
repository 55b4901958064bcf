-- Registers and the raw value that they hold (document 01, "The value rows": registers join high first).
use Rattle.std.specs.Prelude.{Bool, true, false, List, [], ◌∷◌, ℕ, zero, suc, ◌+◌, ◌*◌, ◌/◌, ◌%◌, ◌^◌, ◌<◌, eqb, leb, length}
use Rattle.lists.specs.Each.{Each}
use Rattle.lists.specs.Tests.{every}

-- Every number of the list is a register: below 65536.
abbrev pub AreRegisters : List ℕ → Type 0
AreRegisters rs = Each (λ r. r < 65536) rs

-- The raw value of any number of registers, the first one highest.
unfoldable pub join : List ℕ → ℕ
join [] = 0
join (r ∷ rs) = r * 65536 ^ length rs + join rs

-- Are all these registers 0?
abbrev pub all_zero : List ℕ → Bool
all_zero rs = every (λ r. eqb r 0) rs

-- The n registers of a raw value, the highest first: what is written for it.
unfoldable pub split : ℕ → ℕ → List ℕ
split zero raw = []
split (suc n) raw = raw / 65536 ^ n % 65536 ∷ split n raw

-- Document 01, "Listing": a record shows the raw value, 0 if it takes over four registers.
unfoldable pub shown_raw : List ℕ → ℕ
shown_raw rs = elim (leb (length rs) 4) [ true ↦ join rs | false ↦ 0 ]

-- Document 01, "Events": is a raw value too wide for `registers` registers, 2 ^ (16 × registers) or more?
unfoldable pub too_wide : ℕ → ℕ → Bool
too_wide registers raw = leb (2 ^ (16 * registers)) raw
