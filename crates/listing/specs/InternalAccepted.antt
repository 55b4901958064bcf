-- Internal: the facts that a `CheckedCatalog` and a `Model` keep; no public contract cites this file.
use Rattle.std.specs.Prelude.{◌≡◌, Bool, true, false, List, ℕ, ◌<◌, get_or}
use Rattle.catalog.specs.Checking as Checking

abbrev pub is_accepted : Checking.Verdict → Bool
is_accepted (Checking.accepted models) = true
is_accepted (Checking.refused number place) = false

-- Checking accepts the catalog.
abbrev pub IsAccepted : List ℕ → Type 0
IsAccepted ws = is_accepted (Checking.checked ws) ≡ true

-- Each entry has 16 bits, as words of a catalog and registers of a map have.
abbrev pub SixteenBits : List ℕ → Type 0
SixteenBits ws = (k : ℕ) → get_or ws k 0 < 65536
