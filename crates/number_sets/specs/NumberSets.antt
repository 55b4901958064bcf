-- A set of 16-bit numbers: a bit for each number, 64 to a word.
use Rattle.std.specs.Prelude.{◌≡◌, Bool, true, false, List, ℕ, ◌/◌, ◌%◌, ◌^◌, ◌<◌, eqb, length, get_or, set}
use Rattle.std.specs.Int.Bits.{bit_or, bit_xor}

-- Is the number n in the set?
unfoldable pub in_set : List ℕ → ℕ → Bool
in_set words n = eqb (get_or words (n / 64) 0 / 2 ^ (n % 64) % 2) 1

-- The set with n put in.
unfoldable pub with_number : List ℕ → ℕ → List ℕ
with_number words n = set words (n / 64) (bit_or (get_or words (n / 64) 0) (2 ^ (n % 64)))

-- The set with n taken out.
unfoldable pub without_number : List ℕ → ℕ → List ℕ
without_number words n =
    set words (n / 64) (bit_xor (bit_or (get_or words (n / 64) 0) (2 ^ (n % 64))) (2 ^ (n % 64)))

-- The set with n put in or taken out.
abbrev pub marked : List ℕ → ℕ → Bool → List ℕ
marked words n present = elim present [ true ↦ with_number words n | false ↦ without_number words n ]

-- A set before and after the numbers for which `such` holds are put in (`present` is true) or taken out (false). The others stay.
pub record Marks (before after : List ℕ) (such : ℕ → Bool) (present : Bool) : Type 0 where
  pub words : length after ≡ length before
  pub has : length before ≡ 1024 → (n : ℕ) → n < 65536
      → in_set after n ≡ elim (such n) [ true ↦ present | false ↦ in_set before n ]

-- No number is in the set.
pub record Blank (words : List ℕ) : Type 0 where
  pub size : length words ≡ 1024
  pub none : (n : ℕ) → n < 65536 → in_set words n ≡ false

-- The set has these words.
abbrev pub HasWords : List ℕ → List ℕ → Type 0
HasWords words set = set ≡ words
