-- The registers of each type code, from 0 to 23, computed: string takes 1 to 64, and 0 and 23 are unknown.
use mathlib.Core.Path.{◌≡◌, refl}
use mathlib.Core.List.{List, [], ◌∷◌, map, ◌++◌}
use mathlib.Core.Option.{Option, none, some}
use Prim.Native.Nat.{ℕ}
use lib.ListN.{replicate}
use Rattle.point_types.specs.Rows.{rows, row_among, registers_of}

abbrev pub codes : List ℕ
codes = 0 ∷ 1 ∷ 2 ∷ 3 ∷ 4 ∷ 5 ∷ 6 ∷ 7 ∷ 8 ∷ 9 ∷ 10 ∷ 11 ∷ 12 ∷ 13 ∷ 14 ∷ 15 ∷ 16 ∷ 17 ∷ 18 ∷ 19 ∷ 20 ∷ 21 ∷ 22 ∷ 23 ∷ []

abbrev pub exactly : ℕ → Option (ℕ × ℕ)
exactly n = some (n, n)

pub size_vectors : map registers_of codes
    ≡ none ∷ (replicate 8 (exactly 1) ++ replicate 7 (exactly 2) ++ replicate 3 (exactly 4) ++ some (1, 64) ∷ exactly 8 ∷ exactly 4 ∷ exactly 4 ∷ none ∷ [])
unfolding rows row_among registers_of
size_vectors = refl
