-- The count of a fill group, and 29, from the length, the rest and the size (document 01, "The map": fill is (L − the rest) /
-- size).
use Rattle.std.specs.Prelude.{true, false, ℕ, ◌-◌, ◌/◌, ◌%◌, eqb, ltb}
use Rattle.std.proofs.Math.Option.{Option, none, some}
use Rattle.std.specs.Prelude as Code

-- The count of a fill group whose instances have `size` registers, in a model of `len` registers of which `rest` are outside
-- the fill group; none where the length does not fit (29). Size 0 means that there is no fill group: the length must be the
-- rest.
abbrev pub filled : ℕ → ℕ → ℕ → Option ℕ
filled len rest size =
    elim (ltb len rest) [
      | true ↦ none
      | false ↦ elim (eqb size 0) [
        | true ↦ elim (eqb len rest) [ true ↦ some 0 | false ↦ none ]
        | false ↦ elim (eqb ((len - rest) % size) 0) [ true ↦ some ((len - rest) / size) | false ↦ none ]
      ]
    ]

-- What `fill_count` returns.
abbrev pub to_spec_fill : Code.Option ℕ → Option ℕ
to_spec_fill (Code.Some n) = some n
to_spec_fill Code.None = none
