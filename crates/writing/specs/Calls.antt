-- What the contract of `write` says of a call, as a statement that laws can assume.
use Rattle.std.specs.Prelude.{◌≡◌, List, ℕ}
use Rattle.writing.specs.Writing.{map_after, writing}
use Rattle.writing.specs.Writing as Writing
use Rattle.writing.specs.CodeTypes.{Written, to_spec_written}

-- A call of `write` on `map` that returned `returned` and left the map `after`: the two equations of its contract, which cites this.
pub record WriteCall (catalog map : List ℕ) (index number : ℕ) (path : List ℕ) (raw : ℕ) (returned : Written) (after : List ℕ)
    : Type 0 where
  pub result : to_spec_written returned ≡ Writing.result (writing catalog map index number path raw)
  pub leaves : after ≡ map_after (writing catalog map index number path raw) map
