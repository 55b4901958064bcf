-- The claim on the order of writes, of calls of `write`: each is lent the map that the call before it left.
-- Proof: `proofs/AnyOrderCalls.antt`.
use Rattle.std.specs.Prelude.{◌≡◌, List, [], ◌∷◌, ℕ}
use Rattle.lists.specs.Orders.{picked}
use Rattle.writing.specs.CodeTypes.{Written}
use Rattle.writing.specs.Calls.{WriteCall}
use Rattle.write_sequences.specs.Writes.{Write}

-- One call by the catalog for each write, the first lent `map`; what they returned, and the map that the last one left.
pub data WriteCalls (catalog : List ℕ) : List ℕ → List Write → List Written → List ℕ → Type 0 where
  no_call : {map : List ℕ} → WriteCalls catalog map [] [] map
  call : {map between after : List ℕ} {w : Write} {ws : List Write} {returned : Written} {rest : List Written}
      → WriteCall catalog map w.index w.number w.path w.raw returned between
      → WriteCalls catalog between ws rest after
      → WriteCalls catalog map (w ∷ ws) (returned ∷ rest) after

-- Calls for some writes returned `returned` and left the map `after`; calls for the same writes in the order `order` returned
-- `returned'` and left `after'`. They end alike: the map is the same, and each write returned the same.
pub record CallsEndAlike (order : List ℕ) (returned : List Written) (after : List ℕ) (returned' : List Written) (after' : List ℕ)
    : Type 0 where
  pub same_map : after' ≡ after
  pub same_returned : (none : Written) → returned' ≡ picked none returned order
