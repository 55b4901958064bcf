-- The claim on the order of writes (change request 3): if writes to the same point keep their order, the final map is the same in
-- every order, and each write returns the same. Proof: `proofs/AnyOrder.antt`.
use Rattle.std.specs.Prelude.{◌≡◌, List, map, ℕ}
use Rattle.lists.specs.Runs.{Handled}
use Rattle.lists.specs.Orders.{picked, Rearranges}
use Rattle.writing.specs.Writing.{Result}
use Rattle.write_sequences.specs.Writes.{Write, same_point, write_result, map_after_writes, write_results}

-- An order in which the writes ws can be made: all their positions, with writes to the same point in the order of ws. (`other` stands
-- for the write at a position past the end; an allowed order has none.)
abbrev pub Allowed : Write → List Write → List ℕ → Type 0
Allowed other ws order = Rearranges same_point other ws order

-- The writes ws, made to the map `registers` in the order of the positions `order`, end as in their own order: in the same map; and each
-- write, wherever it comes in the order, returns the same: the k-th write made and its result are those of position order[k] in ws.
-- (`none` stands for a position past the end.)
pub record EndsAlike (catalog registers : List ℕ) (other : Write) (ws : List Write) (order : List ℕ) : Type 0 where
  pub same_map : map_after_writes catalog registers (picked other ws order) ≡ map_after_writes catalog registers ws
  pub same_results : (none : Handled Write Result)
      → write_results catalog registers (picked other ws order) ≡ picked none (write_results catalog registers ws) order

-- The claim: this holds of every catalog and map, every list of writes and every allowed order.
abbrev pub AnyOrder : Type 0
AnyOrder =
    (catalog registers : List ℕ) (other : Write) (ws : List Write) (order : List ℕ) → Allowed other ws order
    → EndsAlike catalog registers other ws order

-- Each write with what it returns if it is made alone, to the map `registers`.
abbrev pub results_alone : List ℕ → List ℕ → List Write → List (Handled Write Result)
results_alone catalog registers ws = map (λ w. record { item = w; result = write_result catalog registers w }) ws
