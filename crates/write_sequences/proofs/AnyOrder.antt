-- However writers take turns (change request 3): in every order that keeps the order of writes to the same point, the final map is
-- the same, and each write returns the same.
use mathlib.Core.Path.{◌≡◌}
use mathlib.Core.List.{List}
use Prim.Native.Nat.{ℕ}
use lib.ListN.{length}
use Rattle.lists.specs.Members.{Distinct}
use Rattle.lists.proofs.Positions.{positions_from}
use Rattle.lists.proofs.Rearranging.{same_run, each_once, same_length}
use Rattle.lists.proofs.Rearranging as lists
use Rattle.write_sequences.specs.Writes.{Write, same_point, write_result, map_after_write}
use Rattle.write_sequences.specs.AnyOrder.{Allowed, AnyOrder}
use Rattle.write_sequences.proofs.SamePoints.{itself, other_way}
use Rattle.write_sequences.proofs.DifferentPoints.{result_stays_lem, either_order}

-- The claim: it is that on runs in another order (`same_run`), for writes, of which those to different points can be exchanged.
pub any_order : AnyOrder
any_order catalog registers other ws order allowed =
    let r = same_run (map_after_write catalog) (write_result catalog) same_point itself other_way (result_stays_lem catalog)
    (either_order catalog) other ws order allowed registers in
    record { same_map = r.0; same_results = r.1 }

-- An allowed order makes every write once: no position occurs twice in it, and it has as many positions as there are writes.
pub made_once : (other : Write) (ws : List Write) (order : List ℕ) → Allowed other ws order → Distinct order
made_once = each_once same_point itself

pub all_made : (other : Write) (ws : List Write) (order : List ℕ) → Allowed other ws order → length order ≡ length ws
all_made = same_length same_point itself

-- The order of the list itself is allowed.
pub own_order : (other : Write) (ws : List Write) → Allowed other ws (positions_from (length ws) 0)
own_order = lists.own_order same_point itself
