-- The claim on the order of writes, for calls of `write`: from its contract alone (`WriteCall`).
use mathlib.Core.Path.{◌≡◌, refl, sym, ap, ◌∙◌}
use mathlib.Core.List.{List, [], ◌∷◌, map}
use Prim.Native.Nat.{ℕ}
use Rattle.lists.specs.Runs.{state_after, Handled, handled}
use Rattle.lists.specs.Orders.{picked}
use Rattle.lists.proofs.MapLaws.{map_injective}
use Rattle.lists.proofs.Positions.{map_picked}
use Rattle.writing.specs.Writing.{Result}
use Rattle.writing.specs.CodeTypes.{Written, to_spec_written}
use Rattle.writing.proofs.SameResults.{same_returned}
use Rattle.write_sequences.specs.Writes.{Write, map_after_writes, write_results}
use Rattle.write_sequences.specs.AnyOrder.{Allowed}
use Rattle.write_sequences.specs.Calls.{WriteCalls, no_call, call, CallsEndAlike}
use Rattle.write_sequences.proofs.AnyOrder.{any_order}

-- ---- What calls return

-- The results without the writes.
abbrev pub results_in : List (Handled Write Result) → List Result
results_in hs = map (λ h. h.result) hs

-- Calls leave the map of the definition, and return its results.
pub calls_made : (catalog map₀ : List ℕ) (ws : List Write) (returned : List Written) (after : List ℕ)
    → WriteCalls catalog map₀ ws returned after
    → (after ≡ map_after_writes catalog map₀ ws)
    × (map to_spec_written returned ≡ results_in (write_results catalog map₀ ws))
unfolding state_after handled
calls_made catalog map₀ [] [] after no_call = (refl, refl)
calls_made catalog map₀ (w ∷ ws) (r ∷ returned) after (call {between = between} c rest) =
    let m = calls_made catalog between ws returned after rest in
    let first = c.result in
    let others = m.1 ∙ ap (λ l. results_in (write_results catalog l ws)) c.leaves in
    (m.0 ∙ ap (λ l. map_after_writes catalog l ws) c.leaves, λ k. first k ∷ others k)
calls_made catalog map₀ [] (r ∷ returned) after i = elim i [ ]
calls_made catalog map₀ (w ∷ ws) [] after i = elim i [ ]

-- ---- The claim

-- Calls for the same writes in two orders, the second of which is allowed, end alike.
pub any_order_calls : (catalog map₀ : List ℕ) (other : Write) (ws : List Write) (order : List ℕ) → Allowed other ws order
    → (returned : List Written) (after : List ℕ) → WriteCalls catalog map₀ ws returned after
    → (returned' : List Written) (after' : List ℕ) → WriteCalls catalog map₀ (picked other ws order) returned' after'
    → CallsEndAlike order returned after returned' after'
any_order_calls catalog map₀ other ws order allowed returned after calls returned' after' calls' =
    let a = any_order catalog map₀ other ws order allowed in
    let m = calls_made catalog map₀ ws returned after calls in
    let m' = calls_made catalog map₀ (picked other ws order) returned' after' calls' in
    record {
      same_map = m'.0 ∙ a.same_map ∙ sym m.0;
      same_returned = λ none.
          let other_result : Handled Write Result = record { item = other; result = to_spec_written none } in
          map_injective to_spec_written same_returned returned' (picked none returned order)
          (m'.1
          ∙ ap results_in (a.same_results other_result)
          ∙ map_picked (λ (h : Handled Write Result). h.result) other_result (write_results catalog map₀ ws) order
          ∙ ap (λ rs. picked (to_spec_written none) rs order) (sym m.1)
          ∙ sym (map_picked to_spec_written none returned order));
    }
