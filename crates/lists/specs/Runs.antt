-- A run: items that are handled one after the other, each in the state that the items before it left.
use Rattle.std.specs.Prelude.{List, [], ◌∷◌}

-- The state after a run that begins in state s.
unfoldable pub state_after : {S W : Type 0} → (S → W → S) → S → List W → S
state_after step s [] = s
state_after step s (w ∷ ws) = state_after step (step s w) ws

-- An item and its result.
pub record Handled (W R : Type 0) : Type 0 where
  pub item : W
  pub result : R

-- The items of a run that begins in state s, each with its result. The result of an item is by the state before it.
unfoldable pub handled : {S W R : Type 0} → (S → W → S) → (S → W → R) → S → List W → List (Handled W R)
handled step result s [] = []
handled step result s (w ∷ ws) = record { item = w; result = result s w } ∷ handled step result (step s w) ws
