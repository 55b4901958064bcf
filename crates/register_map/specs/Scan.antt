-- The models of a register map (document 01, "The map"), found without a catalog, and the registers of models.
use Rattle.std.specs.Prelude.{◌≡◌, Bool, true, false, List, [], ◌∷◌, ◌++◌, ℕ, zero, suc, ◌+◌, ◌≤◌, length, take, drop}
use Rattle.lists.specs.Each.{Each}
use Rattle.register_map.specs.Headers.{end_id, model, end_marker, refused, header_at}

-- A model in a map: its id, and its body, which is the L registers after its length L.
pub record Model : Type 0 where
  pub id : ℕ
  pub body : List ℕ

-- The number of registers that a model takes: 2 + length.
abbrev pub size_of : Model → ℕ
size_of m = 2 + length m.body

-- The number of registers that models take.
abbrev pub total_size : List Model → ℕ
total_size [] = 0
total_size (m ∷ ms) = size_of m + total_size ms

-- How the models of a map end: at the end marker, or at a header that is refused with a number from 22 to 26.
pub data Ending : Type 0 where
  marked : Ending
  broken : ℕ → Ending

-- The models of a map, and how they end.
pub record Scan : Type 0 where
  pub models : List Model
  pub ending : Ending

-- The scan with one more model, before the others.
abbrev pub with_model : Model → Scan → Scan
with_model m s = record { models = m ∷ s.models; ending = s.ending }

-- At most `n` models, from a header on; `first`: it is the first header of the map. (The bound n does not matter if it covers the
-- registers left: with none left, 22 is right. See `scan_enough`.)
unfoldable pub scan_from : ℕ → Bool → List ℕ → Scan
scan_from zero first rest = record { models = []; ending = broken 22 }
scan_from (suc n) first rest =
    elim (header_at first rest) [
      | model id len ↦ with_model (record { id = id; body = take len (drop 2 rest) }) (scan_from n false (drop len (drop 2 rest)))
      | end_marker ↦ record { models = []; ending = marked }
      | refused number ↦ record { models = []; ending = broken number }
    ]

-- The models of a map. Its first header is at address 2, and it has fewer models than registers.
unfoldable pub scan : List ℕ → Scan
scan map = scan_from (length map) true (drop 2 map)

-- The registers of consecutive models: id, length, body.
unfoldable pub model_registers : List Model → List ℕ
model_registers [] = []
model_registers (m ∷ ms) = m.id ∷ length m.body ∷ m.body ++ model_registers ms

-- A model that a map may contain: its id is neither 0 nor the end marker's, and its length is 1 or more. (A register is at most
-- 65535, so these are document 01's ids of 1 to 65534.)
pub record WellFormed (m : Model) : Type 0 where
  pub not_zero : m.id ≡ 0 → ⊥
  pub not_marker : m.id ≡ end_id → ⊥
  pub not_empty : 1 ≤ length m.body

-- If these are the first models of a map (`true`), there is a first one, and its id is 1.
abbrev pub BeginsWith1 : Bool → List Model → Type 0
BeginsWith1 false ms = Unit {0}
BeginsWith1 true [] = ⊥
BeginsWith1 true (m ∷ ms) = m.id ≡ 1

-- A map made of models: two registers (`opening` tests them), well-formed models, the first of id 1, the end marker and what follows.
pub record MadeOf (map : List ℕ) (ms : List Model) : Type 0 where
  pub register0 : ℕ
  pub register1 : ℕ
  pub tail : List ℕ
  pub shape : map ≡ register0 ∷ register1 ∷ model_registers ms ++ end_id ∷ 0 ∷ tail
  pub well_formed : Each WellFormed ms
  pub begins : BeginsWith1 true ms
