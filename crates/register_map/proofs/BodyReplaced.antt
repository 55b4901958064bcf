-- A map after new registers are stored in the body of one model: it has the same models, that one with its new body.
use mathlib.Core.Path.{◌≡◌, refl, sym, ap, ◌∙◌}
use mathlib.Core.Bool.{true}
use mathlib.Core.List.{List, [], ◌∷◌, ◌++◌, append_assoc}
use mathlib.Core.Option.{none}
use Prim.Native.Nat.{ℕ, ◌+◌, ◌≤◌}
use native.Mathlib.Omega.{arith}
use lib.ListN.{length, take, drop, length-append}
use lib.Seq.{sets, length-sets, drop-append-add}
use Rattle.lists.proofs.EachLaws.{each_replaced}
use Rattle.registers.proofs.StoredRegisters.{part_of_first, sets_append_right, sets_within}
use Rattle.register_map.specs.Headers.{begins_with_sun_s, opening}
use Rattle.register_map.specs.Scan.{Model, total_size, marked, scan, model_registers, WellFormed, BeginsWith1, MadeOf}
use Rattle.register_map.proofs.HeaderLaws.{opening_none, opening_with_sun_s_lem}
use Rattle.register_map.proofs.ScanBack.{length_registers, scan_whole_back}
use Rattle.register_map.proofs.Lengthened.{registers_append}

-- The model `m` with the registers `vs` stored in its body from `offset` on.
abbrev pub stored_in : Model → ℕ → List ℕ → Model
stored_in m offset vs = record { id = m.id; body = sets m.body offset vs }

module _ (a b : ℕ) (preceding : List Model) (following : List Model) (tail : List ℕ) where
  -- The map up to the body of the model `m`,
  abbrev before : Model → List ℕ
  before m = a ∷ b ∷ (model_registers preceding ++ m.id ∷ length m.body ∷ [])

  -- and after the body.
  abbrev after : List ℕ
  after = model_registers following ++ tail

  -- The map is these registers with the body between them.
  around_body : (m : Model)
      → a ∷ b ∷ model_registers (preceding ++ m ∷ following) ++ tail ≡ before m ++ (m.body ++ after)
  unfolding model_registers
  around_body m = rw (registers_append preceding (m ∷ following)) (simp append_assoc)

  -- The body begins after the preceding models and the model's header.
  before_length : (m : Model) → length (before m) ≡ 2 + total_size preceding + 2
  before_length m =
      omega (arith, length-append (model_registers preceding) (m.id ∷ length m.body ∷ []), length_registers preceding)

  -- Storing registers in the map stores them in the body of the model.
  registers_replaced : (m : Model) (offset : ℕ) (vs : List ℕ) → offset + length vs ≤ length m.body
      → (at : ℕ) → at ≡ 2 + total_size preceding + 2 + offset
      → sets (a ∷ b ∷ model_registers (preceding ++ m ∷ following) ++ tail) at vs
      ≡ a ∷ b ∷ model_registers (preceding ++ stored_in m offset vs ∷ following) ++ tail
  registers_replaced m offset vs inside at e =
      let place : at ≡ length (before m) + offset = omega (arith, before_length m) in
      let same : before m ≡ before (stored_in m offset vs) =
      ap {B = List ℕ} (λ n. a ∷ b ∷ (model_registers preceding ++ m.id ∷ n ∷ [])) (sym (length-sets m.body offset vs)) in
      ap (λ k. sets (a ∷ b ∷ model_registers (preceding ++ m ∷ following) ++ tail) k vs) place
      ∙ ap (λ l. sets l (length (before m) + offset) vs) (around_body m)
      ∙ sets_append_right vs (before m) (m.body ++ after) offset
      ∙ ap (λ l. before m ++ l) (sets_within vs m.body after offset inside)
      ∙ ap (λ l. l ++ (sets m.body offset vs ++ after)) same
      ∙ sym (around_body (stored_in m offset vs))

-- The first model keeps its id.
begins_replaced : (preceding following : List Model) (m n : Model) → n.id ≡ m.id → BeginsWith1 true (preceding ++ m ∷ following)
    → BeginsWith1 true (preceding ++ n ∷ following)
begins_replaced [] following m n e b = e ∙ b
begins_replaced (f ∷ preceding) following m n e b = b

module _ (map : List ℕ) (preceding : List Model) (m : Model) (following : List Model) (made : MadeOf map (preceding ++ m ∷ following))
    (offset size : ℕ) (inside : offset + size ≤ length m.body)
    (at : ℕ) (place : at ≡ 2 + total_size preceding + 2 + offset) where
  -- The registers of a model's body are in the map,
  pub inside_map : at + size ≤ length map
  inside_map =
      let a = made.register0 in
      let b = made.register1 in
      let tail : List ℕ = 65535 ∷ 0 ∷ made.tail in
      let e = ap length (made.shape ∙ around_body a b preceding following tail m) in
      let l = length-append (before a b preceding following tail m) (m.body ++ after a b preceding following tail) in
      let k = length-append m.body (after a b preceding following tail) in
      omega (arith, before_length a b preceding following tail m)

  -- with the same contents.
  pub registers_in_map : take size (drop at map) ≡ take size (drop offset m.body)
  registers_in_map =
      let a = made.register0 in
      let b = made.register1 in
      let tail : List ℕ = 65535 ∷ 0 ∷ made.tail in
      let preceding' = before a b preceding following tail m in
      let rest = after a b preceding following tail in
      let here : at ≡ length preceding' + offset = omega (arith, before_length a b preceding following tail m) in
      ap (λ k. take size (drop k map)) here
      ∙ ap (λ l. take size (drop (length preceding' + offset) l)) (made.shape ∙ around_body a b preceding following tail m)
      ∙ ap (λ l. take size l) (drop-append-add preceding' (m.body ++ rest) offset)
      ∙ part_of_first m.body rest offset size inside

module _ (map : List ℕ) (preceding : List Model) (m : Model) (following : List Model) (made : MadeOf map (preceding ++ m ∷ following))
    (offset : ℕ) (vs : List ℕ) (inside : offset + length vs ≤ length m.body)
    (at : ℕ) (place : at ≡ 2 + total_size preceding + 2 + offset) where
  -- The new map has the same first two registers, and the same registers after the models.
  shape_replaced : sets map at vs
      ≡ made.register0 ∷ made.register1 ∷ model_registers (preceding ++ stored_in m offset vs ∷ following) ++ 65535 ∷ 0 ∷ made.tail
  shape_replaced =
      ap (λ l. sets l at vs) made.shape
      ∙ registers_replaced made.register0 made.register1 preceding following (65535 ∷ 0 ∷ made.tail) m offset vs inside at place

  -- It is made of the same models, one with its new body.
  made_replaced : MadeOf (sets map at vs) (preceding ++ stored_in m offset vs ∷ following)
  made_replaced =
      let n = stored_in m offset vs in
      let same = length-sets m.body offset vs in
      record {
        register0 = made.register0;
        register1 = made.register1;
        tail = made.tail;
        shape = shape_replaced;
        well_formed = each_replaced WellFormed preceding following m n (λ w. record {
          not_zero = w.not_zero;
          not_marker = w.not_marker;
          not_empty = omega (arith, w.not_empty);
        }) made.well_formed;
        begins = begins_replaced preceding following m n refl made.begins;
      }

  -- So its scan gives these models, up to the end marker.
  pub scan_replaced : scan (sets map at vs) ≡ record { models = preceding ++ stored_in m offset vs ∷ following; ending = marked }
  scan_replaced =
      let new = made_replaced in
      ap scan new.shape
      ∙ scan_whole_back new.register0 new.register1 (preceding ++ stored_in m offset vs ∷ following) new.tail new.well_formed
      new.begins

  -- If neither 20 nor 21 arose before, neither arises now.
  pub opens_replaced : opening map ≡ none → opening (sets map at vs) ≡ none
  opens_replaced e =
      let o = opening_none map e in
      let long = length-sets map at vs in
      let begins : begins_with_sun_s (sets map at vs) ≡ begins_with_sun_s map =
      ap begins_with_sun_s shape_replaced ∙ sym (ap begins_with_sun_s made.shape) in
      opening_with_sun_s_lem (sets map at vs) (omega (arith, o.0)) (begins ∙ o.1)
