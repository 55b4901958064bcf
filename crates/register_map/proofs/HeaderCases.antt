-- What is known of the registers of a header, by what is found there.
use mathlib.Core.Path.{◌≡◌, ◌∙◌}
use mathlib.Core.Bool.{Bool, true, not, ◌&&◌}
use mathlib.Core.List.{List, [], ◌∷◌}
use Prim.Native.Nat.{ℕ, ◌+◌, ◌≤◌}
use native.Mathlib.Omega.{arith}
use borrow.Author.Tests.{eqb-true, eqb-false, ltb-false}
use lib.Dec.{eqb, ltb}
use lib.ListN.{length, drop, length-drop}
use Rattle.lists.proofs.TestOutcomes.{impossible, by_test}
use Rattle.register_map.specs.Headers.{end_id, Header, model, end_marker, refused, header_at}
use Rattle.register_map.proofs.HeaderLaws.{first_id}

-- A header with its registers: a model, the end marker, or a refusal.
pub data HeaderCase (first : Bool) : List ℕ → Header → Type 0 where
  model_case : {id len : ℕ} {remaining : List ℕ}
      → (first ≡ true → id ≡ 1)
      → (id ≡ 0 → ⊥)
      → (id ≡ end_id → ⊥)
      → (len ≡ 0 → ⊥)
      → len ≤ length remaining
      → HeaderCase first (id ∷ len ∷ remaining) (model id len)
  end_case : {id len : ℕ} {remaining : List ℕ}
      → (first ≡ true → id ≡ 1) → id ≡ end_id → len ≡ 0 → HeaderCase first (id ∷ len ∷ remaining) end_marker
  refused_case : {rest : List ℕ} {number : ℕ} → HeaderCase first rest (refused number)

-- Every header is one of these cases.
pub header_case : (first : Bool) (rest : List ℕ) → HeaderCase first rest (header_at first rest)
header_case first [] = refused_case
header_case first (id ∷ []) = refused_case
header_case first (id ∷ len ∷ remaining) =
    let Case : Header → Type 0 = HeaderCase first (id ∷ len ∷ remaining) in
    by_test Case (first && not (eqb id 1)) (λ t. refused_case) (λ p.
    let one = (first_id first id).0 p in
    by_test Case (eqb id 0) (λ t. refused_case) (λ z.
    by_test Case (eqb id end_id)
    (λ e. by_test Case (eqb len 0) (λ l. end_case one (eqb-true id end_id e) (eqb-true len 0 l)) (λ l. refused_case))
    (λ e. by_test Case (eqb len 0) (λ t. refused_case) (λ l.
    by_test Case (ltb (length remaining) len) (λ t. refused_case) (λ fits.
    model_case one (eqb-false id 0 z) (eqb-false id end_id e) (eqb-false len 0 l) (ltb-false (length remaining) len fits))))))

-- The header of a model: its id is neither 0 nor the end marker's, and its length is 1 or more and does not run past the map.
pub record ModelHeader (id len : ℕ) (rest : List ℕ) : Type 0 where
  pub not_zero : id ≡ 0 → ⊥
  pub not_marker : id ≡ end_id → ⊥
  pub not_empty : 1 ≤ len
  pub fits : 2 + len ≤ length rest

-- Of the cases, only the first is a model.
by_case : {first : Bool} {rest : List ℕ} {x : Header} {id len : ℕ} → HeaderCase first rest x → x ≡ model id len
    → ModelHeader id len rest
by_case {id = id'} {len = len'} (model_case {id = id} {len = len} one not_zero not_marker long fits) e =
    let i : id ≡ id' = cc in
    let l : len ≡ len' = cc in
    record {
      not_zero = λ z. not_zero (i ∙ z);
      not_marker = λ z. not_marker (i ∙ z);
      not_empty = omega (arith, long);
      fits = omega arith;
    }
by_case (end_case one marker l) e = impossible (cc)
by_case refused_case e = impossible (cc)

-- This holds wherever a model is found.
model_header : (first : Bool) (rest : List ℕ) {id len : ℕ} → header_at first rest ≡ model id len → ModelHeader id len rest
model_header first rest e = by_case (header_case first rest) e

-- So a model found at an address ends within the map.
pub model_ends : (first : Bool) (map : List ℕ) (at : ℕ) {id len : ℕ} → header_at first (drop at map) ≡ model id len
    → at + 2 + len ≤ length map
model_ends first map at {id} {len} e = omega (arith, (model_header first (drop at map) e).fits, length-drop at map)
