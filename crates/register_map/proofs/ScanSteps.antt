-- A scan header by header, and the law that any bound that covers the registers gives the same scan.
use mathlib.Core.Path.{◌≡◌, refl, sym, ◌∙◌}
use mathlib.Core.Bool.{Bool, false}
use mathlib.Core.List.{List, [], ◌∷◌}
use Prim.Native.Nat.{ℕ, zero, suc, ◌+◌, ◌≤◌}
use native.Mathlib.Omega.{arith}
use borrow.Author.Tests.{ne_eqb}
use lib.Dec.{eqb}
use lib.ListN.{length, take, drop, length-drop}
use lib.Seq.{drop-drop}
use Rattle.register_map.specs.Headers.{Header, model, end_marker, refused, header_at}
use Rattle.register_map.specs.Scan.{marked, broken, with_model, scan_from}

-- The scan from a header on, by what is found there.
module _ (n : ℕ) (first : Bool) (rest : List ℕ) where
  pub scan_model : {id len : ℕ} → header_at first rest ≡ model id len
      → scan_from (suc n) first rest
      ≡ with_model (record { id = id; body = take len (drop 2 rest) }) (scan_from n false (drop len (drop 2 rest)))
  unfolding scan_from
  scan_model h = rw (h, scan_from)

  pub scan_end : header_at first rest ≡ end_marker → scan_from (suc n) first rest ≡ record { models = []; ending = marked }
  unfolding scan_from
  scan_end h = rw (h, scan_from)

  pub scan_refused : {number : ℕ} → header_at first rest ≡ refused number
      → scan_from (suc n) first rest ≡ record { models = []; ending = broken number }
  unfolding scan_from
  scan_refused h = rw (h, scan_from)

-- The registers after the model at an address.
after_model : (map : List ℕ) (at len : ℕ) → drop len (drop 2 (drop at map)) ≡ drop (at + 2 + len) map
after_model map at len = rw (drop-drop 2 at map, drop-drop len (at + 2) map)

-- The model at an address, followed by the scan of the registers after it.
scan_model_at : (n : ℕ) (first : Bool) (map : List ℕ) (at : ℕ) {id len : ℕ} → header_at first (drop at map) ≡ model id len
    → scan_from (suc n) first (drop at map)
    ≡ with_model (record { id = id; body = take len (drop (at + 2) map) }) (scan_from n false (drop (at + 2 + len) map))
scan_model_at n first map at {id} {len} h =
    rw (scan_model n first (drop at map) h, after_model map at len, drop-drop 2 at map)

-- The same, with the first header recognised by its address 2.
pub scan_next : (n : ℕ) (map : List ℕ) (at : ℕ) {id len : ℕ} → 2 ≤ at → header_at (eqb at 2) (drop at map) ≡ model id len
    → scan_from (suc n) (eqb at 2) (drop at map)
    ≡ with_model
    (record { id = id; body = take len (drop (at + 2) map) })
    (scan_from n (eqb (at + 2 + len) 2) (drop (at + 2 + len) map))
scan_next n map at {id} {len} low h =
    let later : eqb (at + 2 + len) 2 ≡ false = ne_eqb (at + 2 + len) 2 (λ e. omega arith) in
    rw (later, scan_model_at n (eqb at 2) map at h)

-- If no register is left, the bound does not matter.
scan_none : (n : ℕ) (first : Bool) (rest : List ℕ) → length rest ≤ 0 → scan_from (suc n) first rest ≡ scan_from 0 first rest
unfolding scan_from
scan_none n first [] h = refl
scan_none n first (x ∷ rest) h = absurd (omega arith)

-- Any two bounds that cover the registers give the same scan.
pub scan_enough : (n k : ℕ) (first : Bool) (rest : List ℕ) → length rest ≤ n → length rest ≤ k
    → scan_from n first rest ≡ scan_from k first rest
scan_enough zero zero first rest h g = refl
scan_enough zero (suc k) first rest h g = sym (scan_none k first rest h)
scan_enough (suc n) zero first rest h g = scan_none n first rest g
scan_enough (suc n) (suc k) first rest h g = by_header (header_at first rest) refl (λ r. scan_enough n k false r)
  where
    by_header : (x : Header) → header_at first rest ≡ x
        → ((r : List ℕ) → length r ≤ n → length r ≤ k → scan_from n false r ≡ scan_from k false r)
        → scan_from (suc n) first rest ≡ scan_from (suc k) first rest
    by_header (model id len) e later =
        let following = drop len (drop 2 rest) in
        rw (
          scan_model n first rest e,
          scan_model k first rest e,
          later following (simp length-drop (omega arith)) (simp length-drop (omega arith)),
        )
    by_header end_marker e later = scan_end n first rest e ∙ sym (scan_end k first rest e)
    by_header (refused number) e later = scan_refused n first rest e ∙ sym (scan_refused k first rest e)
