-- A map whose scan ends at the end marker consists of its first two registers, its models, the marker and what follows.
use mathlib.Core.Path.{◌≡◌, refl, ap, ◌∙◌}
use mathlib.Core.Bool.{Bool, true, false}
use mathlib.Core.List.{List, [], ◌∷◌, ◌++◌, append_assoc}
use Prim.Native.Nat.{ℕ, zero, suc, ◌+◌, ◌-◌, ◌/◌, ◌≤◌}
use native.Mathlib.Omega.{arith}
use lib.ListN.{length, take, drop, take-append-drop, length-append}
use lib.Seq.{length-take-le}
use Rattle.lists.specs.Each.{Each}
use Rattle.lists.proofs.TestOutcomes.{impossible}
use Rattle.register_map.specs.Headers.{end_id, Header, header_at}
use Rattle.register_map.specs.Scan.{Model, total_size, marked, broken, Scan, scan_from, scan, model_registers, WellFormed, BeginsWith1, MadeOf}
use Rattle.register_map.proofs.HeaderCases.{HeaderCase, model_case, end_case, refused_case, header_case}
use Rattle.register_map.proofs.ScanSteps.{scan_model, scan_end, scan_refused}
use Rattle.register_map.proofs.ScanBack.{length_registers, length_total}

-- The end marker is no refusal.
unbroken : {A : Type 0} (number : ℕ) → broken number ≡ marked → A
unbroken number e = impossible (cc)

-- The first model has id 1, since the first header has, and a map cannot begin with the end marker.
begins_model : (first : Bool) (m : Model) (ms : List Model) → (first ≡ true → m.id ≡ 1) → BeginsWith1 first (m ∷ ms)
begins_model true m ms one = one refl
begins_model false m ms one = tt

begins_end : (first : Bool) (id : ℕ) → (first ≡ true → id ≡ 1) → id ≡ end_id → BeginsWith1 first []
begins_end true id one e = let o = one refl in omega arith
begins_end false id one e = tt

-- The registers from a header on are the models scanned, followed by the registers `left`.
record TakenApart (first : Bool) (rest : List ℕ) (s : Scan) : Type 0 where
  pub left : List ℕ
  pub shape : rest ≡ model_registers s.models ++ left
  pub well_formed : Each WellFormed s.models
  pub ends : s.ending ≡ marked → left ≡ end_id ∷ 0 ∷ drop 2 left
  pub begins : s.ending ≡ marked → BeginsWith1 first s.models

-- A model, followed by the rest.
rejoined : (id len : ℕ) (remaining ms left : List ℕ) → length (take len remaining) ≡ len → drop len remaining ≡ ms ++ left
    → ◌≡◌ {A = List ℕ} (id ∷ len ∷ remaining) ((id ∷ length (take len remaining) ∷ take len remaining ++ ms) ++ left)
rejoined id len remaining ms left l e = rw (l, append_assoc (take len remaining) ms left, ← e, take-append-drop len remaining)

scan_step : (k : ℕ) (first : Bool) (rest : List ℕ) (x : Header) → HeaderCase first rest x → header_at first rest ≡ x
    → ((r : List ℕ) → TakenApart false r (scan_from k false r)) → TakenApart first rest (scan_from (suc k) first rest)
unfolding model_registers
scan_step k first rest x (model_case {id = id} {len = len} {remaining = remaining} one not_zero not_marker long fits) e later =
    let n : List Model = (scan_from k false (drop len remaining)).models in
    let t = later (drop len remaining) in
    let l = length-take-le len remaining fits in
    let m : Model = record { id = id; body = take len remaining } in
    let w : WellFormed m = record { not_zero = not_zero; not_marker = not_marker; not_empty = omega (arith, long) } in
    rw (scan_model k first rest e) (record {
      left = t.left;
      shape = rejoined id len remaining (model_registers n) t.left l t.shape;
      well_formed = (w, t.well_formed);
      ends = t.ends;
      begins = λ h. begins_model first m n one;
    })
scan_step k first rest x (end_case {id = id} {len = len} {remaining = remaining} one e' l) e later =
    rw (scan_end k first rest e) (record {
      left = rest;
      shape = refl;
      well_formed = tt;
      ends = λ h. rw (e', l);
      begins = λ h. begins_end first id one e';
    })
scan_step k first rest x (refused_case {number = number}) e later =
    rw (scan_refused k first rest e) (record {
      left = rest;
      shape = refl;
      well_formed = tt;
      ends = λ h. unbroken number h;
      begins = λ h. unbroken number h;
    })

taken_apart : (k : ℕ) (first : Bool) (rest : List ℕ) → TakenApart first rest (scan_from k first rest)
unfolding scan_from model_registers
taken_apart zero first rest = record {
  left = rest;
  shape = refl;
  well_formed = tt;
  ends = λ h. unbroken 22 h;
  begins = λ h. unbroken 22 h;
}
taken_apart (suc k) first rest =
    scan_step k first rest (header_at first rest) (header_case first rest) refl (λ r. taken_apart k false r)

-- A map whose scan ends at the end marker is made of the models scanned.
pub made_of_models : (map : List ℕ) → (scan map).ending ≡ marked → MadeOf map (scan map).models
unfolding scan scan_from
made_of_models [] h = unbroken 22 h
made_of_models (a ∷ []) h = unbroken 22 h
made_of_models (a ∷ b ∷ rest) h =
    let t = taken_apart (length (a ∷ b ∷ rest)) true rest in
    let ms : List Model = (scan (a ∷ b ∷ rest)).models in
    let e : rest ≡ model_registers ms ++ 65535 ∷ 0 ∷ drop 2 t.left = t.shape ∙ ap (λ l. model_registers ms ++ l) (t.ends h) in
    record {
      register0 = a;
      register1 = b;
      tail = drop 2 t.left;
      shape = ap {B = List ℕ} (λ l. a ∷ b ∷ l) e;
      well_formed = t.well_formed;
      begins = t.begins h;
    }

-- The models scanned are well-formed, however the scan ends.
pub scanned_well_formed : (map : List ℕ) → Each WellFormed (scan map).models
unfolding scan
scanned_well_formed map = (taken_apart (length map) true (drop 2 map)).well_formed

-- If the scan ends at the marker, the map has the two registers of the marker after the models.
pub marked_fit : (map : List ℕ) → (scan map).ending ≡ marked → total_size (scan map).models + 4 ≤ length map
marked_fit map h =
    let m = made_of_models map h in
    let ms : List Model = (scan map).models in
    let e = ap length m.shape in
    let l = length-append (model_registers ms) (65535 ∷ 0 ∷ m.tail) in
    omega (arith, length_registers ms)

-- So models + 1 is at most (registers − 1) / 3.
pub marked_count : (map : List ℕ) → (scan map).ending ≡ marked → length (scan map).models + 1 ≤ (length map - 1) / 3
marked_count map h =
    omega (arith, marked_fit map h, length_total (scan map).models (scanned_well_formed map))
