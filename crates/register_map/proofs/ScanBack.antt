-- The scan of the registers of models gives these models.
use mathlib.Core.Path.{◌≡◌, refl}
use mathlib.Core.Bool.{Bool, true, false, not, ◌&&◌}
use mathlib.Core.List.{List, [], ◌∷◌, ◌++◌, append_assoc}
use Prim.Native.Nat.{ℕ, zero, suc, ◌*◌, ◌≤◌, ◌<◌}
use native.Mathlib.Omega.{arith}
use borrow.Author.Tests.{ne_eqb, le-ltb}
use lib.Dec.{eqb}
use lib.ListN.{length, length-append}
use lib.Seq.{take-append_seam, drop-append_seam}
use Rattle.lists.specs.Each.{Each}
use Rattle.register_map.specs.Headers.{model, header_of, header_at}
use Rattle.register_map.specs.Scan.{Model, total_size, marked, scan_from, scan, model_registers, WellFormed, BeginsWith1}
use Rattle.register_map.proofs.HeaderLaws.{first_id}
use Rattle.register_map.proofs.ScanSteps.{scan_model, scan_end}

-- A model with an id of 1 to 65534 and a length of 1 or more is well-formed.
pub well_formed_lem : (m : Model) → 1 ≤ m.id → m.id ≤ 65534 → 1 ≤ length m.body → WellFormed m
well_formed_lem m low high long = record { not_zero = λ e. omega arith; not_marker = λ e. omega arith; not_empty = long }

-- The number of registers of models is the sum of their sizes.
pub length_registers : (ms : List Model) → length (model_registers ms) ≡ total_size ms
unfolding model_registers
length_registers [] = refl
length_registers (m ∷ ms) = let e = length_registers ms in simp length-append (omega arith)

-- A well-formed model takes at least three registers.
pub length_total : (ms : List Model) → Each WellFormed ms → 3 * length ms ≤ total_size ms
length_total [] w = omega arith
length_total (m ∷ ms) w = let e = length_total ms w.1 in let n = w.0.not_empty in omega arith

-- The test for 23 fails at the first of these models.
right_first : (first : Bool) (m : Model) (ms : List Model) → BeginsWith1 first (m ∷ ms) → first && not (eqb m.id 1) ≡ false
right_first true m ms b = (first_id true m.id).1 (λ q. b)
right_first false m ms b = refl

-- The header of a well-formed model is read as this model.
pub header_of_model : (first : Bool) (m : Model) (ms : List Model) (rest : List ℕ) → BeginsWith1 first (m ∷ ms) → WellFormed m
    → header_at first (m.id ∷ length m.body ∷ m.body ++ rest) ≡ model m.id (length m.body)
header_of_model first m ms rest b w =
    let n : length m.body ≡ 0 → ⊥ = λ z. let f = w.not_empty in omega arith in
    let g : length m.body ≤ length (m.body ++ rest) = simp length-append (omega arith) in
    simp (
      header_of,
      right_first first m ms b,
      ne_eqb m.id 0 w.not_zero,
      ne_eqb m.id 65535 w.not_marker,
      ne_eqb (length m.body) 0 n,
      le-ltb (length (m.body ++ rest)) (length m.body) g,
    )

-- The scan of models, the end marker and any registers after it gives these models.
pub scan_back : (k : ℕ) (first : Bool) (ms : List Model) (tail : List ℕ)
    → Each WellFormed ms → BeginsWith1 first ms → length ms < k
    → scan_from k first (model_registers ms ++ 65535 ∷ 0 ∷ tail) ≡ record { models = ms; ending = marked }
unfolding model_registers
scan_back zero first ms tail w b h = absurd (omega arith)
scan_back (suc k) true [] tail w b h = absurd b
scan_back (suc k) false [] tail w b h = scan_end k false (65535 ∷ 0 ∷ tail) refl
scan_back (suc k) first (m ∷ ms) tail w b h =
    let rest = model_registers ms ++ 65535 ∷ 0 ∷ tail in
    rw (
      append_assoc m.body (model_registers ms) (65535 ∷ 0 ∷ tail),
      scan_model k first (m.id ∷ length m.body ∷ m.body ++ rest) (header_of_model first m ms rest b w.0),
      take-append_seam m.body rest,
      drop-append_seam m.body rest,
      scan_back k false ms tail w.1 tt (omega arith),
    )

-- The same for a whole map: its first two registers, models, the end marker and any registers after it.
pub scan_whole_back : (a b : ℕ) (ms : List Model) (tail : List ℕ) → Each WellFormed ms → BeginsWith1 true ms
    → scan (a ∷ b ∷ model_registers ms ++ 65535 ∷ 0 ∷ tail) ≡ record { models = ms; ending = marked }
unfolding scan
scan_whole_back a b ms tail w begins =
    let rest = model_registers ms ++ 65535 ∷ 0 ∷ tail in
    let n = length_total ms w in
    let l = length_registers ms in
    let e = length-append (model_registers ms) (65535 ∷ 0 ∷ tail) in
    scan_back (length (a ∷ b ∷ rest)) true ms tail w begins (omega arith)
