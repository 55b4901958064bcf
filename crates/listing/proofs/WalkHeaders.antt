-- Where the walk over a map's models ends: at the end marker, with a header for each model and one for the marker, or at a refused
-- header.
use mathlib.Core.Path.{◌≡◌, refl}
use mathlib.Core.List.{List, [], ◌∷◌, map}
use Prim.Native.Nat.{ℕ, suc, ◌+◌, ◌≤◌, ◌<◌}
use native.Mathlib.Omega.{arith}
use lib.ListN.{length, take}
use Rattle.register_map.specs.Scan.{Model, size_of, total_size, Ending, marked, broken}
use Rattle.layout.specs.Reading.{Reading, unknown, faulty, points}
use Rattle.listing.specs.Listing.{Record, record_of, Answer, refused, listed, with_records, walk}
use Rattle.listing.proofs.WalkSteps.{walk_no_records, walk_faulty, walk_points}
use Rattle.listing.proofs.RefusalNumbers.{Between, model_number}

-- A refusal in a walk over models from model `index` and address `at` on: it is at a model's header with a number from 27 to 29,
-- or at the header after the last model with that header's number.
pub record RefusedAt (ending : Ending) (index at : ℕ) (ms : List Model) (n place headers : ℕ) : Type 0 where
  pub before : ℕ
  pub within : before ≤ length ms
  pub counted : headers ≡ index + before
  pub placed : place ≡ at + total_size (take before ms)
  pub at_model : before < length ms → Between 27 29 n
  pub at_end : before ≡ length ms → ending ≡ broken n

-- The number of headers in an answer.
abbrev pub HeadersWalked : Ending → ℕ → ℕ → List Model → Answer → Type 0
HeadersWalked ending index at ms (refused n place headers) = RefusedAt ending index at ms n place headers
HeadersWalked ending index at ms (listed rs headers) = (headers ≡ index + length ms + 1) × (ending ≡ marked)

-- With one more model before them.
headers_before : (ending : Ending) (index at : ℕ) (m : Model) (ms : List Model) (rs : List Record) (answer : Answer)
    → HeadersWalked ending (index + 1) (at + size_of m) ms answer → HeadersWalked ending index at (m ∷ ms) (with_records rs answer)
headers_before ending index at m ms rs (refused n place headers) r =
    let within = r.within in
    let counted = r.counted in
    let placed = r.placed in
    record {
      before = suc r.before;
      within = omega arith;
      counted = omega arith;
      placed = omega arith;
      at_model = λ l. r.at_model (omega arith);
      at_end = λ e. r.at_end (omega arith);
    }
headers_before ending index at m ms rs (listed ss headers) r =
    let counted = r.0 in (omega arith, r.1)

module _ (read : Model → Reading) where
  headers_end : (ending : Ending) (index at : ℕ) → HeadersWalked ending index at [] (walk read ending index at [])
  unfolding walk
  headers_end marked index at = (omega arith, refl)
  headers_end (broken n) index at =
      record {
        before = 0;
        within = omega arith;
        counted = omega arith;
        placed = omega arith;
        at_model = λ l. absurd (omega arith);
        at_end = λ e. refl;
      }

  headers_model : (ending : Ending) (index at : ℕ) (m : Model) (ms : List Model) (r : Reading) → read m ≡ r
      → HeadersWalked ending (index + 1) (at + size_of m) ms (walk read ending (index + 1) (at + size_of m) ms)
      → HeadersWalked ending index at (m ∷ ms) (walk read ending index at (m ∷ ms))
  headers_model ending index at m ms unknown e later =
      rw (walk_no_records read ending index at m ms e)
      (headers_before ending index at m ms [] (walk read ending (index + 1) (at + size_of m) ms) later)
  headers_model ending index at m ms (faulty fault) e later =
      rw (walk_faulty read ending index at m ms e) (record {
        before = 0;
        within = omega arith;
        counted = omega arith;
        placed = omega arith;
        at_model = λ l. model_number fault;
        at_end = λ z. absurd (omega arith);
      })
  headers_model ending index at m ms (points ps) e later =
      rw (walk_points read ending index at m ms e)
      (headers_before ending index at m ms (map (record_of index at m.id) ps) (walk read ending (index + 1) (at + size_of m) ms)
      later)

  -- The walk over any models.
  pub walk_headers : (ending : Ending) (index at : ℕ) (ms : List Model)
      → HeadersWalked ending index at ms (walk read ending index at ms)
  walk_headers ending index at [] = headers_end ending index at
  walk_headers ending index at (m ∷ ms) =
      headers_model ending index at m ms (read m) refl (walk_headers ending (index + 1) (at + size_of m) ms)
