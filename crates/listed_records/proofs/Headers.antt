-- The count of headers that listing returns (document 01, "Listing"): on acceptance and on 30 models + 1, at most
-- (registers − 1) / 3; on 22 to 29 those before the header at the place of the refusal; else 0.
use mathlib.Core.Path.{◌≡◌, ap, ◌∙◌}
use mathlib.Core.List.{List}
use mathlib.Core.Logic.{⊎_elim}
use Prim.Native.Nat.{ℕ, ◌+◌, ◌-◌, ◌/◌, ◌≤◌, ◌<◌}
use native.Mathlib.Nat.{eq-or-lt_of_le}
use native.Mathlib.Omega.{arith}
use lib.ListN.{length, take}
use Rattle.register_map.specs.Scan.{total_size, scan}
use Rattle.listing.specs.Listing.{Record, refused, listed, listing}
use Rattle.listing.proofs.RefusalNumbers.{ending_number}
use Rattle.listing.proofs.ListingInversion.{headers_walked, headers_marked, listed_walks, short_walks, refused_walks, refused_early}

-- On acceptance the headers are models + 1 and at most (registers − 1) / 3.
pub headers : (catalog map : List ℕ) (capacity : ℕ) (rs : List Record) (headers : ℕ) → listing catalog map capacity ≡ listed rs headers
    → (headers ≡ length (scan map).models + 1) × (headers ≤ (length map - 1) / 3)
headers catalog map capacity rs h e = headers_marked catalog map (listed_walks catalog map capacity rs h e).0

-- The same on 30.
pub headers_without_capacity : (catalog map : List ℕ) (capacity n headers : ℕ) → listing catalog map capacity ≡ refused 30 n headers
    → (headers ≡ length (scan map).models + 1) × (headers ≤ (length map - 1) / 3)
headers_without_capacity catalog map capacity n headers e = headers_marked catalog map (short_walks catalog map capacity n headers e).1

-- On 1 to 11, 20 and 21 there are none.
pub no_headers : (catalog map : List ℕ) (capacity n place headers : ℕ) → listing catalog map capacity ≡ refused n place headers → n ≤ 21
    → headers ≡ 0
no_headers catalog map capacity n place headers e low = refused_early catalog map capacity n place headers (omega arith) e

-- On 22 to 29 the headers are those of the models before the header whose address is the place.
pub headers_before : (catalog map : List ℕ) (capacity n place headers : ℕ) → listing catalog map capacity ≡ refused n place headers
    → 22 ≤ n → n ≤ 29
    → (headers ≤ length (scan map).models) × (place ≡ 2 + total_size (take headers (scan map).models))
headers_before catalog map capacity n place headers e low high =
    let r = headers_walked catalog map (refused_walks catalog map capacity n place headers (low, high) e) in
    let counted = r.counted in
    let within = r.within in
    let same : r.before ≡ headers = omega arith in
    (omega arith, r.placed ∙ ap (λ k. 2 + total_size (take k (scan map).models)) same)

-- On 22 to 26 that is the header after the last model.
pub headers_at_end : (catalog map : List ℕ) (capacity n place headers : ℕ) → listing catalog map capacity ≡ refused n place headers
    → 22 ≤ n → n ≤ 26 → headers ≡ length (scan map).models
headers_at_end catalog map capacity n place headers e low high =
    let r = headers_walked catalog map (refused_walks catalog map capacity n place headers (low, omega arith) e) in
    let counted = r.counted in
    ⊎_elim (λ q. omega arith) (λ l. let b = r.at_model l in absurd (omega arith)) (eq-or-lt_of_le r.within)

-- On 27 to 29 it is the header of a model.
pub headers_at_model : (catalog map : List ℕ) (capacity n place headers : ℕ) → listing catalog map capacity ≡ refused n place headers
    → 27 ≤ n → n ≤ 29 → headers < length (scan map).models
headers_at_model catalog map capacity n place headers e low high =
    let r = headers_walked catalog map (refused_walks catalog map capacity n place headers (omega arith, high) e) in
    let counted = r.counted in
    ⊎_elim (λ q. let b = ending_number map n (r.at_end q) in absurd (omega arith)) (λ l. omega arith)
    (eq-or-lt_of_le r.within)
