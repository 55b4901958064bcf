-- From an answer back to the walk: acceptance, 30 and a refusal of 22 to 29 each determine what the walk yields.
use mathlib.Core.Path.{◌≡◌, subst}
use mathlib.Core.List.{List}
use mathlib.Core.Logic.{⊎_elim}
use Prim.Native.Nat.{ℕ, ◌+◌, ◌*◌, ◌-◌, ◌/◌, ◌≤◌, ◌<◌}
use native.Mathlib.Nat.{eq-or-lt_of_le}
use native.Mathlib.Omega.{arith}
use lib.ListN.{length}
use Rattle.lists.proofs.TestOutcomes.{impossible}
use Rattle.model_definitions.specs.Definitions.{definitions}
use Rattle.register_map.specs.Scan.{scan}
use Rattle.register_map.proofs.MadeOfModels.{marked_count}
use Rattle.layout.specs.Reading.{reading}
use Rattle.listing.specs.Listing.{Record, record_width, Answer, refused, listed, listing}
use Rattle.listing.proofs.RefusalNumbers.{Between, catalog_number, opening_number, ending_number}
use Rattle.listing.proofs.WalkHeaders.{HeadersWalked, walk_headers}
use Rattle.listing.proofs.ListingCases.{Walks, Case, catalog_refused, opening_refused, walk_refused, too_short, all_listed, listing_case}

module _ (catalog map : List ℕ) where
  -- The number of headers in an answer of the walk.
  pub headers_walked : {answer : Answer} → Walks catalog map answer
      → HeadersWalked (scan map).ending 0 2 (scan map).models answer
  headers_walked w =
      rw w.walks at (walk_headers (reading (definitions catalog)) (scan map).ending 0 2 (scan map).models)

  -- A walk to the end marker counts models + 1 headers, at most (registers − 1) / 3.
  pub headers_marked : {rs : List Record} {headers : ℕ} → Walks catalog map (listed rs headers)
      → (headers ≡ length (scan map).models + 1) × (headers ≤ (length map - 1) / 3)
  headers_marked w =
      let r = headers_walked w in
      let counted = r.0 in
      let bound = marked_count map r.1 in
      (omega arith, omega arith)

  -- A refusal of the walk has one of the numbers 22 to 29.
  pub walk_number : {n place headers : ℕ} → Walks catalog map (refused n place headers) → Between 22 29 n
  walk_number w =
      let r = headers_walked w in
      ⊎_elim (λ e. let b = ending_number map _ (r.at_end e) in (omega arith, omega arith))
      (λ l. let b = r.at_model l in (omega arith, omega arith)) (eq-or-lt_of_le r.within)

  module _ (capacity : ℕ) where
    -- Acceptance.
    listed_case : (rs : List Record) (headers : ℕ) (answer : Answer) → Case catalog map capacity answer → answer ≡ listed rs headers
        → Walks catalog map (listed rs headers) × (record_width * length rs ≤ capacity)
    listed_case rs headers answer (catalog_refused c) e = impossible (cc)
    listed_case rs headers answer (opening_refused a c) e = impossible (cc)
    listed_case rs headers answer (walk_refused c) e = impossible (cc)
    listed_case rs headers answer (too_short c l) e = impossible (cc)
    listed_case rs headers answer (all_listed {rs = ss} {headers = h} w l) e =
        let same : ss ≡ rs = cc in
        let also : h ≡ headers = cc in
        (rw (← same, ← also) w, rw (← same) l)

    pub listed_walks : (rs : List Record) (headers : ℕ) → listing catalog map capacity ≡ listed rs headers
        → Walks catalog map (listed rs headers) × (record_width * length rs ≤ capacity)
    listed_walks rs headers e = listed_case rs headers (listing catalog map capacity) (listing_case catalog map capacity) e

    -- 30.
    short_case : (n headers : ℕ) (answer : Answer) → Case catalog map capacity answer → answer ≡ refused 30 n headers
        → (rs : List Record) × (Walks catalog map (listed rs headers)) × (length rs ≡ n) × (capacity < record_width * n)
    short_case n headers answer (catalog_refused {n = k} c) e =
        let same : k ≡ 30 = cc in let b = catalog_number _ _ catalog c in absurd (omega arith)
    short_case n headers answer (opening_refused {n = k} a c) e =
        let same : k ≡ 30 = cc in let b = opening_number map _ c in absurd (omega arith)
    short_case n headers answer (walk_refused {n = k} w) e =
        let same : k ≡ 30 = cc in let b = walk_number w in absurd (omega arith)
    short_case n headers answer (too_short {rs = rs} {headers = h} w l) e =
        let same : length rs ≡ n = cc in
        let also : h ≡ headers = cc in
        (rs, rw (← also) w, same, rw (← same) l)
    short_case n headers answer (all_listed c l) e = impossible (cc)

    pub short_walks : (n headers : ℕ) → listing catalog map capacity ≡ refused 30 n headers
        → (rs : List Record) × (Walks catalog map (listed rs headers)) × (length rs ≡ n) × (capacity < record_width * n)
    short_walks n headers e = short_case n headers (listing catalog map capacity) (listing_case catalog map capacity) e

    -- 22 to 29.
    refused_case_lem : (n place headers : ℕ) → Between 22 29 n → (answer : Answer) → Case catalog map capacity answer
        → answer ≡ refused n place headers → Walks catalog map (refused n place headers)
    refused_case_lem n place headers r answer (catalog_refused {n = k} c) e =
        let same : k ≡ n = cc in let b = catalog_number _ _ catalog c in absurd (omega arith)
    refused_case_lem n place headers r answer (opening_refused {n = k} a c) e =
        let same : k ≡ n = cc in let b = opening_number map _ c in absurd (omega arith)
    refused_case_lem n place headers r answer (walk_refused {n = k} w) e = subst (Walks catalog map) e w
    refused_case_lem n place headers r answer (too_short w l) e = let same : 30 ≡ n = cc in absurd (omega arith)
    refused_case_lem n place headers r answer (all_listed c l) e = impossible (cc)

    pub refused_walks : (n place headers : ℕ) → Between 22 29 n → listing catalog map capacity ≡ refused n place headers
        → Walks catalog map (refused n place headers)
    refused_walks n place headers b e =
        refused_case_lem n place headers b (listing catalog map capacity) (listing_case catalog map capacity) e

    -- 1 to 11, 20 and 21: 0 headers.
    early_case : (n place headers : ℕ) → n < 22 → (answer : Answer) → Case catalog map capacity answer
        → answer ≡ refused n place headers → headers ≡ 0
    early_case n place headers l answer (catalog_refused c) e = cc
    early_case n place headers l answer (opening_refused a c) e = cc
    early_case n place headers l answer (walk_refused {n = k} w) e =
        let same : k ≡ n = cc in let b = walk_number w in absurd (omega arith)
    early_case n place headers l answer (too_short w s) e = let same : 30 ≡ n = cc in absurd (omega arith)
    early_case n place headers l answer (all_listed w s) e = impossible (cc)

    pub refused_early : (n place headers : ℕ) → n < 22 → listing catalog map capacity ≡ refused n place headers → headers ≡ 0
    refused_early n place headers l e =
        early_case n place headers l (listing catalog map capacity) (listing_case catalog map capacity) e
