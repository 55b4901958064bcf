-- The search for a point, header by header: only the records of its model decide.
use mathlib.Core.Path.{◌≡◌, refl, sym, ap, subst, ◌∙◌}
use mathlib.Core.Bool.{Bool, true, false}
use mathlib.Core.List.{List, [], ◌∷◌}
use mathlib.Core.List as Lists
use mathlib.Core.Option.{Option, none, some}
use Prim.Native.Nat.{ℕ, ◌+◌, ◌≤◌}
use native.Mathlib.Omega.{arith}
use borrow.Author.Tests.{eq-eqb, ne_eqb}
use lib.Dec.{eqb}
use lib.ListN.{length, take, drop}
use Rattle.std.specs.Prelude as Std
use Rattle.std.specs.Iterator.{Yields, YieldsThen}
use Rattle.lists.specs.Tests.{first_with}
use Rattle.register_map.specs.Headers.{Header, model, end_marker, refused, header_at}
use Rattle.register_map.specs.Scan.{Model}
use Rattle.layout.specs.Points.{ModelPoint}
use Rattle.layout.specs.Paths.{is_point}
use Rattle.layout.specs.Reading.{Reading, unknown, faulty, points, Fault}
use Rattle.layout.specs.InternalWalks.{points_of}
use Rattle.listing.specs.Listing as Listing
use Rattle.listing.specs.Listing.{Record, record_of, Answer, listed, with_records, walked}
use Rattle.listing.specs.Finding as Finding
use Rattle.listing.specs.Finding.{is_record, finding_in, Result, nothing_result, result}
use Rattle.listing.specs.InternalContracts.{result_at, IsListed}
use Rattle.listing.specs.InternalModels.{StartsAt, ModelGiven, GivesModel, IsNoModel}
use Rattle.listing.specs.declared.models.Models.{Models}
use Rattle.listing.specs.declared.models.ModelAt.{ModelAt}
use Rattle.listing.proofs.Searches.{skipped, own_records, none_later}
use Rattle.listing.proofs.MapSteps.{walk_at, model_at, walk_starts, walk_at_end, walk_at_refused, walk_at_unknown, walk_at_faulty, walk_at_points}

-- Answers that are no refusal.
under_records : (rs : List Record) (a : Answer) → IsListed (with_records rs a) → IsListed a
under_records rs (Listing.refused n place headers) l = l
under_records rs (listed ss headers) l = tt

module _ (target number : ℕ) (path : List ℕ) where
  abbrev find : Answer → Finding.Finding
  find = finding_in target number path

  abbrev it : ModelPoint → Bool
  it = is_point number path

  abbrev to_finding : Option Record → Finding.Finding
  to_finding o = elim o [ none ↦ Finding.nothing | some r ↦ Finding.found r ]

  -- If no record of an answer has the search key, nothing is found.
  none_found : (a : Answer) → IsListed a → ((ss : List Record) (headers : ℕ) → a ≡ listed ss headers → first_with (is_record target number path) ss ≡ none)
      → result (find a) ≡ nothing_result
  none_found (Listing.refused n place headers) l f = absurd l
  none_found (listed ss headers) l f = ap (λ o. result (to_finding o)) (f ss headers refl)

  -- The records of another model are skipped.
  others_skipped : (i at id : ℕ) → eqb i target ≡ false → (ps : List ModelPoint) (a : Answer)
      → find (with_records (Lists.map (record_of i at id) ps) a) ≡ find a
  others_skipped i at id n ps (Listing.refused m place headers) = refl
  others_skipped i at id n ps (listed ss headers) = ap to_finding (skipped target number path i at id n ps ss)

  -- The first record found in one model is that of the first point found.
  first_found : (i at id : ℕ) (ps : List ModelPoint)
      → result (to_finding (first_with (λ r. is_point number path r.point) (Lists.map (record_of i at id) ps)))
      ≡ result_at at (first_with it ps)
  unfolding first_with
  first_found i at id [] = refl
  first_found i at id (p ∷ ps) = go (it p) (first_found i at id ps)
    where
      f : ModelPoint → Record
      f = record_of i at id

      go : (b : Bool)
          → result (to_finding (first_with (λ r. is_point number path r.point) (Lists.map f ps))) ≡ result_at at (first_with it ps)
          → result (to_finding (elim b [ true ↦ some (f p) | false ↦ first_with (λ r. is_point number path r.point) (Lists.map f ps) ]))
          ≡ result_at at (elim b [ true ↦ some p | false ↦ first_with it ps ])
      go true e = refl
      go false e = e

  -- The records of the model with the index decide.
  own_decides : (i at id : ℕ) → eqb i target ≡ true → (ps : List ModelPoint) (a : Answer) → IsListed a
      → ((ss : List Record) (headers : ℕ) → a ≡ listed ss headers → first_with (is_record target number path) ss ≡ none)
      → result (find (with_records (Lists.map (record_of i at id) ps) a)) ≡ result_at at (first_with it ps)
  own_decides i at id y ps (Listing.refused m place headers) l f = absurd l
  own_decides i at id y ps (listed ss headers) l f =
      ap (λ o. result (to_finding o)) (own_records target number path i at id y ps ss (f ss headers refl)) ∙ first_found i at id ps

-- ---- Header by header

-- The search is at the header of model `index`: the remaining models give the result of the whole map.
pub record Searching (read : Model → Reading) (map : List ℕ) (target number : ℕ) (path : List ℕ) (at index : ℕ) : Type 0 where
  pub same : finding_in target number path (walk_at read map index at) ≡ finding_in target number path (walked read map)
  pub is_listed : IsListed (walk_at read map index at)
  pub low : 2 ≤ at

pub search_starts : (read : Model → Reading) (map : List ℕ) (target number : ℕ) (path : List ℕ) → IsListed (walked read map)
    → Searching read map target number path 2 0
search_starts read map target number path l =
    let e = walk_starts read map in
    record {
      same = ap (finding_in target number path) e;
      is_listed = subst IsListed (sym e) l;
      low = omega arith;
    }

module _ {read : Model → Reading} {map : List ℕ} {target number : ℕ} {path : List ℕ} {at index : ℕ}
    (here : Searching read map target number path at index) where
  abbrev expected : Result
  expected = result (finding_in target number path (walked read map))

  -- At the end marker there is no such point.
  pub search_ends : header_at (eqb at 2) (drop at map) ≡ end_marker → nothing_result ≡ expected
  unfolding first_with
  search_ends h =
      sym (ap (λ a. result (finding_in target number path a)) (walk_at_end read map index at h)) ∙ ap result here.same

  -- A refused header cannot occur.
  pub search_refused : {A : Type 0} {n : ℕ} → header_at (eqb at 2) (drop at map) ≡ refused n → A
  search_refused h = absurd (subst IsListed (walk_at_refused read map index at h) here.is_listed)

  module _ {id len : ℕ} (h : header_at (eqb at 2) (drop at map) ≡ model id len) where
    abbrev own : Model
    own = model_at map at id len

    abbrev next : Answer
    next = walk_at read map (index + 1) (at + (2 + len))

    not_faulty : {A : Type 0} {fault : Fault} → read own ≡ faulty fault → A
    not_faulty e = absurd (subst IsListed (walk_at_faulty read map index at id len here.low h e) here.is_listed)

    -- Another model is skipped.
    pub search_other : (index ≡ target → ⊥)
        → Searching read map target number path (at + (2 + len)) (index + 1)
    search_other n = go (read own) refl
      where
        goes : finding_in target number path (walk_at read map index at) ≡ finding_in target number path next → IsListed next
            → Searching read map target number path (at + (2 + len)) (index + 1)
        goes e l =
            record {
              same = sym e ∙ here.same;
              is_listed = l;
              low = omega (arith, here.low);
            }

        go : (r : Reading) → read own ≡ r → Searching read map target number path (at + (2 + len)) (index + 1)
        go unknown e =
            let w = walk_at_unknown read map index at id len here.low h e in
            goes (ap (finding_in target number path) w) (subst IsListed w here.is_listed)
        go (faulty fault) e = not_faulty e
        go (points ps) e =
            let w = walk_at_points read map index at id len here.low h e in
            goes (ap (finding_in target number path) w
            ∙ others_skipped target number path index at id (ne_eqb index target n) ps next)
            (under_records (Lists.map (record_of index at id) ps) next (subst IsListed w here.is_listed))

    -- The model with the index decides.
    pub search_own : index ≡ target → result_at at (first_with (is_point number path) (points_of (read own))) ≡ expected
    unfolding first_with
    search_own y = go (read own) refl ∙ ap result here.same
      where
        later : (ss : List Record) (headers : ℕ) → next ≡ listed ss headers → first_with (is_record target number path) ss ≡ none
        later ss headers q = none_later target number path read _ (index + 1) (at + (2 + len)) _ ss headers q (omega arith)

        go : (r : Reading) → read own ≡ r
            → result_at at (first_with (is_point number path) (points_of r))
            ≡ result (finding_in target number path (walk_at read map index at))
        go unknown e =
            let w = walk_at_unknown read map index at id len here.low h e in
            sym (ap (λ a. result (finding_in target number path a)) w
            ∙ none_found target number path next (subst IsListed w here.is_listed) later)
        go (faulty fault) e = not_faulty e
        go (points ps) e =
            let w = walk_at_points read map index at id len here.low h e in
            let l = under_records (Lists.map (record_of index at id) ps) next (subst IsListed w here.is_listed) in
            sym (ap (λ a. result (finding_in target number path a)) w
            ∙ own_decides target number path index at id (eq-eqb index target y) ps next l later)

-- ---- The search by an iterator over the models

module _ (read : Model → Reading) (map : List ℕ) (target number : ℕ) (path : List ℕ) where
  abbrev At : ℕ → ℕ → Type 0
  At = Searching read map target number path

  abbrev wanted : Result
  wanted = result (finding_in target number path (walked read map))

  header_is : {s t : Models} {m : ModelAt} → s.map.now ≡ map → ModelGiven s m t
      → header_at (eqb s.at 2) (drop s.at map) ≡ model m.id (length m.body.now)
  header_is {s} {t} {m} same given = subst (λ x. header_at (eqb s.at 2) (drop s.at x) ≡ model m.id (length m.body.now)) same given.header

  -- Models before the one with the index are skipped.
  skips : (xs : List ModelAt) (s t : Models) {index : ℕ} → s.map.now ≡ map → At s.at index → index + length xs ≤ target
      → Yields GivesModel s xs t → (t.map.now ≡ map) × At t.at (index + length xs)
  skips [] s t {index} same here few y =
      let all : index ≡ index + 0 = omega arith in
      subst (λ u. (u.map.now ≡ map) × At u.at (index + 0)) y (same, subst (At s.at) all here)
  skips (m ∷ xs) s t {index} same here few y =
      let on = search_other here (header_is same y.1) (omega arith) in
      let next = subst (λ a. At a (index + 1)) (sym y.1.next) on in
      let rest = skips xs y.0 t {index = index + 1} (y.1.same_map ∙ same) next (omega arith) y.2 in
      let all : index + 1 + length xs ≡ index + length (m ∷ xs) = omega arith in
      (rest.0, subst (At t.at) all rest.1)

  module _ {s : Models} (starts : StartsAt map s) (listed_all : IsListed (walked read map)) where
    begins : At s.at 0
    begins = subst (λ a. At a 0) (sym starts.at) (search_starts read map target number path listed_all)

    -- The map has no model with the index.
    pub no_model : (xs : List ModelAt) {u : Models} → YieldsThen GivesModel s xs Std.None u → length xs ≤ target → nothing_result ≡ wanted
    no_model xs {u} y few =
        let end = y.0 in
        let there = skips xs s end {index = 0} starts.map_is begins (omega arith) y.1 in
        go (header_at (eqb end.at 2) (drop end.at map)) refl there.1
        (subst (λ x. IsNoModel (header_at (eqb end.at 2) (drop end.at x))) there.0 y.2.1)
      where
        go : (x : Header) {at index : ℕ} → header_at (eqb at 2) (drop at map) ≡ x → At at index → IsNoModel x → nothing_result ≡ wanted
        go (model id len) e here f = absurd f
        go end_marker e here f = search_ends here e
        go (refused n) e here f = search_refused here e

    -- The model with the index decides.
    pub model_found : (xs : List ModelAt) {m : ModelAt} {u : Models} → YieldsThen GivesModel s xs (Std.Some m) u → length xs ≡ target
        → result_at m.address (first_with (is_point number path) (points_of (read (record { id = m.id; body = m.body.now })))) ≡ wanted
    model_found xs {m} {u} y all =
        let end = y.0 in
        let given = y.2 in
        let there = skips xs s end {index = 0} starts.map_is begins (omega arith) y.1 in
        let n = length m.body.now in
        let b : m.body.now ≡ take n (drop (end.at + 2) map) = given.body ∙ ap (λ x. take n (drop (end.at + 2) x)) there.0 in
        let R : ℕ → List ℕ → Result = λ address body.
        result_at address (first_with (is_point number path) (points_of (read (record { id = m.id; body = body })))) in
        ap (λ a. R a m.body.now) given.address ∙ ap (R end.at) b
        ∙ search_own there.1 (header_is there.0 given) (omega (arith, all))
