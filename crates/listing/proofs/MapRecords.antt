-- The second walk over the headers of a map, which writes the records of all models.
use mathlib.Core.Path.{◌≡◌, refl, sym, ap, subst, ◌∙◌}
use mathlib.Core.List.{List, [], ◌++◌}
use mathlib.Core.List as Lists
use Prim.Native.Nat.{ℕ, ◌+◌, ◌*◌, ◌≤◌}
use native.Mathlib.Omega.{arith}
use lib.Dec.{eqb}
use lib.ListN.{length, take, drop, length-append, length-map}
use lib.Seq.{sets, sets-eq}
use Rattle.lists.proofs.StoreLaws.{sets_append}
use Rattle.register_map.specs.Headers.{Header, model, end_marker, refused, header_at}
use Rattle.register_map.specs.Scan.{Model}
use Rattle.layout.specs.Points.{ModelPoint}
use Rattle.layout.specs.Reading.{Reading, unknown, faulty, points}
use Rattle.layout.specs.InternalWalks.{points_of}
use Rattle.listing.specs.Listing as Listing
use Rattle.listing.specs.Listing.{Record, record_width, record_of, Answer, listed, walked, entries, stored, consecutive}
use Rattle.listing.specs.InternalContracts.{written, visit_of, WalkFits}
use Rattle.listing.specs.InternalModels.{StartsAt, ModelGiven, IsNoModel, header_there}
use Rattle.listing.specs.declared.models.Models.{Models}
use Rattle.listing.specs.declared.models.ModelAt.{ModelAt}
use Rattle.listing.specs.declared.records.Visit.{Visit}
use Rattle.listing.proofs.WrittenRecords.{entries_length, entries_append, written_none, written_length}
use Rattle.listing.proofs.WalkSteps.{not_listed, prepended_listed}
use Rattle.listing.proofs.MapSteps.{walk_at, model_at, walk_starts, walk_at_end, walk_at_refused, walk_at_unknown, walk_at_faulty, walk_at_points}

-- Without points, nothing is written.
pub nothing_written : (visit : Visit) (k : ℕ) (ps : List ModelPoint) (out : List ℕ) → ps ≡ []
    → (k ≡ k + length ps) × (out ≡ written visit k ps out)
nothing_written visit k ps out e =
    (omega (arith, ap length e), sym (ap (λ qs. written visit k qs out) e ∙ written_none visit k out))

-- The walk is at the header at `at`, with `records` records written into `out`: the remaining records fit after them, and writing
-- them gives the list that the contract requires.
pub record WalkingMap (read : Model → Reading) (map before out : List ℕ) (at index records : ℕ) : Type 0 where
  pub left : List Record
  pub headers : ℕ
  pub rest : walk_at read map index at ≡ listed left headers
  pub leads : sets out (record_width * records) (entries left) ≡ stored (walked read map) before
  pub capacity : record_width * (records + length left) ≤ length out
  pub same_length : length out ≡ length before
  pub low : 2 ≤ at

pub walking_starts : (read : Model → Reading) (map out : List ℕ) → WalkFits (walked read map) out
    → WalkingMap read map out out 2 0 0
unfolding stored
walking_starts read map out = go (walked read map) refl
  where
    go : (a : Answer) → walked read map ≡ a → WalkFits a out → WalkingMap read map out out 2 0 0
    go (Listing.refused number place headers) e f = absurd f
    go (listed rs headers) e f =
        let n : 0 + length (entries rs) ≡ record_width * length rs = omega (arith, entries_length rs) in
        record {
          left = rs;
          headers = headers;
          rest = walk_starts read map ∙ e;
          leads = sets-eq (entries rs) out 0 (omega (arith, n, f))
              ∙ ap (λ k. entries rs ++ drop k out) n
              ∙ ap (λ a. stored a out) (sym e);
          capacity = omega (arith, f);
          same_length = refl;
          low = omega arith;
        }

module _ {read : Model → Reading} {map before out : List ℕ} {at index records : ℕ}
    (here : WalkingMap read map before out at index records) where
  -- At the end marker all records are written.
  pub walking_ends : header_at (eqb at 2) (drop at map) ≡ end_marker → out ≡ stored (walked read map) before
  unfolding consecutive
  walking_ends h =
      let e : listed [] (index + 1) ≡ listed here.left here.headers =
      sym (walk_at_end read map index at h) ∙ here.rest in
      let none : [] ≡ here.left = cc in
      ap (λ rs. sets out (record_width * records) (entries rs)) none ∙ here.leads

  -- A refused header cannot occur.
  pub walking_refused : {A : Type 0} {number : ℕ} → header_at (eqb at 2) (drop at map) ≡ refused number → A
  walking_refused h = not_listed (sym (walk_at_refused read map index at h) ∙ here.rest)

  module _ {id len : ℕ} (h : header_at (eqb at 2) (drop at map) ≡ model id len) where
    abbrev own : Model
    own = model_at map at id len

    abbrev visit : Visit
    visit = record { index = index; id = id; address = at }

    abbrev next : Answer
    next = walk_at read map (index + 1) (at + (2 + len))

    -- The points ps fit, and after writing them the walk is at the next header.
    abbrev Onward : List ModelPoint → Type 0
    Onward ps =
        (record_width * (records + length ps) ≤ length out)
        × WalkingMap read map before (written visit records ps out) (at + (2 + len)) (index + 1) (records + length ps)

    -- The same, by the records ss that remain after the model's.
    goes : (ps : List ModelPoint) (ss : List Record) → next ≡ listed ss here.headers
        → here.left ≡ Lists.map (record_of index at id) ps ++ ss → Onward ps
    goes ps ss e q =
        let f = record_of index at id in
        let rs = Lists.map f ps in
        let i = record_width * records in
        let n : record_width * (records + length ps) ≡ i + length (entries rs) =
        omega (arith, entries_length rs, length-map ps f) in
        let all : entries rs ++ entries ss ≡ entries here.left = sym (ap entries q ∙ entries_append rs ss) in
        let count : length here.left ≡ length ps + length ss =
        ap length q ∙ omega (arith, length-append rs ss, length-map ps f) in
        let same = written_length visit records ps out in (
          omega (arith, here.capacity, count),
          record {
            left = ss;
            headers = here.headers;
            rest = e;
            leads = ap (λ k. sets (sets out i (entries rs)) k (entries ss)) n
                ∙ sym (sets_append out i (entries rs) (entries ss))
                ∙ ap (sets out i) all
                ∙ here.leads;
            capacity = omega (arith, here.capacity, count, same);
            same_length = same ∙ here.same_length;
            low = omega (arith, here.low);
          },
        )

    -- The points of the model fit, and after writing them the walk is at the next header.
    pub walking_goes_on : Onward (points_of (read own))
    walking_goes_on = go (read own) refl
      where
        go : (r : Reading) → read own ≡ r → Onward (points_of r)
        go unknown e =
            goes [] here.left (sym (walk_at_unknown read map index at id len here.low h e) ∙ here.rest) refl
        go (faulty fault) e = not_listed (sym (walk_at_faulty read map index at id len here.low h e) ∙ here.rest)
        go (points ps) e =
            let b = prepended_listed (Lists.map (record_of index at id) ps) next here.left here.headers
            (sym (walk_at_points read map index at id len here.low h e) ∙ here.rest) in
            goes ps b.0 b.1 b.2

-- ---- The walk as an iterator over the models

-- It begins at the first header.
pub models_start : {read : Model → Reading} {map out : List ℕ} {s : Models} → StartsAt map s → WalkFits (walked read map) out
    → WalkingMap read map out out s.at 0 0
models_start {read} {map} {out} b f = subst (λ a. WalkingMap read map out out a 0 0) (sym b.at) (walking_starts read map out f)

module _ {read : Model → Reading} {map before out : List ℕ} {index records : ℕ} (s : Models) (same : s.map.now ≡ map)
    (here : WalkingMap read map before out s.at index records) where
  -- If it gives no model, all records are written.
  pub no_model_left : IsNoModel (header_there s) → out ≡ stored (walked read map) before
  no_model_left n =
      go (header_at (eqb s.at 2) (drop s.at map)) refl (subst (λ x. IsNoModel (header_at (eqb s.at 2) (drop s.at x))) same n)
    where
      go : (x : Header) → header_at (eqb s.at 2) (drop s.at map) ≡ x → IsNoModel x → out ≡ stored (walked read map) before
      go (model id len) e f = absurd f
      go end_marker e f = walking_ends here e
      go (refused number) e f = walking_refused here e

  module _ {t : Models} {m : ModelAt} (given : ModelGiven s m t) where
    -- The points of the model that it gives.
    abbrev pub given_points : List ModelPoint
    given_points = points_of (read (record { id = m.id; body = m.body.now }))

    -- They fit, and after writing them the walk goes on.
    onward : (record_width * (records + length given_points) ≤ length out)
        × WalkingMap read map before (written (visit_of index m) records given_points out) t.at (index + 1) (records + length given_points)
    onward =
        let n = length m.body.now in
        let h = subst (λ x. header_at (eqb s.at 2) (drop s.at x) ≡ model m.id n) same given.header in
        let b : m.body.now ≡ take n (drop (s.at + 2) map) = given.body ∙ ap (λ x. take n (drop (s.at + 2) x)) same in
        let P : List ℕ → ℕ → ℕ → Type 0 = λ body address next.
        (record_width * (records + length (points_of (read (record { id = m.id; body = body })))) ≤ length out)
        × WalkingMap read map before
        (written (record { index = index; id = m.id; address = address }) records (points_of (read (record { id = m.id; body = body }))) out)
        next (index + 1) (records + length (points_of (read (record { id = m.id; body = body })))) in
        let there : P (take n (drop (s.at + 2) map)) s.at (s.at + (2 + n)) = walking_goes_on here h in
        subst (λ x. P x m.address t.at) (sym b)
        (subst (λ x. P (take n (drop (s.at + 2) map)) x t.at) (sym given.address)
        (subst (P (take n (drop (s.at + 2) map)) s.at) (sym given.next) there))

    pub given_fits : record_width * (records + length given_points) ≤ length out
    given_fits = onward.0

    pub given_written : {number following written_now : ℕ} {out' : List ℕ} → number ≡ index → following ≡ index + 1
        → written_now ≡ records + length given_points → out' ≡ written (visit_of number m) records given_points out
        → WalkingMap read map before out' t.at following written_now
    given_written {number} {following} {written_now} {out'} a b r o =
        let W : List ℕ → ℕ → ℕ → Type 0 = λ x i k. WalkingMap read map before x t.at i k in
        subst (λ i. W out' i written_now) (sym b)
        (subst (W out' (index + 1)) (sym r)
        (subst (λ x. W x (index + 1) (records + length given_points))
        (sym (o ∙ ap (λ i. written (visit_of i m) records given_points out) a)) onward.1))
