-- The first walk over the headers of a map, which finds refusals and counts points.
use mathlib.Core.Path.{◌≡◌, refl, sym, ap, ◌∙◌, subst}
use mathlib.Core.List.{List, []}
use mathlib.Core.List as Lists
use Prim.Native.Nat.{ℕ, ◌+◌, ◌≤◌}
use native.Mathlib.Omega.{arith}
use lib.Dec.{eqb}
use lib.ListN.{length, drop, length-append, length-map}
use Rattle.std.specs.Prelude as Std
use Rattle.std.specs.Option.{option_map_or}
use Rattle.lists.proofs.TestOutcomes.{impossible}
use Rattle.register_map.specs.Headers.{model, end_marker, refused, header_at}
use Rattle.register_map.specs.Scan.{Model}
use Rattle.register_map.proofs.HeaderCases.{model_ends}
use Rattle.layout.specs.Points.{ModelPoint}
use Rattle.layout.specs.Reading.{Reading, unknown, faulty, points, Fault, fault_number}
use Rattle.layout.specs.InternalWalks.{surveyed_unknown, surveyed_refused, surveyed_points, surveyed, points_of, HasPoints}
use Rattle.listing.specs.InternalCodeTypes.{to_spec_survey}
use Rattle.listing.specs.declared.surveys.Survey.{Survey}
use Rattle.listing.specs.Listing as Listing
use Rattle.listing.specs.Listing.{Record, record_of, Answer, listed, with_records, walked, Result, refused_result, listed_result, result}
use Rattle.listing.proofs.MapSteps.{walk_at, model_at, body_length, walk_starts, walk_at_end, walk_at_refused, walk_at_unknown, walk_at_faulty, walk_at_points}

-- ---- A reading by its survey

unknown_surveyed : (r : Reading) → surveyed_unknown ≡ surveyed r → r ≡ unknown
unknown_surveyed unknown e = refl
unknown_surveyed (faulty fault) e = cc
unknown_surveyed (points ps) e = cc

refused_surveyed : (r : Reading) {n : ℕ} → surveyed_refused n ≡ surveyed r
    → (fault : Fault) × (r ≡ faulty fault) × (fault_number fault ≡ n)
refused_surveyed unknown e = impossible (cc)
refused_surveyed (faulty fault) e = (fault, refl, cc)
refused_surveyed (points ps) e = impossible (cc)

points_surveyed : (r : Reading) {n : ℕ} → surveyed_points n ≡ surveyed r
    → (ps : List ModelPoint) × (r ≡ points ps) × (length ps ≡ n)
points_surveyed unknown e = impossible (cc)
points_surveyed (faulty fault) e = impossible (cc)
points_surveyed (points ps) e = (ps, refl, cc)

-- The number of points that a survey counts, 0 of an unknown model.
abbrev pub survey_count : Std.Option Survey → ℕ
survey_count s = option_map_or (λ v. v.points) s 0

-- A model that is unknown or refused has no points.
pub no_points_unknown : (r : Reading) → surveyed_unknown ≡ surveyed r → points_of r ≡ []
no_points_unknown r e = ap points_of (unknown_surveyed r e)

pub no_points_refused : (r : Reading) {number : ℕ} → surveyed_refused number ≡ surveyed r → points_of r ≡ []
no_points_refused r e = ap points_of (refused_surveyed r e).1

-- A model that is surveyed with points has points.
pub has_points : (r : Reading) {n : ℕ} → surveyed_points n ≡ surveyed r → HasPoints r
has_points r e = subst HasPoints (sym (points_surveyed r e).1) tt

-- ---- The walk

-- A result with n more points. A refusal stays.
abbrev pub with_points : ℕ → Result → Result
with_points n (refused_result number place headers count) = refused_result number place headers count
with_points n (listed_result k headers) = listed_result (n + k) headers

with_no_points : (t : Result) → with_points 0 t ≡ t
with_no_points (refused_result number place headers count) = refl
with_no_points (listed_result k headers) = ap (λ n. listed_result n headers) (omega arith)

with_more_points : (n : ℕ) (rs : List Record) (a : Answer)
    → with_points n (result (with_records rs a)) ≡ with_points (n + length rs) (result a)
with_more_points n rs (Listing.refused number place headers) = refl
with_more_points n rs (listed ss headers) = ap (λ k. listed_result k headers) (omega (arith, length-append rs ss))

-- The walk is at the header at `at`, with `headers` headers and `points` points before it: the remaining models give the result of
-- the whole map.
pub record Surveying (read : Model → Reading) (map : List ℕ) (at headers points : ℕ) : Type 0 where
  pub rest : with_points points (result (walk_at read map headers at)) ≡ result (walked read map)
  pub low : 2 ≤ at
  pub high : at ≤ 65538
  pub few_headers : headers ≤ at
  pub few_points : points ≤ at

pub survey_starts : (read : Model → Reading) (map : List ℕ) → Surveying read map 2 0 0
survey_starts read map =
    record {
      rest = with_no_points (result (walk_at read map 0 2)) ∙ ap result (walk_starts read map);
      low = omega arith;
      high = omega arith;
      few_headers = omega arith;
      few_points = omega arith;
    }

module _ {read : Model → Reading} {map : List ℕ} {at headers count : ℕ} (here : Surveying read map at headers count) where
  -- The answer from here on gives the result of the whole map.
  answers : {a : Answer} → walk_at read map headers at ≡ a → with_points count (result a) ≡ result (walked read map)
  answers e = ap (λ a. with_points count (result a)) (sym e) ∙ here.rest

  -- At the end marker all points are counted.
  pub survey_ends : header_at (eqb at 2) (drop at map) ≡ end_marker
      → listed_result count (headers + 1) ≡ result (walked read map)
  survey_ends h =
      let all : count ≡ count + 0 = omega arith in
      ap (λ n. listed_result n (headers + 1)) all ∙ answers (walk_at_end read map headers at h)

  -- A header is refused.
  pub survey_refused : {number : ℕ} → header_at (eqb at 2) (drop at map) ≡ refused number
      → refused_result number at headers 0 ≡ result (walked read map)
  survey_refused h = answers (walk_at_refused read map headers at h)

  module _ (short : length map ≤ 65536) {id len : ℕ} (h : header_at (eqb at 2) (drop at map) ≡ model id len) where
    -- An unknown model is skipped.
    pub survey_unknown : surveyed_unknown ≡ surveyed (read (model_at map at id len))
        → Surveying read map (at + (2 + len)) (headers + 1) count
    survey_unknown e =
        let r = unknown_surveyed (read (model_at map at id len)) e in
        let ends = model_ends (eqb at 2) map at h in
        record {
          rest = answers (walk_at_unknown read map headers at id len here.low h r);
          low = omega (arith, here.low);
          high = omega (arith, ends, short);
          few_headers = omega (arith, here.few_headers);
          few_points = omega (arith, here.few_points);
        }

    -- A model is refused.
    pub survey_faulty : {number : ℕ} → surveyed_refused number ≡ surveyed (read (model_at map at id len))
        → refused_result number at headers 0 ≡ result (walked read map)
    survey_faulty e =
        let r = refused_surveyed (read (model_at map at id len)) e in
        ap (λ n. refused_result n at headers 0) (sym r.2)
        ∙ answers (walk_at_faulty read map headers at id len here.low h r.1)

    module _ (few : (m : Model) (ps : List ModelPoint) → read m ≡ points ps → length ps ≤ length m.body) {more : ℕ}
        (e : surveyed_points more ≡ surveyed (read (model_at map at id len))) where
      -- A model has at most as many points as registers.
      pub more_fit : more ≤ len
      more_fit =
          let r = points_surveyed (read (model_at map at id len)) e in
          let f = few (model_at map at id len) r.0 r.1 in
          omega (arith, f, r.2, body_length map at id len h)

      -- Its points are added.
      pub survey_points : Surveying read map (at + (2 + len)) (headers + 1) (count + more)
      survey_points =
          let r = points_surveyed (read (model_at map at id len)) e in
          let ends = model_ends (eqb at 2) map at h in
          let f = record_of headers at id in
          let rs = Lists.map f r.0 in
          let next = walk_at read map (headers + 1) (at + (2 + len)) in
          let total : count + more ≡ count + length rs = omega (arith, length-map r.0 f, r.2) in
          record {
            rest = ap (λ n. with_points n (result next)) total
                ∙ sym (with_more_points count rs next)
                ∙ answers (walk_at_points read map headers at id len here.low h r.1);
            low = omega (arith, here.low);
            high = omega (arith, ends, short);
            few_headers = omega (arith, here.few_headers);
            few_points = omega (arith, here.few_points, more_fit);
          }

    -- A survey that does not refuse: the points of a known model are added.
    pub survey_on : ((m : Model) (ps : List ModelPoint) → read m ≡ points ps → length ps ≤ length m.body)
        → (s : Std.Option Survey) → to_spec_survey (Std.Ok s) ≡ surveyed (read (model_at map at id len))
        → (survey_count s ≤ len) × Surveying read map (at + (2 + len)) (headers + 1) (count + survey_count s)
    survey_on few Std.None e =
        let same : count ≡ count + 0 = omega arith in
        (omega arith, subst (Surveying read map (at + (2 + len)) (headers + 1)) same (survey_unknown e))
    survey_on few (Std.Some s) e = (more_fit few e, survey_points few e)
