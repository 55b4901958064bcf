-- The walk over the models of a lengthened map yields the answer of the walk over the map's models, moved by those in the gaps.
use mathlib.Core.Path.{◌≡◌, refl, sym, ap, ◌∙◌}
use mathlib.Core.List.{List, [], ◌∷◌, ◌++◌, map, map-append}
use Prim.Native.Nat.{ℕ, suc, ◌+◌}
use native.Mathlib.Nat.{add-zero, zero-add}
use native.Mathlib.Numerals.{add-one}
use native.Mathlib.Omega.{arith}
use lib.ListN.{length, length-append}
use Rattle.lists.specs.Each.{Each}
use Rattle.register_map.specs.Scan.{Model, size_of, total_size, Ending, marked}
use Rattle.register_map.specs.Insertion.{all_models, placed, gaps_before}
use Rattle.register_map.proofs.PlacedModels.{size_append, no_gaps, all_gap, all_unchanged}
use Rattle.layout.specs.Points.{ModelPoint}
use Rattle.layout.specs.Reading.{Reading, unknown, faulty, points}
use Rattle.listing.specs.Listing.{Record, record_of, Answer, refused, listed, walk}
use Rattle.listing.proofs.WalkSteps.{walk_unknown, with_model, walk_model}
use Rattle.stability.specs.Stability.{shifted}
use Rattle.stability.proofs.RaisedWalks.{raised, raised_answer, walk_raised}

-- ---- Over unknown models

module _ (read : Model → Reading) (ending : Ending) (a : ℕ) where
  -- A walk skips unknown models: the answer for the models after them is raised.
  walk_over : (n d : ℕ) (gap ms : List Model) → Each (λ m. read m ≡ unknown) gap
      → walk read ending n (a + d) (gap ++ ms) ≡ raised_answer (n + length gap) (d + total_size gap) (walk read ending 0 a ms)
  walk_over n d [] ms u = simp add-zero (simp zero-add at (walk_raised n d read ending 0 a ms))
  walk_over n d (m ∷ gap) ms u =
      let e : a + d + size_of m ≡ a + (d + size_of m) = omega arith in
      let e' : n + 1 + length gap ≡ n + suc (length gap) = omega arith in
      let e'' : d + size_of m + total_size gap ≡ d + (size_of m + total_size gap) = omega arith in
      walk_unknown read ending n (a + d) m (gap ++ ms) u.0
      ∙ ap (λ b. walk read ending (n + 1) b (gap ++ ms)) e
      ∙ walk_over (n + 1) (d + size_of m) gap ms u.1
      ∙ rw (e', e'')

  -- A first model and the unknown models of its gap, before other models.
  pub walk_first : (m : Model) (gap ms : List Model) → Each (λ m. read m ≡ unknown) gap
      → walk read ending 0 a (m ∷ gap ++ ms)
      ≡ with_model (read m) 0 a m (raised_answer (1 + length gap) (size_of m + total_size gap) (walk read ending 0 a ms))
  walk_first m gap ms u =
      walk_model read ending 0 a m (gap ++ ms) ∙ ap (with_model (read m) 0 a m) (walk_over 1 (size_of m) gap ms u)

-- ---- Moved answers

-- The moved answer of a walk over n models: each record, and the header of a refusal, is moved by the models in the gaps before it.
abbrev pub moved_walk : List (List Model) → ℕ → Answer → Answer
moved_walk gaps n (listed rs headers) =
    listed (map (λ r. shifted (gaps_before r.index gaps) r) rs) (headers + length (gaps_before n gaps))
moved_walk gaps n (refused number place headers) =
    refused number (place + total_size (gaps_before headers gaps)) (headers + length (gaps_before headers gaps))

-- Without gaps nothing moves.
nothing_shifted : (rs : List Record) → map (λ r. shifted (gaps_before r.index []) r) rs ≡ rs
nothing_shifted [] = refl
nothing_shifted (r ∷ rs) = rw (no_gaps r.index, nothing_shifted rs) (simp add-zero)

nothing_moved : (n : ℕ) (a : Answer) → moved_walk [] n a ≡ a
nothing_moved n (listed rs headers) = rw (nothing_shifted rs, no_gaps n) (simp add-zero)
nothing_moved n (refused number place headers) = rw (no_gaps headers) (simp add-zero)

-- A first model and its gap, before other models and their gaps.
module _ (gap : List Model) (gaps : List (List Model)) where
  -- This gap is before every later model.
  after_gap : (n : ℕ) → gaps_before (n + 1) (gap ∷ gaps) ≡ gap ++ gaps_before n gaps
  unfolding gaps_before
  after_gap n = rw (add-one n)

  index_after : (n i : ℕ)
      → i + 1 + length (gaps_before (n + 1) (gap ∷ gaps)) ≡ i + length (gaps_before n gaps) + (1 + length gap)
  index_after n i = let e = ap length (after_gap n) ∙ length-append gap (gaps_before n gaps) in omega arith

  address_after : (n a d : ℕ)
      → a + d + total_size (gaps_before (n + 1) (gap ∷ gaps)) ≡ a + total_size (gaps_before n gaps) + (d + total_size gap)
  address_after n a d = let e = ap total_size (after_gap n) ∙ size_append gap (gaps_before n gaps) in omega arith

  -- So the records after the first model are moved by this gap, too.
  shifted_after : (d : ℕ) (rs : List Record)
      → map (λ r. shifted (gaps_before r.index (gap ∷ gaps)) r) (map (raised 1 d) rs)
      ≡ map (raised (1 + length gap) (d + total_size gap)) (map (λ r. shifted (gaps_before r.index gaps) r) rs)
  shifted_after d [] = refl
  shifted_after d (r ∷ rs) =
      rw (index_after r.index r.index, address_after r.index r.address d, shifted_after d rs)

  moved_after : (n d : ℕ) (a : Answer)
      → moved_walk (gap ∷ gaps) (n + 1) (raised_answer 1 d a)
      ≡ raised_answer (1 + length gap) (d + total_size gap) (moved_walk gaps n a)
  moved_after n d (listed rs headers) = rw (index_after n headers, shifted_after d rs)
  moved_after n d (refused number place headers) = rw (index_after headers headers, address_after headers place d)

  -- The first model itself does not move.
  first_stays : (a : ℕ) (m : Model) (ps : List ModelPoint)
      → map (λ r. shifted (gaps_before r.index (gap ∷ gaps)) r) (map (record_of 0 a m.id) ps) ≡ map (record_of 0 a m.id) ps
  unfolding gaps_before
  first_stays a m [] = refl
  first_stays a m (p ∷ ps) = rw (first_stays a m ps) (simp add-zero)

  moved_first : (a n : ℕ) (r : Reading) (m : Model) (b : Answer)
      → moved_walk (gap ∷ gaps) n (with_model r 0 a m b) ≡ with_model r 0 a m (moved_walk (gap ∷ gaps) n b)
  unfolding gaps_before
  moved_first a n unknown m b = refl
  moved_first a n (faulty fault) m b = simp add-zero
  moved_first a n (points ps) m (listed rs headers) =
      let own = map (record_of 0 a m.id) ps in
      rw (map-append (λ r. shifted (gaps_before r.index (gap ∷ gaps)) r) own rs, first_stays a m ps)
  moved_first a n (points ps) m (refused number place headers) = refl

-- ---- The walk

pub walk_moved : (read : Model → Reading) (a : ℕ) (ms : List Model) (gaps : List (List Model))
    → Each (Each (λ m. read m ≡ unknown)) gaps
    → walk read marked 0 a (all_models (placed ms gaps)) ≡ moved_walk gaps (length ms) (walk read marked 0 a ms)
unfolding walk placed gaps_before
walk_moved read a [] gaps u = refl
walk_moved read a (m ∷ ms) [] u =
    ap (walk read marked 0 a) (all_unchanged (m ∷ ms)) ∙ sym (nothing_moved (suc (length ms)) (walk read marked 0 a (m ∷ ms)))
walk_moved read a (m ∷ ms) (gap ∷ gaps) u =
    let old = walk read marked 0 a ms in
    let first = with_model (read m) 0 a m in
    let following = raised_answer (1 + length gap) (size_of m + total_size gap) in
    let n = length ms + 1 in
    let whole : walk read marked 0 a (m ∷ ms) ≡ first (raised_answer 1 (size_of m) old) =
    simp add-zero at (walk_first read marked a m [] ms tt) in
    ap (walk read marked 0 a) (all_gap m ms gap gaps)
    ∙ walk_first read marked a m gap (all_models (placed ms gaps)) u.0
    ∙ ap (λ b. first (following b)) (walk_moved read a ms gaps u.1)
    ∙ ap first (sym (moved_after gap gaps (length ms) (size_of m) old))
    ∙ sym (moved_first gap gaps a n (read m) m (raised_answer 1 (size_of m) old))
    ∙ rw (add-one (length ms)) (ap (moved_walk (gap ∷ gaps) (suc (length ms))) (sym whole))
