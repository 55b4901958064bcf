-- A walk that begins at a higher index and address yields the same answer, raised.
use mathlib.Core.Path.{◌≡◌, refl, sym, ap, ◌∙◌}
use mathlib.Core.List.{List, [], ◌∷◌, map, map-append}
use Prim.Native.Nat.{ℕ, ◌+◌}
use native.Mathlib.Omega.{arith}
use Rattle.register_map.specs.Scan.{Model, size_of, Ending, marked, broken}
use Rattle.layout.specs.Points.{ModelPoint}
use Rattle.layout.specs.Reading.{Reading, unknown, faulty, points}
use Rattle.listing.specs.Listing.{Record, record_of, Answer, refused, listed, with_records, walk}
use Rattle.listing.proofs.WalkSteps.{with_model}

-- A record with its index raised by n and its address by d.
abbrev pub raised : ℕ → ℕ → Record → Record
raised n d r = record { index = r.index + n; id = r.id; address = r.address + d; point = r.point }

-- An answer with all its records raised, or its place raised by d, and its headers raised by n.
abbrev pub raised_answer : ℕ → ℕ → Answer → Answer
raised_answer n d (refused number place headers) = refused number (place + d) (headers + n)
raised_answer n d (listed rs headers) = listed (map (raised n d) rs) (headers + n)

module _ (n d : ℕ) where
  -- Records added before an answer are raised with it.
  raised_prepended : (rs : List Record) (a : Answer)
      → raised_answer n d (with_records rs a) ≡ with_records (map (raised n d) rs) (raised_answer n d a)
  raised_prepended rs (refused number place headers) = refl
  raised_prepended rs (listed ss headers) = ap (λ ts. listed ts (headers + n)) (map-append (raised n d) rs ss)

  -- The records of a model at a higher index and address are the raised ones.
  raised_records : (index at : ℕ) (m : Model) (ps : List ModelPoint)
      → map (record_of (index + n) (at + d) m.id) ps ≡ map (raised n d) (map (record_of index at m.id) ps)
  raised_records index at m [] = refl
  raised_records index at m (p ∷ ps) =
      let e : at + d + 2 + p.offset ≡ at + 2 + p.offset + d = omega arith in
      rw (e, raised_records index at m ps)

  -- The answer from such a model on is the raised one.
  raised_model : (r : Reading) (index at : ℕ) (m : Model) (a : Answer)
      → with_model r (index + n) (at + d) m (raised_answer n d a) ≡ raised_answer n d (with_model r index at m a)
  raised_model unknown index at m a = refl
  raised_model (faulty fault) index at m a = refl
  raised_model (points ps) index at m a =
      ap (λ rs. with_records rs (raised_answer n d a)) (raised_records index at m ps)
      ∙ sym (raised_prepended (map (record_of index at m.id) ps) a)

  pub walk_raised : (read : Model → Reading) (ending : Ending) (index at : ℕ) (ms : List Model)
      → walk read ending (index + n) (at + d) ms ≡ raised_answer n d (walk read ending index at ms)
  unfolding walk
  walk_raised read marked index at [] =
      let e : index + n + 1 ≡ index + 1 + n = omega arith in
      rw e
  walk_raised read (broken number) index at [] = refl
  walk_raised read ending index at (m ∷ ms) =
      let old = walk read ending (index + 1) (at + size_of m) ms in
      let e : index + n + 1 ≡ index + 1 + n = omega arith in
      let e' : at + d + size_of m ≡ at + size_of m + d = omega arith in
      let following : walk read ending (index + n + 1) (at + d + size_of m) ms ≡ raised_answer n d old =
      rw (e, e') (walk_raised read ending (index + 1) (at + size_of m) ms) in
      ap (with_model (read m) (index + n) (at + d) m) following ∙ raised_model (read m) index at m old
