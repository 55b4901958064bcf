-- The output list while the walk writes it: consecutive records, ten numbers each.
use mathlib.Core.Path.{◌≡◌, refl, ap, ◌∙◌}
use mathlib.Core.List.{List, [], ◌∷◌, ◌++◌, map, append_assoc, map-append}
use Prim.Native.Nat.{ℕ, suc, ◌+◌, ◌*◌, ◌<◌}
use native.Mathlib.Numerals.{add-one}
use native.Mathlib.Omega.{arith}
use lib.ListN.{length, get_or, drop, set, length-append, length-map}
use lib.Seq.{sets, drop-cons, length-sets}
use Rattle.lists.proofs.StoreLaws.{sets_append}
use Rattle.layout.specs.Points.{ModelPoint}
use Rattle.listing.specs.Listing.{Record, record_numbers, record_width, entries, consecutive}
use Rattle.listing.specs.InternalContracts.{record_at, written}
use Rattle.listing.specs.declared.records.Visit.{Visit}

-- ---- Runs of stores

-- One store of a run.
pub sets_more : (l : List ℕ) (i k : ℕ) (vs : List ℕ) → k < length vs
    → sets (set l (i + k) (get_or vs k 0)) (i + (k + 1)) (drop (k + 1) vs) ≡ sets l (i + k) (drop k vs)
sets_more l i k vs h =
    let e : i + (k + 1) ≡ suc (i + k) = omega arith in
    rw (e, add-one k, drop-cons vs k 0 h)

-- ---- The numbers of records

numbers_length : (r : Record) → length (record_numbers r) ≡ record_width
unfolding record_numbers
numbers_length r = refl

pub entries_length : (rs : List Record) → length (entries rs) ≡ record_width * length rs
unfolding consecutive
entries_length [] = refl
entries_length (r ∷ rs) =
    omega (arith, length-append (record_numbers r) (entries rs), numbers_length r, entries_length rs)

pub entries_append : (rs ss : List Record) → entries (rs ++ ss) ≡ entries rs ++ entries ss
unfolding consecutive
entries_append [] ss = refl
entries_append (r ∷ rs) ss = rw (entries_append rs ss, append_assoc (record_numbers r) (entries rs) (entries ss))

-- ---- Points written

module _ (visit : Visit) (k : ℕ) where
  pub written_none : (out : List ℕ) → written visit k [] out ≡ out
  unfolding consecutive
  written_none out = refl

  -- Writing one point is storing the numbers of its record.
  pub written_one : (p : ModelPoint) (out : List ℕ)
      → sets out (record_width * k) (record_numbers (record_at visit p)) ≡ written visit k (p ∷ []) out
  unfolding record_numbers consecutive
  written_one p out = refl

  pub written_length : (ps : List ModelPoint) (out : List ℕ) → length (written visit k ps out) ≡ length out
  written_length ps out = length-sets out (record_width * k) (entries (map (record_at visit) ps))

  -- Writing ps ++ qs is writing ps, and then qs after them.
  pub written_append : (ps qs : List ModelPoint) (out : List ℕ)
      → written visit k (ps ++ qs) out ≡ written visit (k + length ps) qs (written visit k ps out)
  written_append ps qs out =
      let f = record_at visit in
      let rs = map f ps in
      let ss = map f qs in
      let n : record_width * k + length (entries rs) ≡ record_width * (k + length ps) =
      omega (arith, entries_length rs, length-map ps f) in
      ap (λ l. sets out (record_width * k) (entries l)) (map-append f ps qs)
      ∙ ap (sets out (record_width * k)) (entries_append rs ss)
      ∙ sets_append out (record_width * k) (entries rs) (entries ss)
      ∙ ap (λ i. sets (written visit k ps out) i (entries ss)) n
