-- The answer of listing and the output list after it, by what decides them.
use mathlib.Core.Path.{◌≡◌, refl, sym, ap, ◌∙◌}
use mathlib.Core.List.{List}
use Prim.Native.Nat.{ℕ, ◌*◌, ◌/◌, ◌≤◌, ◌<◌}
use native.Mathlib.Omega.{arith}
use borrow.Author.Tests.{lt-ltb}
use lib.ListN.{length}
use Rattle.lists.proofs.TestOutcomes.{impossible}
use Rattle.listing.specs.Listing.{record_width, Answer, refused, listed, with_capacity, stored, Result, refused_result, listed_result, result}
use Rattle.listing.specs.InternalContracts.{WalkFits}
use Rattle.listing.proofs.ListingCases.{with_capacity_lem}

-- The result t and the output list out' are those of the answer a.
abbrev pub Answered : Answer → List ℕ → Result → List ℕ → Type 0
Answered a out t out' = (t ≡ result a) × (out' ≡ stored a out)

pub answered_by_lem : {a b : Answer} (out : List ℕ) {t : Result} {out' : List ℕ} → b ≡ a → Answered a out t out' → Answered b out t out'
answered_by_lem out e w = (w.0 ∙ ap result (sym e), w.1 ∙ ap (λ x. stored x out) (sym e))

-- A refusal leaves the list as it was.
pub refused_answered : (out : List ℕ) (number place headers : ℕ)
    → Answered (refused number place headers) out (refused_result number place headers 0) out
unfolding stored
refused_answered out number place headers = (refl, refl)

-- ---- 30

module _ (out : List ℕ) where
  -- The list has fewer than 10 × points entries.
  pub too_short : (a : Answer) (points headers : ℕ) → listed_result points headers ≡ result a → length out / record_width < points
      → Answered (with_capacity (length out) a) out (refused_result 30 points headers 0) out
  unfolding with_capacity
  too_short (refused number place following) points headers e f = impossible (cc)
  too_short (listed rs following) points headers e f =
      let n : points ≡ length rs = cc in
      let k : headers ≡ following = cc in
      let over : length out < record_width * length rs = omega arith in
      rw (lt-ltb (length out) (record_width * length rs) over, with_capacity, n, k) (refused_answered out 30 (length rs) following)

  -- It has at least 10 × points entries: the records fit, and the answer stays.
  pub has_capacity : (a : Answer) (points headers : ℕ) → listed_result points headers ≡ result a → points ≤ length out / record_width
      → WalkFits a out × (with_capacity (length out) a ≡ a)
  unfolding with_capacity
  has_capacity (refused number place following) points headers e f = impossible (cc)
  has_capacity (listed rs following) points headers e f =
      let n : points ≡ length rs = cc in
      let fits : record_width * length rs ≤ length out = omega arith in
      (fits, with_capacity_lem (length out) rs following fits)

  -- A refusal by another number comes before 30.
  pub before_capacity : (a : Answer) (number place headers : ℕ) → refused_result number place headers 0 ≡ result a
      → Answered (with_capacity (length out) a) out (refused_result number place headers 0) out
  unfolding with_capacity stored
  before_capacity (refused n at following) number place headers e = (e, refl)
  before_capacity (listed rs following) number place headers e = impossible (cc)
