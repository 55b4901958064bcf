-- The records decoded from an output list are those that the call wrote.
use mathlib.Core.Path.{◌≡◌, refl, ap}
use mathlib.Core.List.{List, [], ◌∷◌, ◌++◌, map}
use Prim.Native.Nat.{ℕ, ◌*◌}
use lib.ListN.{length, drop}
use lib.Seq.{drop_at}
use Rattle.listing.specs.Listing.{Record, record_numbers, record_width, entries, consecutive}
use Rattle.listing.specs.Calls.{records_in}
use Rattle.listing.proofs.WrittenRecords.{entries_length}

-- Decoding the entries of records gives their numbers,
pub records_back : (rs : List Record) (rest : List ℕ) → records_in (length rs) (entries rs ++ rest) ≡ map record_numbers rs
unfolding records_in record_numbers consecutive
records_back [] rest = refl
records_back (r ∷ rs) rest = ap (λ ns. record_numbers r ∷ ns) (records_back rs rest)

-- and what follows the entries is the rest of the list.
pub rest_back : (rs : List Record) (rest : List ℕ) → drop (record_width * length rs) (entries rs ++ rest) ≡ rest
rest_back rs rest = drop_at (entries rs) rest (record_width * length rs) (entries_length rs)
