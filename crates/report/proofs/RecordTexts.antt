-- The lines of records are those of their consecutive numbers: so the code's text is the text of the listing.
use mathlib.Core.Path.{◌≡◌, refl, ap, ◌∙◌}
use mathlib.Core.List.{List, [], ◌∷◌, ◌++◌}
use Prim.Native.Nat.{ℕ, suc, ◌*◌, ◌/◌, ◌<◌}
use native.Mathlib.Omega.{arith}
use lib.ListN.{length, length-append}
use lib.Seq.{take_at, drop_at}
use Rattle.listing.specs.Listing.{Record, record_numbers, record_width, entries, consecutive}
use Rattle.listing.proofs.WrittenRecords.{entries_length}
use Rattle.report.specs.Text.{numbers_line, record_lines, listing_text}
use Rattle.report.specs.InternalContracts.{lines, lines_of, list_text}

-- The line of the first record, and those of the others.
pub first_line : (all one rest : List ℕ) → all ≡ one ++ rest → length one ≡ record_width
    → lines_of all ≡ numbers_line one ++ lines_of rest
unfolding lines
first_line all one rest parts size =
    let sum = ap length parts ∙ length-append one rest in
    let count : length all / record_width ≡ suc (length rest / record_width) = omega arith in
    rw (count, parts, take_at one rest record_width size, drop_at one rest record_width size) refl

-- Numbers too few for a record have no line.
pub no_line : (rest : List ℕ) → length rest < record_width → lines_of rest ≡ []
unfolding lines
no_line rest short = let none : length rest / record_width ≡ 0 = omega arith in rw none refl

record_size : (r : Record) → length (record_numbers r) ≡ record_width
unfolding record_numbers
record_size r = refl

pub record_lines_lem : (rs : List Record) → record_lines rs ≡ lines_of (entries rs)
unfolding record_lines lines consecutive
record_lines_lem [] = refl
record_lines_lem (r ∷ rs) =
    rw (first_line _ (record_numbers r) (entries rs) refl (record_size r), record_lines_lem rs) refl

-- The text that the code makes of the records' numbers, whatever follows them in the list.
pub listing_text_lem : (rs : List Record) (rest : List ℕ) (headers : ℕ)
    → list_text (length rs) headers (entries rs ++ rest) ≡ listing_text rs headers
unfolding listing_text
listing_text_lem rs rest headers =
    rw (take_at (entries rs) rest (length rs * record_width) (omega (arith, entries_length rs)), record_lines_lem rs)
