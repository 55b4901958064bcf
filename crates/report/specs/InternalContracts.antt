-- Internal: contracts of private functions; no public contract cites this file.
use Rattle.std.specs.Prelude.{◌≡◌, Result, Ok, Err, List, [], ◌∷◌, ◌++◌, ℕ, zero, suc, ◌+◌, ◌*◌, ◌/◌, ◌≤◌, length, take, drop}
use Rattle.lists.specs.Ascii.{ascii}
use Rattle.display.specs.Decimals.{digits_of}
use Rattle.refusals.specs.Refusals.{number}
use Rattle.refusals.specs.declared.Refused.{Refused}
use Rattle.listing.specs.Listing.{Record, Answer, refused, listed, record_width}
use Rattle.listing.specs.declared.Listed.{Listed}
use Rattle.input.specs.Lines.{line_feed}
use Rattle.report.specs.Text.{numbers_line}
use Rattle.display.specs.InternalParts.{Appended}
use Rattle.report.specs.declared.text.Text.{Text}

-- The buffer has room for n bytes more.
abbrev pub HasRoom : Text → ℕ → Type 0
HasRoom t n = t.length + n ≤ length t.out.now

-- Bytes were appended to a text.
abbrev pub Added : Text → Text → List ℕ → Type 0
Added before after bytes = Appended before.out after.out before.length bytes after.length

-- What is returned for an answer: how many points and headers are listed, or the refusal and its place.
abbrev pub Answered : Answer → Result Listed Refused → Type 0
Answered a (Ok l) = (rs : List Record) × (a ≡ listed rs l.headers) × (l.points ≡ length rs)
Answered a (Err r) = (headers : ℕ) × (a ≡ refused (number r.refusal) r.place headers)

-- The lines of the first records of a list, `record_width` numbers for each.
unfoldable pub lines : ℕ → List ℕ → List ℕ
lines zero ns = []
lines (suc k) ns = numbers_line (take record_width ns) ++ lines k (drop record_width ns)

-- The lines of the records that a list is long enough for.
abbrev pub lines_of : List ℕ → List ℕ
lines_of ns = lines (length ns / record_width) ns

-- The text of a listing, from its counts and the output list: the first line, and the lines of `points` records.
abbrev pub list_text : ℕ → ℕ → List ℕ → List ℕ
list_text points headers list =
    ascii "points "
    ++ digits_of points
    ++ ascii " headers "
    ++ digits_of headers
    ++ line_feed
    ∷ lines_of (take (points * record_width) list)
