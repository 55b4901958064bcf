-- An input that breaks off is never listed as another plant: if the first n bytes of an input are listed, the whole input gives the
-- same listing, or it is refused for one of its lines.
use mathlib.Core.Path.{◌≡◌}
use mathlib.Core.List.{List}
use mathlib.Core.Logic.{◌⊎◌, inl, inr}
use Prim.Native.Nat.{ℕ}
use native.Mathlib.Omega.{arith}
use lib.ListN.{take}
use Rattle.lists.proofs.TestOutcomes.{impossible}
use Rattle.listing.specs.Listing.{Record, listed}
use Rattle.listed_records.proofs.PastTheEnd.{listed_past_end}
use Rattle.input.specs.Parsing as Parsing
use Rattle.input.specs.Outcomes.{Outcome}
use Rattle.input.specs.Truncation.{Continued}
use Rattle.input.proofs.CutWords.{cut_words}
use Rattle.input.proofs.Refusals.{outcome}
use Rattle.report.specs.Program.{found, found_in, frame_capacity, register_capacity, list_capacity}
use Rattle.report.specs.Truncation.{RefusedAtLine, bad_line, too_many}

-- By what the first bytes and the whole input give.
by_whole : {part whole : Parsing.Input} {count : ℕ} (rs : List Record) (headers : ℕ) → Continued part whole
    → Outcome count frame_capacity register_capacity whole → found_in part ≡ listed rs headers
    → (found_in whole ≡ listed rs headers) ⊎ RefusedAtLine (found_in whole)
by_whole rs headers Continued.part_refused o e = impossible (cc)
by_whole rs headers (Continued.bad_line place) o e = inr (bad_line place)
by_whole rs headers (Continued.too_many place) o e = inr (too_many place)
by_whole rs headers (Continued.further catalog map more) (Outcome.given c m k eights frames fits) e =
    inl (listed_past_end catalog map more list_capacity rs headers e (omega arith))

pub truncated_input : (input : List ℕ) (n : ℕ) (rs : List Record) (headers : ℕ) → found (take n input) ≡ listed rs headers
    → (found input ≡ listed rs headers) ⊎ RefusedAtLine (found input)
unfolding found
truncated_input input n rs headers e =
    by_whole rs headers (cut_words n input frame_capacity register_capacity) (outcome input frame_capacity register_capacity) e
