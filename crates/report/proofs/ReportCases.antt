-- The text of an answer in the buffer: of a refusal, and of a listing.
use mathlib.Core.Path.{◌≡◌, ap, ◌∙◌}
use mathlib.Core.List.{List, ◌++◌}
use Prim.Native.Nat.{ℕ, ◌*◌, ◌≤◌}
use native.Mathlib.Omega.{arith}
use lib.ListN.{length, drop}
use Rattle.display.specs.InternalParts.{Put}
use Rattle.display.proofs.StoredTexts.{put_start, put_same, put_length}
use Rattle.std.specs.Prelude.{Ok, Err}
use Rattle.refusals.specs.Refusals.{number}
use Rattle.refusals.specs.declared.Refused.{Refused}
use Rattle.listing.specs.Listing.{Answer, stored, entries, record_width}
use Rattle.listing.specs.declared.Listed.{Listed}
use Rattle.report.specs.Text.{listing_text, refusal_text}
use Rattle.report.specs.Program.{stored_text}
use Rattle.report.specs.InternalContracts.{Answered, list_text}
use Rattle.report.specs.CodeTypes.{to_code_report, length_of}
use Rattle.report.specs.declared.Report.{Report}
use Rattle.report.proofs.RecordTexts.{listing_text_lem}

-- The text of answer a was put into the buffer: the report has its length, and the buffer holds it.
pub record Made (a : Answer) (before after : List ℕ) (report : Report) : Type 0 where
  pub reports : report ≡ to_code_report a
  pub holds : after ≡ stored_text a before
  pub fits : length_of report ≤ length after
  pub keeps : length after ≡ length before

pub refusal_made : {before after : List ℕ} {end : ℕ} (a : Answer) (r : Refused) → Answered a (Err r)
    → Put before after 0 (refusal_text (number r.refusal) r.place) end → end ≤ length after → Made a before after (Report.Refusal end)
refusal_made {before} {after} {end} a r e p h =
    let n : end ≡ length (refusal_text (number r.refusal) r.place) = omega (arith, p.ends) in
    rw e.1 (record { reports = ap Report.Refusal n; holds = put_start p (omega (arith, put_length p)); fits = h; keeps = put_length p })

pub listing_made : {before after list : List ℕ} {end : ℕ} (a : Answer) (l : Listed) → Answered a (Ok l) → (old : List ℕ) → list ≡ stored a old
    → Put before after 0 (list_text l.points l.headers list) end → end ≤ length after → Made a before after (Report.Listing end)
unfolding stored
listing_made {before} {after} {list} {end} a l e old s p h =
    let rs = e.0 in
    let rest = drop (record_width * length rs) old in
    let holds : list ≡ entries rs ++ rest = s ∙ ap (λ (x : Answer). stored x old) e.1 in
    let q : Put before after 0 (listing_text rs l.headers) end = put_same (rw (holds, e.2) (listing_text_lem rs rest l.headers)) p in
    let n : end ≡ length (listing_text rs l.headers) = omega (arith, q.ends) in
    rw e.1 (record { reports = ap Report.Listing n; holds = put_start q (omega (arith, put_length q)); fits = h; keeps = put_length p })
