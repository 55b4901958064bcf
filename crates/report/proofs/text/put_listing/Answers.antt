-- `put_listing`: the first line part by part, and then the lines of the records.
use Rattle.std.proofs.Common.{rules}
use Rattle.display.proofs.AppendedTexts.{appended_both, given_back}
use Rattle.report.proofs.text.put_listing.Goals as goal

pub returns-clause-put : goal.returns-clause-put
returns-clause-put c =
    let points = appended_both c.bytes.ensures c.number.ensures.added in
    let headers = appended_both (appended_both points c.bytes-2.ensures) c.number-2.ensures.added in
    given_back (appended_both headers (appended_both c.bytes-3.ensures c.records.ensures.added)) (search rules)
