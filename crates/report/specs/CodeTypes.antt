-- The code's types and the values of the definitions that they represent.
use Rattle.std.specs.Prelude.{List, ◌++◌, ℕ, length, take}
use Rattle.listing.specs.Listing.{Answer, refused, listed}
use Rattle.report.specs.Text.{refused_word}
use Rattle.report.specs.Program.{text_of}
use Rattle.report.specs.declared.Report.{Report}

-- What `read_plant` returns for an answer: the kind of its text, and the length of the text.
abbrev pub to_code_report : Answer → Report
to_code_report (refused number place headers) = Report.Refusal (length (text_of (refused number place headers)))
to_code_report (listed rs headers) = Report.Listing (length (text_of (listed rs headers)))

-- What the program writes for a report: the first bytes of the buffer `out`, after `refused ` if it is a refusal.
abbrev pub written_by : Report → List ℕ → List ℕ
written_by (Report.Refusal n) out = refused_word ++ take n out
written_by (Report.Listing n) out = take n out

-- The length of the text of a report.
abbrev pub length_of : Report → ℕ
length_of (Report.Refusal n) = n
length_of (Report.Listing n) = n
