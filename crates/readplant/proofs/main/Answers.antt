-- `main`: the bytes handed to `print` are the output for the whole input.
use Rattle.std.proofs.Common.{rules, ◌≡◌, ◌∙◌, length}
use Rattle.readplant.proofs.WholeInputs.{whole_input}
use Rattle.readplant.proofs.main.Goals as goal

pub print-requires : goal.print-requires
print-requires c =
    let read = c.read_full-count in
    let full : length read.new.buf ≡ 74818 = search rules in
    whole_input read.new.buf read.result _ full (search rules) (c.put_output-length.ensures.out_after ∙ c.read_plant-report.ensures.out_after)
