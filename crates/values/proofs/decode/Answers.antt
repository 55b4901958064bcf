-- The raw value of a type's registers is a pattern of the type.
use mathlib.Core.Path.{◌≡◌, sym, ap, ◌∙◌}
use mathlib.Core.Option.{some}
use borrow.Author.Rules.{rules}
use Rattle.point_types.specs.Rows.{row_of}
use Rattle.point_types.specs.CodeTypes.{to_spec_found, to_spec_row}
use Rattle.values.proofs.FoundRow.{pattern_of}
use Rattle.values.proofs.decode.Goals as goal

pub invariant_of-value_of : goal.invariant_of-value_of
invariant_of-value_of c =
    let a = c.args in
    let row = to_spec_row c.in_ok-row.row in
    let raw = c.raw_value-raw in
    let at : row_of a.type_code ≡ some row = sym c.row_of.ensures ∙ ap to_spec_found c.in_ok-row.ensures.ok_part in
    record { fits = pattern_of a.type_code a.registers row (search rules) c.if-row-gt4.false at raw.result (rw c.from.ensures at raw.ensures.upper_bound) }
