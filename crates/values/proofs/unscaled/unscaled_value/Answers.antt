-- The pattern of a value fits its type's row.
use mathlib.Core.Path.{◌≡◌, sym, ap, ◌∙◌}
use mathlib.Core.Option.{some}
use Rattle.point_types.specs.Rows.{row_of}
use Rattle.point_types.specs.CodeTypes.{to_spec_presence, to_spec_found, to_spec_row}
use Rattle.point_types.proofs.Table.{own_code, listed}
use Rattle.values.specs.Classes.{is_value, classified}
use Rattle.values.proofs.UnscaledCases.{value_fits}
use Rattle.values.proofs.unscaled.unscaled_value.Goals as goal

pub invariant_of-integer_of : goal.invariant_of-integer_of
invariant_of-integer_of c =
    let a = c.args in
    let r = to_spec_row c.in_ok-row.row in
    let p = to_spec_presence a.presence in
    let at : row_of a.type_code ≡ some r = sym c.row_of.ensures ∙ ap to_spec_found c.in_ok-row.ensures.ok_part in
    let own = own_code a.type_code r at in
    let value =
    ap (λ code. is_value (classified code p a.raw)) own ∙ sym (ap is_value c.classified_in.ensures) ∙ sym c.is_value_in.ensures ∙ c.if-not-is_value_in.false in
    record { fits = record { listed = listed a.type_code r at; fits = value_fits a.type_code p a.raw r at value } }
