-- By the table, a signed type takes one to four registers.
use mathlib.Core.Path.{ap}
use Rattle.point_types.specs.CodeTypes.{to_spec_kind, to_spec_row}
use Rattle.point_types.proofs.Table.{signed_width}
use Rattle.values.proofs.classes.Pattern.integer_of.Goals as goal

pub twos_complement-value-requires-clause-le_count : goal.twos_complement-value-requires-clause-le_count
twos_complement-value-requires-clause-le_count c =
    signed_width (to_spec_row c.args.self.row) c.args.self.fits.listed (ap to_spec_kind c.in-Signed.is)
