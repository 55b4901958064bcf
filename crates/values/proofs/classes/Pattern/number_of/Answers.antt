-- By the table, a signed type takes at most four registers, a float has the width of its format, and a value of a float type is no NaN.
use mathlib.Core.Path.{ap}
use Rattle.point_types.specs.CodeTypes.{to_spec_format, to_spec_kind, to_spec_row}
use Rattle.point_types.proofs.Table.{signed_width, float_row}
use Rattle.values.proofs.NoNaN.{no_nan_in_range}
use Rattle.values.proofs.classes.Pattern.number_of.Goals as goal

pub twos_complement-requires-clause-le_count : goal.twos_complement-requires-clause-le_count
twos_complement-requires-clause-le_count c =
    signed_width (to_spec_row c.args.self.row) c.args.self.fits.listed (ap to_spec_kind c.in-Signed.is)

pub float_of-requires-clause-raw_bound : goal.float_of-requires-clause-raw_bound
float_of-requires-clause-raw_bound c =
    let f = to_spec_format c.in-Float.format in
    let row = to_spec_row c.args.self.row in
    let k = ap to_spec_kind c.in-Float.is in
    rw (float_row row c.args.self.fits.listed f k).0 at c.args.self.fits.fits

pub float_of-requires-clause-raw_value : goal.float_of-requires-clause-raw_value
float_of-requires-clause-raw_value c =
    let f = to_spec_format c.in-Float.format in
    let row = to_spec_row c.args.self.row in
    let k = ap to_spec_kind c.in-Float.is in
    no_nan_in_range row c.args.self.raw f c.args.self.fits.listed k c.requires
