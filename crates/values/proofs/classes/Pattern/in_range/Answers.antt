-- A scale factor has one register.
use mathlib.Core.Path.{ap}
use Rattle.point_types.specs.CodeTypes.{to_spec_row, to_spec_range}
use Rattle.values.proofs.Ranges.{one_register}
use Rattle.values.proofs.classes.Pattern.in_range.Goals as goal

pub overflow_cast-self : goal.overflow_cast-self
overflow_cast-self c =
    record { fits = one_register (to_spec_row c.args.self.row) c.args.self.raw c.args.self.fits (ap to_spec_range c.in-ScaleFactor.is) }
