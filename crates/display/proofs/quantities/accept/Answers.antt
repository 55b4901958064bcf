-- The register's two's complement is its signed reading.
use Rattle.std.proofs.Common.{◌≡◌, rules, arith, w32}
use Rattle.std.proofs.lemmas.Int.{ints}
use mir.Val.{to_z, of_z}
use Rattle.values.specs.Classes.{twos_complement}
use Rattle.display.specs.Amounts.{amount_of}
use Rattle.display.specs.CodeTypes.{scale_factor}
use Rattle.display.proofs.AmountCases.{accepted_parts}
use Rattle.display.proofs.quantities.accept.Goals as goal

pub returns : goal.returns
unfolding amount_of twos_complement
returns c =
    let e : to_z w32 (of_z w32 c.from-exponent.result) ≡ scale_factor c.args.quantity.scale = grind (arith, ints, twos_complement) in
    rw e (search (rules, accepted_parts))
