-- `listing::models::model_at` meets its contract: the body has as many registers as its length says.
use Rattle.std.proofs.Common.{rules, ◌+◌, ◌≤◌, length, drop, ap, arith}
use Rattle.std.proofs.lemmas.List.{length-take}
use Rattle.listing.proofs.models.model_at.Goals as goal

pub invariant_of-result : goal.invariant_of-result
invariant_of-result c =
    let short : length c.part-body.result.now ≤ 65535 =
    omega (arith, ap length c.part-body.ensures, length-take c.args.count (drop (c.args.address + 2) c.args.map.now)) in
    record { sixteen_bits = search rules; low = omega arith; short = short }
