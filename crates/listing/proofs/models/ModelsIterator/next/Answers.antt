-- `listing::models::Models::next` meets its contract: a model ends within the map, where the next header is.
use Rattle.std.proofs.Common.{◌+◌, length, take, drop, refl, sym, ap, ◌∙◌, arith, nat_eq}
use Rattle.register_map.specs.Headers.{model}
use Rattle.register_map.proofs.HeaderCases.{model_ends}
use Rattle.listing.specs.InternalModels.{CanWalk}
use Rattle.listing.specs.declared.models.Models.{Models}
use Rattle.listing.proofs.MapSteps.{body_length}
use Rattle.listing.proofs.models.ModelsIterator.next.Goals as goal

pub returns-clause-steps : goal.returns-clause-steps
returns-clause-steps c =
    let map = c.args.self.now.map.now in
    let at = c.args.self.now.at in
    let h = sym (rw c.in-Ok-Model.field-0-is at c.in-Ok-Model.ensures) in
    let given = c.model_at.ensures in
    let all = ap length given.body ∙ body_length map at c.in-Ok-Model.id c.in-Ok-Model.length h in
    record {
      address = given.address;
      header = h ∙ ap (λ n. model n c.in-Ok-Model.length) (sym given.id) ∙ ap (model c.model_at.result.id) (sym all);
      body = given.body ∙ ap (λ n. take n (drop (at + 2) map)) (sym all);
      same_map = refl;
      next = omega (arith, c.body_address-self.ensures, c.from.ensures, all);
    }

pub model_at-requires : goal.model_at-requires
model_at-requires c =
    let h = sym (rw c.in-Ok-Model.field-0-is at c.in-Ok-Model.ensures) in
    let ends = model_ends (nat_eq c.args.self.now.at 2) c.args.self.now.map.now c.args.self.now.at h in
    (omega (arith, ends), c.requires.short)

pub returns-clause-goes : goal.returns-clause-goes
returns-clause-goes c =
    let map = c.args.self.now.map.now in
    let at = c.args.self.now.at in
    let h = sym (rw c.in-Ok-Model.field-0-is at c.in-Ok-Model.ensures) in
    let ends = model_ends (nat_eq at 2) map at h in
    let after : Models = record { map = c.args.self.now.map; at = c.body_address-self.result } in
    let can : CanWalk after = record {
      low = omega (arith, c.body_address-self.ensures);
      high = omega (arith, c.body_address-self.ensures, c.from.ensures, ends, c.requires.short);
      short = c.requires.short;
    } in
    record {
      on = λ f. (can, tt, omega (arith, c.body_address-self.ensures, c.from.ensures, ends));
      keeps = can;
      rests = λ f. tt;
    }
