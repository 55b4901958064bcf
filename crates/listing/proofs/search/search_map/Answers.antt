-- `listing::search::search_map` meets its contract: the model with the index decides.
use Rattle.std.proofs.Common.{ap, ◌∙◌}
use Rattle.std.specs.Prelude.{Ok}
use Rattle.model_definitions.specs.Definitions.{definitions}
use Rattle.layout.specs.Reading.{reading}
use Rattle.listing.specs.CodeTypes.{to_spec_finding}
use Rattle.listing.proofs.MapSearch.{no_model, model_found}
use Rattle.listing.proofs.search.search_map.Goals as goal

pub returns-in_err-found : goal.returns-in_err-found
returns-in_err-found c =
    let v = c.args in
    let map = v.plant.now.map.now in
    let ran = c.in_err-found.ensures.ran in
    ap (λ o. to_spec_finding (Ok o)) c.from_residual.ensures
    ∙ no_model (reading (definitions v.plant.now.catalog.words.now)) map v.model v.key.number v.key.path.instances
    c.new.ensures.starts_at c.requires ran.0 ran.1 ran.2

pub returns : goal.returns
returns c =
    let v = c.args in
    let map = v.plant.now.map.now in
    let ran = c.in_ok-found.ensures.ran in
    c.search_model.ensures
    ∙ model_found (reading (definitions v.plant.now.catalog.words.now)) map v.model v.key.number v.key.path.instances
    c.new.ensures.starts_at c.requires ran.0 ran.1 ran.2
