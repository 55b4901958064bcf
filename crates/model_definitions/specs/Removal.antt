-- Removing models from a catalog (document 01, "The map", on striking out): the frames of a model, its model frame first and the end
-- of its top group last, are removed.
use Rattle.std.specs.Prelude.{Bool, true, false, List, [], ◌∷◌, ℕ, zero, suc}
use Rattle.lists.specs.Tests.{kept_by}
use Rattle.catalog_frames.specs.Frames.{words_of_all}
use Rattle.model_definitions.specs.Definitions.{catalog_frames, definitions}

-- The catalog with only those of its models that `choice` keeps (model n is kept unless entry n is false).
unfoldable pub keeping : List Bool → List ℕ → List ℕ
keeping choice ws = words_of_all (catalog_frames (kept_by choice (definitions ws)))

-- The choice that removes model n, counted from 0, and no other.
abbrev pub all_but_one : ℕ → List Bool
all_but_one zero = false ∷ []
all_but_one (suc n) = true ∷ all_but_one n
