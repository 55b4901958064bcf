-- The location of a point with a given number and instance path, computed from the definition of its model.
use Rattle.std.specs.Prelude.{true, false, List, [], ◌∷◌, ℕ, suc, ◌+◌, ◌*◌, ◌-◌, eqb, ltb, get_or, drop}
use Rattle.std.proofs.Math.Option.{Option, none, some}
use Rattle.lists.specs.Tests.{first_with}
use Rattle.registers.specs.Registers.{all_zero}
use Rattle.catalog_frames.specs.Frames.{Point, Head}
use Rattle.model_definitions.specs.Definitions.{Groups, no_group, group, Content, points_size}
use Rattle.layout.specs.Points.{ModelPoint}
use Rattle.layout.specs.Layout.{groups_size}
use Rattle.layout.specs.Paths.{is_point}

-- The location of a point: its offset in the body, and its definition in the catalog.
pub record Located : Type 0 where
  pub offset : ℕ
  pub definition : Point

-- The location of a point of a model.
abbrev pub location_of : ModelPoint → Located
location_of p = record { offset = p.offset; definition = p.definition }

-- The location of the first of these points with this number and instance path.
abbrev pub first_location : ℕ → List ℕ → List ModelPoint → Option Located
first_location number path ps =
    elim (first_with (is_point number path) ps) [ none ↦ none | some p ↦ some (location_of p) ]

-- The first result, or `other` if the first is none.
abbrev pub or_else : Option Located → Option Located → Option Located
or_else none other = other
or_else (some found) other = some found

-- The location of the point `number` among points placed from `offset`.
unfoldable pub located_among : ℕ → ℕ → List Point → Option Located
located_among number offset [] = none
located_among number offset (p ∷ ps) =
    elim (eqb p.number number) [
      | true ↦ some (record { offset = offset; definition = p })
      | false ↦ located_among number (offset + p.size) ps
    ]

-- The location of the point `number` among the own points of an instance at `level` (the top group is level 1). They have
-- instance number 0 at each deeper level, so a path with another number there leads to none of them.
abbrev pub located_own : ℕ → List ℕ → ℕ → ℕ → List Point → Option Located
located_own number path level offset ps =
    elim (all_zero (drop (level - 1) path)) [ true ↦ located_among number offset ps | false ↦ none ]

-- The location of the point `number` with this path in sibling groups at `level`, placed from `offset`. Only the instance with
-- the path's number at this level can have it: among its own points, or in the groups in it.
unfoldable pub located_in : (Head → ℕ) → ℕ → List ℕ → ℕ → ℕ → Groups → Option Located
located_in count number path level offset no_group = none
located_in count number path level offset (group h ps inside following) =
    let size = points_size ps + groups_size count inside in
    let j = get_or path (level - 2) 0 in
    let start = offset + j * size in
    or_else
    (elim (ltb j (count h)) [
      | true ↦ or_else (located_own number path level start ps)
          (located_in count number path (suc level) (start + points_size ps) inside)
      | false ↦ none
    ])
    (located_in count number path level (offset + count h * size) following)

-- The location of the point `number` with this path in a model with the top group `c`.
abbrev pub located : (Head → ℕ) → ℕ → List ℕ → Content → Option Located
located count number path c =
    or_else (located_own number path 1 0 c.points) (located_in count number path 2 (points_size c.points) c.groups)
