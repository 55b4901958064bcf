-- Paths: the instance numbers that lead to a point.
use Rattle.std.specs.Prelude.{Bool, true, false, ◌&&◌, List, [], ◌∷◌, ℕ, zero, suc, eqb, get_or}
use Rattle.lists.specs.Members.{among}
use Rattle.model_definitions.specs.Definitions.{Groups, no_group, group, point_frames, group_frames}
use Rattle.model_definitions.specs.Soundness.{numbers_of}
use Rattle.layout.specs.Points.{ModelPoint}

-- The number of instance numbers that lead to the point `number`: 0 if none of these groups has it, as for a point of the top
-- group.
unfoldable pub depth_in : ℕ → Groups → ℕ
depth_in number no_group = 0
depth_in number (group h ps inside following) =
    elim (among number (numbers_of (point_frames ps))) [
      | true ↦ 1
      | false ↦ elim (among number (numbers_of (group_frames inside))) [
        | true ↦ suc (depth_in number inside)
        | false ↦ depth_in number following
      ]
    ]

-- Do two paths agree in their first n numbers, as far as both go? (A path has three.)
abbrev pub agree_to : ℕ → List ℕ → List ℕ → Bool
agree_to zero xs ys = true
agree_to (suc n) [] ys = true
agree_to (suc n) (x ∷ xs) [] = true
agree_to (suc n) (x ∷ xs) (y ∷ ys) = eqb x y && agree_to n xs ys

-- The path of a point: its instance numbers at levels 2, 3 and 4.
abbrev pub path_of : ModelPoint → List ℕ
path_of p = p.level2 ∷ p.level3 ∷ p.level4 ∷ []

-- Does a point have the instance numbers of `path` at levels 2, 3 and 4? (At a level that it lacks, a point has 0.)
abbrev pub is_at : List ℕ → ModelPoint → Bool
is_at path p = eqb p.level2 (get_or path 0 0) && (eqb p.level3 (get_or path 1 0) && eqb p.level4 (get_or path 2 0))

-- Is it the point `number` with the instance path `path`?
abbrev pub is_point : ℕ → List ℕ → ModelPoint → Bool
is_point number path p = eqb p.definition.number number && is_at path p
