-- The layout of a model by its definition (document 01, "The map"): sizes, counts, and the offset of each point of each
-- instance.
use Rattle.std.specs.Prelude.{Bool, true, false, ◌&&◌, ◌||◌, List, [], ◌∷◌, ◌++◌, ℕ, zero, suc, ◌+◌, ◌*◌, ◌-◌, ◌/◌, ◌%◌, eqb, leb, length, get_or, set}
use Rattle.std.proofs.Math.Option.{Option, none, some}
use Rattle.catalog_frames.specs.Frames.{Point, Head, constant_count, count_by_point, fill}
use Rattle.model_definitions.specs.Definitions.{Groups, no_group, group, Content, points_size}
use Rattle.layout.specs.Points.{ModelPoint, Scope, Instance, point_at}

-- ---- Scopes

-- The scope with one more point: the point `number`, whose first register is `register`.
abbrev pub with_point : ℕ → ℕ → Scope → Scope
with_point number register scope n = elim (eqb n number) [ true ↦ register | false ↦ scope n ]

-- The scope inside an instance whose own points are placed from `offset`: these points, and the points in scope around the
-- instance. (In an accepted map every point is in the body: `proofs/BodyTiling.antt`.)
unfoldable pub within : List ℕ → ℕ → List Point → Scope → Scope
within body offset [] scope = scope
within body offset (p ∷ ps) scope =
    within body (offset + p.size) ps (with_point p.number (get_or body offset 0) scope)

-- The empty scope. (By an accepted catalog no result depends on a point out of scope: `proofs/ScopeOnly.antt`. 8000 is not a
-- scale factor.)
abbrev pub nothing : Scope
nothing n = 0x8000

-- The scope of the top group of a model.
abbrev pub top_scope : List Point → List ℕ → Scope
top_scope ps body = within body 0 ps nothing

-- ---- Sizes

-- The number of instances of a group: the constant; the raw value of the count point, in the top group of the same model
-- instance; or `filling`, the count of the fill group (an accepted catalog has no other count kind).
abbrev pub count_of : Scope → ℕ → Head → ℕ
count_of top filling h =
    elim (eqb h.count_kind constant_count) [
      | true ↦ h.count
      | false ↦ elim (eqb h.count_kind count_by_point) [ true ↦ top h.count | false ↦ filling ]
    ]

-- The total weight of sibling groups: for each group, count × the weight of an instance, which is its points and the groups in
-- it.
unfoldable pub measured : (List Point → ℕ) → (Head → ℕ) → Groups → ℕ
measured weight count no_group = 0
measured weight count (group h ps inside following) =
    count h * (weight ps + measured weight count inside) + measured weight count following

-- The weight of one instance of the fill group, if one of these groups is a fill group.
unfoldable pub fill_measured : (List Point → ℕ) → (Head → ℕ) → Groups → Option ℕ
fill_measured weight count no_group = none
fill_measured weight count (group h ps inside following) =
    elim (eqb h.count_kind fill) [
      | true ↦ some (weight ps + measured weight count inside)
      | false ↦ fill_measured weight count following
    ]

-- The registers of sibling groups: for each group, count × size, where the size is its points plus the groups in it.
abbrev pub groups_size : (Head → ℕ) → Groups → ℕ
groups_size = measured points_size

-- The size of one instance of the fill group, if one of these groups is a fill group.
abbrev pub fill_size : (Head → ℕ) → Groups → Option ℕ
fill_size = fill_measured points_size

-- 28: does the count point of one of these groups, or of a group nested in them, read FFFF?
unfoldable pub count_unimplemented : Scope → Groups → Bool
count_unimplemented top no_group = false
count_unimplemented top (group h ps inside following) =
    (eqb h.count_kind count_by_point && eqb (top h.count) 0xFFFF)
    || (count_unimplemented top inside || count_unimplemented top following)

-- The rest: the size of the model without the fill group.
abbrev pub rest_size : Content → List ℕ → ℕ
rest_size c body =
    points_size c.points + groups_size (count_of (top_scope c.points body) 0) c.groups

-- The size of one instance of the fill group, if the top group has one.
abbrev pub fill_size_of : Content → List ℕ → Option ℕ
fill_size_of c body = fill_size (count_of (top_scope c.points body) 0) c.groups

-- Does 29 not arise? The length is the size; with a fill group, the length is not below the rest and leaves no remainder. (An
-- instance of the fill group has at least one register: `proofs/Sizes.antt`.)
unfoldable pub fits : Content → List ℕ → Bool
fits c body =
    elim (fill_size_of c body) [
      | none ↦ eqb (length body) (rest_size c body)
      | some size ↦ leb (rest_size c body) (length body) && eqb ((length body - rest_size c body) % size) 0
    ]

-- The count of the fill group: (length − the rest) / size. 0 without a fill group.
unfoldable pub fill_of : Content → List ℕ → ℕ
fill_of c body = elim (fill_size_of c body) [ none ↦ 0 | some size ↦ (length body - rest_size c body) / size ]

-- The count of each group of a model with the top group `c` and this body.
abbrev pub counts_of : Content → List ℕ → Head → ℕ
counts_of c body = count_of (top_scope c.points body) (fill_of c body)

-- ---- Points

-- The points of instance `i` of a group, placed from `offset`.
unfoldable pub points_at : List ℕ → Instance → ℕ → List Point → List ModelPoint
points_at body i offset [] = []
points_at body i offset (p ∷ ps) = point_at body i offset p ∷ points_at body i (offset + p.size) ps

-- The points of n consecutive instances of `size` registers each, numbered from `j` and placed from `offset`. `one` gives the
-- points of one instance by its number and offset.
unfoldable pub instances : ℕ → ℕ → ℕ → ℕ → (ℕ → ℕ → List ModelPoint) → List ModelPoint
instances zero j offset size one = []
instances (suc n) j offset size one = one j offset ++ instances n (suc j) (offset + size) size one

-- How an instance is entered: its level, its number, its offset, its own points and the enclosing instance give the instance.
abbrev pub Entering : Type 0
Entering = ℕ → ℕ → ℕ → List Point → Instance → Instance

-- The points of sibling groups at `level`, placed from `offset`: the instances of each group in full, each with its own points
-- first. The offsets do not depend on `enter`.
unfoldable pub groups_by : Entering → List ℕ → (Head → ℕ) → ℕ → Instance → ℕ → Groups → List ModelPoint
groups_by enter body count level i offset no_group = []
groups_by enter body count level i offset (group h ps inside following) =
    instances (count h) 0 offset (points_size ps + groups_size count inside) (λ j at.
    points_at body (enter level j at ps i) at ps
    ++ groups_by enter body count (suc level) (enter level j at ps i) (at + points_size ps) inside)
    ++ groups_by enter body count level i (offset + count h * (points_size ps + groups_size count inside)) following

-- Inside an instance its own points are in scope, and j is the instance number at its level (place 0, 1 or 2 of the path for
-- level 2, 3 or 4).
unfoldable pub entered : List ℕ → Entering
entered body level j offset ps around =
    record { scope = within body offset ps around.scope; path = set around.path (level - 2) j }

-- The points of sibling groups at a level, placed from an offset.
abbrev pub groups_at : List ℕ → (Head → ℕ) → ℕ → Instance → ℕ → Groups → List ModelPoint
groups_at body = groups_by (entered body) body

-- The path of the top group: no instance numbers.
abbrev pub no_instance : List ℕ
no_instance = 0 ∷ 0 ∷ 0 ∷ []

-- The one instance of the top group of a model.
abbrev pub top_instance : List Point → List ℕ → Instance
top_instance ps body = record { scope = top_scope ps body; path = no_instance }

-- The points of a model: the points of its top group, then those of the groups in it.
unfoldable pub content_at : Content → List ℕ → List ModelPoint
content_at c body =
    points_at body (top_instance c.points body) 0 c.points
    ++ groups_at body (counts_of c body) 2 (top_instance c.points body) (points_size c.points) c.groups
