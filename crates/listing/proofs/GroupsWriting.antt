-- Writing the records of groups, instance by instance: what remains to be written from instance j of the first group on.
use mathlib.Core.Path.{◌≡◌, refl, sym, ap, subst, ◌∙◌}
use mathlib.Core.Bool.{true, false}
use mathlib.Core.List.{List, [], ◌∷◌, ◌++◌, append_assoc}
use Prim.Native.Nat.{ℕ, suc, ◌+◌, ◌*◌, ◌-◌, ◌≤◌, ◌<◌}
use native.Mathlib.Omega.{arith}
use native.Mathlib.Numerals.{add-one}
use lib.Dec.{eqb}
use lib.ListN.{length, get_or, set, length-append}
use Rattle.lists.specs.Members.{among, In}
use Rattle.lists.proofs.TestLaws.{neither}
use Rattle.catalog_frames.specs.Frames.{Point, Head}
use Rattle.model_definitions.specs.Definitions.{Groups, no_group, group, points_size, point_frames, group_frames}
use Rattle.model_definitions.specs.Soundness.{numbers_of}
use Rattle.model_definitions.proofs.References.{points_resolve}
use Rattle.model_definitions.proofs.GroupNumbers.{none_of_parts, NoneOf}
use Rattle.layout.specs.Points.{ModelPoint, Scope, Instance}
use Rattle.layout.specs.Layout.{with_point, within, count_of, measured, groups_size, points_at, instances, entered, groups_by, groups_at}
use Rattle.layout.specs.Counts.{groups_points}
use Rattle.layout.specs.PointTables.{scope_in}
use Rattle.layout.specs.InternalWalks.{instance_in, AgreeExcept, IsTable}
use Rattle.layout.proofs.GroupDescent.{SoundBelow, beside}
use Rattle.layout.proofs.CountsAgree as counts
use Rattle.layout.proofs.ScopeOnly.{Agree, scope_agrees, Alike, alike_entered, groups_agree, points_agree}
use Rattle.layout.proofs.PointCounts as point_counts
use Rattle.listing.specs.InternalContracts.{written}
use Rattle.listing.specs.declared.records.Visit.{Visit}
use Rattle.listing.proofs.WrittenRecords as lists

-- ---- From an instance on

module _ (body : List ℕ) (count : Head → ℕ) (level : ℕ) (around : Instance) where
  -- The points of instance j of a group.
  abbrev pub instance_points : List Point → Groups → ℕ → ℕ → List ModelPoint
  instance_points ps inside j at =
      points_at body (entered body level j at ps around) at ps
      ++ groups_at body count (suc level) (entered body level j at ps around) (at + points_size ps) inside

  -- The points of groups from instance j of the first one on.
  abbrev pub from_instance : ℕ → ℕ → Groups → List ModelPoint
  from_instance j offset no_group = []
  from_instance j offset (group h ps inside following) =
      instances (count h - j) j offset (points_size ps + groups_size count inside) (instance_points ps inside)
      ++ groups_at body count level around (offset + (count h - j) * (points_size ps + groups_size count inside)) following

  -- All of them, from instance 0 on.
  from_first : (offset : ℕ) (g : Groups) → from_instance 0 offset g ≡ groups_at body count level around offset g
  unfolding groups_by
  from_first offset no_group = refl
  from_first offset (group h ps inside following) = let e : count h - 0 ≡ count h = omega arith in rw e

  -- One instance and those after it.
  from_next : (j offset : ℕ) (h : Head) (ps : List Point) (inside following : Groups) → j < count h
      → from_instance j offset (group h ps inside following)
      ≡ instance_points ps inside j offset
      ++ from_instance (j + 1) (offset + (points_size ps + groups_size count inside)) (group h ps inside following)
  unfolding instances
  from_next j offset h ps inside following l =
      let s = points_size ps + groups_size count inside in
      let m = count h - suc j in
      let e : count h - j ≡ suc m = omega arith in
      let o : offset + suc m * s ≡ offset + s + m * s = omega arith in
      let P : ℕ → Type 0 = λ k. from_instance j offset (group h ps inside following)
      ≡ instance_points ps inside j offset ++ from_instance k (offset + s) (group h ps inside following) in
      subst P (sym (add-one j)) (rw (e, o)
      (append_assoc (instance_points ps inside j offset) (instances m (suc j) (offset + s) s (instance_points ps inside))
      (groups_at body count level around (offset + s + m * s) following)))

  -- After the last instance come the groups after this one.
  from_last : (j offset : ℕ) (h : Head) (ps : List Point) (inside following : Groups) → count h ≤ j
      → from_instance j offset (group h ps inside following) ≡ from_instance 0 offset following
  unfolding instances
  from_last j offset h ps inside following l =
      let s = points_size ps + groups_size count inside in
      let e : count h - j ≡ 0 = omega arith in
      let o : offset + 0 * s ≡ offset = omega arith in
      rw (e, o) (sym (from_first offset following))

module _ (weight : List Point → ℕ) (count : Head → ℕ) where
  -- The registers or points (by `weight`) of groups from instance j of the first one on.
  abbrev pub measured_from : ℕ → Groups → ℕ
  measured_from j no_group = 0
  measured_from j (group h ps inside following) =
      (count h - j) * (weight ps + measured weight count inside) + measured weight count following

  measure_first : (g : Groups) → measured_from 0 g ≡ measured weight count g
  unfolding measured
  measure_first no_group = refl
  measure_first (group h ps inside following) = let e : count h - 0 ≡ count h = omega arith in rw e

  module _ (j : ℕ) (h : Head) (ps : List Point) (inside following : Groups) where
    pub measure_next : j < count h → measured_from j (group h ps inside following)
        ≡ weight ps + measured weight count inside + measured_from (j + 1) (group h ps inside following)
    measure_next l =
        let m = count h - (j + 1) in
        let e : count h - j ≡ suc m = omega arith in
        rw e (omega arith)

    measure_last : count h ≤ j → measured_from j (group h ps inside following) ≡ measured_from 0 following
    measure_last l = let e : count h - j ≡ 0 = omega arith in rw e (omega (arith, measure_first following))

-- ---- Scopes

-- Within an instance, the scope differs from the enclosing one only at the instance's own points.
within_except : (body : List ℕ) (offset : ℕ) (ps : List Point) (s : Scope) (n : ℕ)
    → among n (numbers_of (point_frames ps)) ≡ false → within body offset ps s n ≡ s n
unfolding within
within_except body offset [] s n e = refl
within_except body offset (p ∷ ps) s n e =
    let f = (neither (eqb n p.number) (among n (numbers_of (point_frames ps)))).0 e in
    within_except body (offset + p.size) ps (with_point p.number (get_or body offset 0) s) n f.1
    ∙ ap (λ b. elim b [ true ↦ get_or body offset 0 | false ↦ s n ]) f.0

-- ---- The state of the walk

-- The first group has at least j instances.
abbrev pub Passed : (Head → ℕ) → ℕ → Groups → Type 0
Passed count j no_group = Unit {0}
Passed count j (group h ps inside following) = j ≤ count h

none_passed : (count : Head → ℕ) (g : Groups) → Passed count 0 g
none_passed count no_group = tt
none_passed count (group h ps inside following) = omega arith

module _ (body : List ℕ) (visit : Visit) (fill level : ℕ) (path table₀ out₀ : List ℕ) (records₀ offset₀ : ℕ) (g₀ : Groups) where
  abbrev counting : Head → ℕ
  counting = count_of (scope_in table₀) fill

  -- The state of writing: the walk is at instance j of the first of the groups `g`, with `table` and `out`; it began at the groups
  -- `g₀` with table₀ and out₀. Writing what remains into `out` gives the list that the contract requires.
  pub record Writing (table out : List ℕ) (records offset j : ℕ) (g : Groups) : Type 0 where
    pub top : List Point
    pub enclosing : List Point
    pub sound : SoundBelow top enclosing level g
    pub agree : Agree enclosing (scope_in table) (scope_in table₀)
    pub passed : Passed counting j g
    pub left : written visit records (from_instance body counting level (instance_in table₀ path) j offset g) out
        ≡ written visit records₀ (groups_at body counting level (instance_in table₀ path) offset₀ g₀) out₀
    pub points : records + measured_from length counting j g ≡ records₀ + groups_points counting g₀
    pub size : offset + measured_from points_size counting j g ≡ offset₀ + groups_size counting g₀
    pub agree_except : AgreeExcept (numbers_of (group_frames g₀)) table₀ table
    pub among₀ : (n : ℕ) → among n (numbers_of (group_frames g₀)) ≡ false → among n (numbers_of (group_frames g)) ≡ false
    pub is_table : IsTable table
    pub same_length : length out ≡ length out₀

  -- The tables, lists and progress after writing the own points and then the groups of an instance.
  pub record InstanceWritten (table out : List ℕ) (records offset j : ℕ) (ps : List Point) (inside : Groups)
      (table₁ out₁ table₂ out₂ : List ℕ) (records₂ offset₂ : ℕ) : Type 0 where
    pub table_with : (n : ℕ) → scope_in table₁ n ≡ within body offset ps (scope_in table) n
    pub own : out₁ ≡ written visit records (points_at body (entered body level j offset ps (instance_in table path)) offset ps) out
    pub lower : out₂
        ≡ written visit (records + length ps)
        (groups_at body (count_of (scope_in table₁) fill) (suc level) (instance_in table₁ (set path (level - 2) j))
        (offset + points_size ps) inside)
        out₁
    pub counted : records₂ ≡ records + length ps + groups_points (count_of (scope_in table₁) fill) inside
    pub passed_on : offset₂ ≡ offset + points_size ps + groups_size (count_of (scope_in table₁) fill) inside
    pub agree_except : AgreeExcept (numbers_of (group_frames inside)) table₁ table₂
    pub is_table : IsTable table₂

  -- The state at the start.
  pub writing_begins : (top enclosing : List Point) → SoundBelow top enclosing level g₀ → IsTable table₀
      → Writing table₀ out₀ records₀ offset₀ 0 g₀
  writing_begins top enclosing s t =
      record {
        top = top;
        enclosing = enclosing;
        sound = s;
        agree = λ p i. refl;
        passed = none_passed counting g₀;
        left = ap (λ ps. written visit records₀ ps out₀) (from_first body counting level (instance_in table₀ path) offset₀ g₀);
        points = ap (λ n. records₀ + n) (measure_first length counting g₀);
        size = ap (λ n. offset₀ + n) (measure_first points_size counting g₀);
        agree_except = λ n e. refl;
        among₀ = λ n e. e;
        is_table = t;
        same_length = refl;
      }

-- No group is left: the list is the one that the contract requires.
pub writing_ends : {body : List ℕ} {visit : Visit} {fill level : ℕ} {path table₀ out₀ : List ℕ} {records₀ offset₀ : ℕ}
    {g₀ : Groups} {table out : List ℕ} {records offset j : ℕ}
    → Writing body visit fill level path table₀ out₀ records₀ offset₀ g₀ table out records offset j no_group
    → (out ≡ written visit records₀ (groups_at body (count_of (scope_in table₀) fill) level (instance_in table₀ path) offset₀ g₀) out₀)
    × (records ≡ records₀ + groups_points (count_of (scope_in table₀) fill) g₀)
    × (offset ≡ offset₀ + groups_size (count_of (scope_in table₀) fill) g₀)
writing_ends {visit = visit} {out = out} {records = records} w =
    (sym (lists.written_none visit records out) ∙ w.left, omega (arith, w.points), omega (arith, w.size))

-- ---- One step

-- Writing ps, then qs, then rs is writing all of them.
write_on : (visit : Visit) (records : ℕ) (ps qs rs : List ModelPoint) (out out₂ : List ℕ) (n m : ℕ)
    → length ps ≡ n → length qs ≡ m
    → out₂ ≡ written visit (records + n) qs (written visit records ps out)
    → written visit (records + n + m) rs out₂ ≡ written visit records ((ps ++ qs) ++ rs) out
write_on visit records ps qs rs out out₂ n m a b e =
    let k : records + length (ps ++ qs) ≡ records + n + m = omega (arith, length-append ps qs) in
    let f : written visit records (ps ++ qs) out ≡ out₂ =
    lists.written_append visit records ps qs out
    ∙ ap (λ x. written visit (records + x) qs (written visit records ps out)) a
    ∙ sym e in
    sym (lists.written_append visit records (ps ++ qs) rs out
    ∙ ap (λ x. written visit x rs (written visit records (ps ++ qs) out)) k
    ∙ ap (written visit (records + n + m) rs) f)

module _ {body : List ℕ} {visit : Visit} {fill level : ℕ} {path table₀ out₀ : List ℕ} {records₀ offset₀ : ℕ} {g₀ : Groups}
    {table out : List ℕ} {records offset j : ℕ} {h : Head} {ps : List Point} {inside following : Groups}
    (w : Writing body visit fill level path table₀ out₀ records₀ offset₀ g₀ table out records offset j
    (group h ps inside following)) where
  abbrev count : Head → ℕ
  count = count_of (scope_in table₀) fill

  abbrev State : List ℕ → List ℕ → ℕ → ℕ → ℕ → Groups → Type 0
  State = Writing body visit fill level path table₀ out₀ records₀ offset₀ g₀

  -- The number of an enclosing point is not used in the group or after it.
  none_own : (p : Point) → In p w.enclosing → NoneOf p.number ps inside following
  none_own p i = none_of_parts p.number h ps inside following (w.sound.apart p i)

  module _ (table₁ : List ℕ) (table_with : (n : ℕ) → scope_in table₁ n ≡ within body offset ps (scope_in table) n) where
    -- The table within the instance agrees with the scope there.
    agree_within : Agree (ps ++ w.enclosing) (scope_in table₁) (within body offset ps (scope_in table₀))
    agree_within p i =
        table_with p.number ∙ scope_agrees body offset ps w.enclosing (scope_in table) (scope_in table₀) w.agree p i

    -- It agrees with the table at the start on the points of the top group.
    agree_top : Agree w.top (scope_in table₁) (scope_in table₀)
    agree_top p i =
        let k = w.sound.top_in_scope p i in
        table_with p.number
        ∙ within_except body offset ps (scope_in table) p.number (none_own p k).of_points
        ∙ w.agree p k

    -- So the groups in the instance have the same sizes and numbers of points.
    pub lower_same : (weight : List Point → ℕ)
        → measured weight (count_of (scope_in table₁) fill) inside ≡ measured weight count inside
    lower_same weight =
        counts.measures_agree (scope_in table₁) (scope_in table₀) w.top agree_top weight fill (ps ++ w.enclosing) (suc level)
        inside w.sound.sound.3

  -- An instance has been written.
  pub writing_instance : j < count h
      → (table₁ out₁ table₂ out₂ : List ℕ) (records₂ offset₂ : ℕ)
      → InstanceWritten body visit fill level path table₀ out₀ records₀ offset₀ g₀ table out records offset j ps inside table₁ out₁
      table₂ out₂ records₂ offset₂
      → State table₂ out₂ records₂ offset₂ (j + 1) (group h ps inside following)
  unfolding entered
  writing_instance l table₁ out₁ table₂ out₂ records₂ offset₂ x =
      let G = group h ps inside following in
      let i₀ = instance_in table₀ path in
      let around = ps ++ w.enclosing in
      let within₀ = entered body level j offset ps i₀ in
      let inner : Alike around (instance_in table₁ (set path (level - 2) j)) within₀ =
      record { same_path = refl; agree = agree_within table₁ x.table_with } in
      let outer : Alike w.enclosing (instance_in table path) i₀ = record { same_path = refl; agree = w.agree } in
      let zs = lower_same table₁ x.table_with points_size in
      let zp = lower_same table₁ x.table_with length in
      let P = points_at body within₀ offset ps in
      let Q = groups_at body count (suc level) within₀ (offset + points_size ps) inside in
      let R = from_instance body count level i₀ (j + 1) (offset + (points_size ps + groups_size count inside)) G in
      let p : points_at body (entered body level j offset ps (instance_in table path)) offset ps ≡ P =
      points_agree body offset around ps (entered body level j offset ps (instance_in table path)) within₀
      (points_resolve around ps w.sound.sound.2)
      (alike_entered body level j offset ps w.enclosing (instance_in table path) i₀ outer) in
      let q : groups_at body (count_of (scope_in table₁) fill) (suc level) (instance_in table₁ (set path (level - 2) j))
      (offset + points_size ps) inside ≡ Q =
      groups_agree body fill w.top (scope_in table₁) (scope_in table₀) (agree_top table₁ x.table_with) (offset + points_size ps)
      around (suc level) inside w.sound.sound.3 (instance_in table₁ (set path (level - 2) j)) within₀ inner in
      let e : out₂ ≡ written visit (records + length ps) Q (written visit records P out) =
      x.lower ∙ ap (λ y. written visit (records + length ps) y out₁) q
      ∙ ap (written visit (records + length ps) Q) (x.own ∙ ap (λ y. written visit records y out) p) in
      let k₂ = records + length ps + groups_points count inside in
      let k : records₂ ≡ k₂ = omega (arith, x.counted, zp) in
      let o : offset₂ ≡ offset + (points_size ps + groups_size count inside) = omega (arith, x.passed_on, zs) in
      let W = write_on visit records P Q R out out₂ (length ps) (groups_points count inside)
      (point_counts.points_counted body within₀ offset ps)
      (point_counts.groups_counted (entered body) body count (suc level) within₀ (offset + points_size ps) inside) e in
      record {
        top = w.top;
        enclosing = w.enclosing;
        sound = w.sound;
        agree = λ p i.
            let n = none_of_parts p.number h ps inside following (w.sound.apart p i) in
            x.agree_except p.number n.of_inside
            ∙ x.table_with p.number
            ∙ within_except body offset ps (scope_in table) p.number n.of_points
            ∙ w.agree p i;
        passed = omega (arith, l);
        left = ap (λ y. written visit y (from_instance body count level i₀ (j + 1) offset₂ G) out₂) k
            ∙ ap (λ y. written visit k₂ (from_instance body count level i₀ (j + 1) y G) out₂) o
            ∙ W
            ∙ ap (λ y. written visit records y out) (sym (from_next body count level i₀ j offset h ps inside following l))
            ∙ w.left;
        points = omega (arith, k, w.points, measure_next length count j h ps inside following l);
        size = omega (arith, o, w.size, measure_next points_size count j h ps inside following l);
        agree_except = λ n f.
            let m = none_of_parts n h ps inside following (w.among₀ n f) in
            x.agree_except n m.of_inside
            ∙ x.table_with n
            ∙ within_except body offset ps (scope_in table) n m.of_points
            ∙ w.agree_except n f;
        among₀ = w.among₀;
        is_table = x.is_table;
        same_length = ap length e ∙ lists.written_length visit (records + length ps) Q (written visit records P out)
            ∙ lists.written_length visit records P out ∙ w.same_length;
      }

  -- All instances of the first group have been written: the state at the next group.
  pub writing_past : count h ≤ j → State table out records offset 0 following
  writing_past l =
      record {
        top = w.top;
        enclosing = w.enclosing;
        sound = beside w.top w.enclosing level h ps inside following w.sound;
        agree = w.agree;
        passed = none_passed count following;
        left = ap (λ y. written visit records y out)
            (sym (from_last body count level (instance_in table₀ path) j offset h ps inside following l))
            ∙ w.left;
        points = omega (arith, w.points, measure_last length count j h ps inside following l);
        size = omega (arith, w.size, measure_last points_size count j h ps inside following l);
        agree_except = w.agree_except;
        among₀ = λ n f. (none_of_parts n h ps inside following (w.among₀ n f)).of_following;
        is_table = w.is_table;
        same_length = w.same_length;
      }
