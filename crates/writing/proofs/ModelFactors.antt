-- The scale factors of one model: a point that takes its scale from a point has a scale factor among the model's points, and its
-- status and scale are those that the raw value of that point gives.
use mathlib.Core.Path.{◌≡◌, refl, sym, ap, subst, ◌∙◌}
use mathlib.Core.Bool.{Bool, true, false, ◌&&◌, ◌||◌}
use mathlib.Core.List.{List, [], ◌∷◌}
use Prim.Native.Nat.{ℕ, zero, suc, ◌+◌, ◌≤◌}
use native.Mathlib.Omega.{arith}
use borrow.Author.Tests.{eqb-true, eq-eqb}
use lib.Dec.{eqb}
use lib.ListN.{length, take, drop, get_or}
use lib.Seq.{drop-cons}
use Rattle.lists.specs.Each.{Each}
use Rattle.lists.specs.Members.{among, In}
use Rattle.lists.proofs.TestOutcomes.{both, clash}
use Rattle.lists.proofs.InLaws.{all_in, in_append_left, in_either}
use Rattle.lists.proofs.EachLaws.{each_one, each_parts}
use Rattle.lists.proofs.PairwiseLaws.{each_first}
use Rattle.registers.specs.Registers.{join, shown_raw}
use Rattle.registers.proofs.Joining.{shown}
use Rattle.point_types.specs.Rows.{may_scale}
use Rattle.catalog_frames.specs.Frames.{Point, scale_by_point, sunssf}
use Rattle.frame_rules.specs.FrameTests.{is_size_of}
use Rattle.model_definitions.specs.Definitions.{Content, Definition, points_size, point_frames}
use Rattle.model_definitions.specs.Soundness.{numbers_of, SoundPoint, SoundDefinition, ScaleResolves}
use Rattle.model_definitions.proofs.References.{points_resolve}
use Rattle.model_definitions.proofs.GroupNumbers.{point_among}
use Rattle.layout.specs.Points.{ModelPoint, Scope, registers_at, point_at}
use Rattle.layout.specs.Layout.{with_point, within, nothing, top_scope, counts_of, no_instance, points_at, groups_at, content_at}
use Rattle.layout.specs.Reading.{points, all_but_last, pad_left_out, read_by}
use Rattle.layout.specs.Tiling.{lower_points, defined_points}
use Rattle.layout.specs.Paths.{depth_in, agree_to, path_of}
use Rattle.layout.proofs.OnePoint.{one_point_lem}
use Rattle.layout.proofs.LeftOutPad.{each_but_last, left_out}
use Rattle.layout.proofs.Readings.{resolves_left, points_left, by_reading}
use Rattle.layout.proofs.ListedPoints.{all_sized}
use Rattle.layout.proofs.ScopeOnly.{shown_as}
use Rattle.layout.proofs.Places.{Place}
use Rattle.layout.proofs.PointPlaces.{in_but_last, point_defined, point_inside, point_reads, point_places}
use Rattle.layout.proofs.Depths.{levels, agree_itself, agree_beyond}
use Rattle.writing.specs.AfterWriting.{is_scale_factor_of, rescaled}
use Rattle.writing.proofs.ScaledTypes as types
use Rattle.writing.proofs.PairedWalk.{in_scope, Enters, Deeper, Related, points_paired, content_paired}

-- ---- General laws

-- Paths of the same length that agree with a third one agree with each other.
agree_both : (n : ℕ) (xs ys zs : List ℕ) → length xs ≡ length zs → length ys ≡ length zs → agree_to n xs zs ≡ true
    → agree_to n ys zs ≡ true → agree_to n xs ys ≡ true
agree_both zero xs ys zs l m e f = refl
agree_both (suc n) [] ys zs l m e f = refl
agree_both (suc n) (x ∷ xs) [] zs l m e f = refl
agree_both (suc n) (x ∷ xs) (y ∷ ys) [] l m e f = absurd (omega (arith, l))
agree_both (suc n) (x ∷ xs) (y ∷ ys) (z ∷ zs) l m e f =
    let a = both (eqb x z) (agree_to n xs zs) e in
    let b = both (eqb y z) (agree_to n ys zs) f in
    let same : x ≡ y = eqb-true x z a.0 ∙ sym (eqb-true y z b.0) in
    rw (eq-eqb x y same) (agree_both n xs ys zs (omega arith) (omega arith) a.1 b.1)

-- The raw value of one register is that register.
one_register : (body : List ℕ) (a : ℕ) → a + 1 ≤ length body → shown_raw (take 1 (drop a body)) ≡ get_or body a 0
unfolding shown_raw join
one_register body a h = rw (drop-cons body a 0 (omega arith)) (omega arith)

-- A point with the number that another one names, in the same instance or in one around it, is its scale factor.
is_factor : (top : Content) (m p : ModelPoint) → p.definition.scale_kind ≡ scale_by_point
    → m.definition.number ≡ p.definition.scale
    → agree_to (depth_in p.definition.scale top.groups) (path_of m) (path_of p) ≡ true → is_scale_factor_of top m p ≡ true
is_factor top m p k number agrees =
    simp (
      eq-eqb p.definition.scale_kind scale_by_point k,
      eq-eqb p.definition.scale m.definition.number (sym number),
      subst (λ (n : ℕ). agree_to (depth_in n top.groups) (path_of m) (path_of p) ≡ true) (sym number) agrees,
    )

-- What `is_scale_factor_of top m p` says: p names the number of m, and m is in the same instance or in one around it.
record Names (top : Content) (m p : ModelPoint) : Type 0 where
  kind : p.definition.scale_kind ≡ scale_by_point
  number : p.definition.scale ≡ m.definition.number
  agrees : agree_to (depth_in m.definition.number top.groups) (path_of m) (path_of p) ≡ true

-- The three facts by the test.
factor_names : (top : Content) (m p : ModelPoint) → is_scale_factor_of top m p ≡ true → Names top m p
factor_names top m p e =
    let named = eqb p.definition.scale m.definition.number in
    let agreed = agree_to (depth_in m.definition.number top.groups) (path_of m) (path_of p) in
    let a = both (eqb p.definition.scale_kind scale_by_point) (named && agreed) e in
    let b = both named agreed a.1 in
    record {
      kind = eqb-true p.definition.scale_kind scale_by_point a.0;
      number = eqb-true p.definition.scale m.definition.number b.0;
      agrees = b.1;
    }

-- ---- One model

-- A register in scope under the number n, in an instance with a path, is the first one of a point of the model, which has that
-- number and is in the same instance or in one around it.
record Shown (top : Content) (body : List ℕ) (all : List ModelPoint) (n : ℕ) (path : List ℕ) (register : ℕ) : Type 0 where
  point : ModelPoint
  there : In point all
  number : point.definition.number ≡ n
  agrees : agree_to (depth_in n top.groups) (path_of point) (levels path) ≡ true
  holds : register ≡ get_or body point.offset 0

-- A point's scale factor: a sunssf point of the model, whose raw value gives the status and the scale.
pub record Factor (top : Content) (all : List ModelPoint) (p : ModelPoint) : Type 0 where
  pub point : ModelPoint
  pub there : In point all
  pub is : is_scale_factor_of top point p ≡ true
  pub code : point.definition.type_code ≡ sunssf
  pub may : may_scale p.definition.type_code ≡ true
  pub gives : p ≡ rescaled point.raw p

-- What a scale factor f of a point p is: a sunssf point other than p, without a scale, whose raw value gives p's status and scale.
pub record FactorOf (f p : ModelPoint) : Type 0 where
  pub code : f.definition.type_code ≡ sunssf
  pub other : f.offset ≡ p.offset → ⊥
  pub unscaled : f.definition.scale_kind ≡ scale_by_point → ⊥
  pub gives : p ≡ rescaled f.raw p

module _ (d : Definition) (sound : SoundDefinition d) (body : List ℕ) (all : List ModelPoint)
    (read : read_by d.id d.top body ≡ points all) where
  -- What is known of the scope at a place of the model.
  abbrev Visible : List Point → List ℕ → Scope → Scope → Type 0
  Visible visible path s t = (f : Point) → In f visible → Shown d.top body all f.number path (s f.number)

  -- A point of the model.
  abbrev Member : ModelPoint → Type 0
  Member p = In p all

  -- If a point takes its scale from a point, it has a scale factor.
  abbrev Scaled : ModelPoint → Type 0
  Scaled p = p.definition.scale_kind ≡ scale_by_point → Factor d.top all p

  -- This is so for the points of an instance,
  within_shown : (path : List ℕ) (u : Scope) (a : ℕ) (ps : List Point) → Each Member (points_at body (in_scope u path) a ps)
      → (s : Scope) (n : ℕ) → (among n (numbers_of (point_frames ps)) ≡ false → Shown d.top body all n path (s n))
      → Shown d.top body all n path (within body a ps s n)
  unfolding within points_at point_at
  within_shown path u a [] each s n h = h refl
  within_shown path u a (p ∷ ps) each s n h =
      within_shown path u (a + p.size) ps each.1 (with_point p.number (get_or body a 0) s) n
      (λ e. go (eqb n p.number) refl (among n (numbers_of (point_frames ps))) e h)
    where
      go : (b : Bool) → eqb n p.number ≡ b → (c : Bool) → c ≡ false
          → (b || c ≡ false → Shown d.top body all n path (s n))
          → Shown d.top body all n path (elim b [ true ↦ get_or body a 0 | false ↦ s n ])
      go true e c f g =
          record {
            point = point_at body (in_scope u path) a p;
            there = each.0;
            number = sym (eqb-true n p.number e);
            agrees = agree_itself (depth_in n d.top.groups) (levels path);
            holds = refl;
          }
      go false e c f g = g f

  -- with the points around it,
  enters : Enters body body Member Visible
  enters path a around ps enclosing sound s t each h f i =
      within_shown path (within body a ps s) a ps each s f.number
      (λ e. in_either f ps enclosing i (λ j. clash (sym (point_among f ps j) ∙ e)) (h f))

  -- and at one more instance number.
  deeper : Deeper d.top Visible
  deeper enclosing path at j s t shallow h f i =
      let x = h f i in
      record {
        point = x.point;
        there = x.there;
        number = x.number;
        agrees = agree_beyond (depth_in f.number d.top.groups) (path_of x.point) path at j (shallow f i) ∙ x.agrees;
        holds = x.holds;
      }

  -- A point of the model with the number of a sunssf point f of the definition is a sunssf point; its raw value is its register.
  factor_register : (f : Point) → In f (defined_points d) → f.type_code ≡ sunssf → (m : ModelPoint) → In m all
      → m.definition.number ≡ f.number
      → (m.definition.type_code ≡ sunssf) × (m.raw ≡ get_or body m.offset 0)
  factor_register f known code m there number =
      let own = point_defined d sound body all read m there in
      let same : m.definition ≡ f = one_point_lem d sound m.definition f own known number in
      let type : m.definition.type_code ≡ sunssf = ap (λ (x : Point). x.type_code) same ∙ code in
      let sized = each_one (λ p. is_size_of p.type_code p.size ≡ true) (defined_points d) (all_sized d sound) m.definition own in
      let one : m.definition.size ≡ 1 = types.scale_factor_size m.definition.size (rw type at sized) in
      let inside = point_inside d sound body all read m there in (
        type,
        point_reads d sound body all read m there ∙ ap (λ (n : ℕ). shown_raw (take n (drop m.offset body))) one
            ∙ one_register body m.offset (omega (arith, inside, one)),
      )

  -- The scale factor of the point at a place.
  point : Related (defined_points d) body body Member (λ p q. Scaled p) Visible
  unfolding point_at
  point s t path a around visible p sound_point resolves known h there k =
      let f = resolves k in
      let n = p.scale in
      let x : Shown d.top body all n path (s n) =
      subst (λ (n : ℕ). Shown d.top body all n path (s n)) f.2 (h f.0 f.1) in
      let m = x.point in
      let number = x.number in
      let r = factor_register f.0 (known f.0 f.1) f.3 m x.there (number ∙ sym f.2) in
      let rs = registers_at body a p in
      record {
        point = m;
        there = x.there;
        is = is_factor d.top m (point_at body (in_scope s path) a p) k number x.agrees;
        code = r.0;
        may = types.by_point_may around p sound_point k;
        gives = ap (λ (x : ℕ). shown_as path a p (join rs) (shown_raw rs) x) (x.holds ∙ sym r.1)
            ∙ ap (λ (x : ℕ). shown_as path a p x (shown_raw rs) m.raw) (sym (shown rs (types.by_point_few around p sound_point k body a)));
      }

  -- The points of a model whose last pad is left out,
  left_scaled : pad_left_out d.id d.top (length body) ≡ true → Each Member (points_left d.id d.top body)
      → Each Scaled (points_left d.id d.top body)
  left_scaled t members =
      let tops = d.top.points in
      let L = all_but_last tops in
      let S = top_scope L body in
      let each = each_but_last (SoundPoint tops) tops sound.points in
      let resolve = resolves_left tops L (left_out d.id d.top (length body) t).1
      (each_but_last (ScaleResolves tops) tops (points_resolve tops tops sound.points)) in
      let seen : Visible L no_instance S S = λ f i.
      within_shown no_instance S 0 L members nothing f.number (λ e. clash (sym (point_among f L i) ∙ e)) in
      let ps = points_left d.id d.top body in
      each_first Scaled ps ps (points_paired d.top (defined_points d) body body Member (λ p q. Scaled p) Visible enters deeper point
      no_instance 0 tops L L each resolve
      (λ p i. in_append_left p tops (lower_points d.top.groups) (in_but_last p tops i)) S S seen members)

  -- and those of a model that is read in full.
  full_scaled : Each Member (content_at d.top body) → Each Scaled (content_at d.top body)
  unfolding content_at
  full_scaled members =
      let tops = d.top.points in
      let S = top_scope tops body in
      let own = points_at body (in_scope S no_instance) 0 tops in
      let lower = groups_at body (counts_of d.top body) 2 (in_scope S no_instance) (points_size tops) d.top.groups in
      let parts = each_parts Member own lower members in
      let seen : Visible tops no_instance S S = λ f i.
      within_shown no_instance S 0 tops parts.0 nothing f.number (λ e. clash (sym (point_among f tops i) ∙ e)) in
      let ps = content_at d.top body in
      each_first Scaled ps ps (content_paired d sound body body Member (λ p q. Scaled p) Visible enters deeper point
      (counts_of d.top body) S S seen parts.0 parts.1)

  -- Each point of the model that takes its scale from a point has a scale factor.
  pub has_factor : (p : ModelPoint) → In p all → Scaled p
  has_factor =
      each_one Scaled all
      (by_reading d.id d.top body (λ ps. Each Member ps → Each Scaled ps) left_scaled (λ _ _. full_scaled) all read
      (all_in all))

  -- A point has one scale factor only.
  pub same_factor : (f g p : ModelPoint) → In f all → In g all → is_scale_factor_of d.top f p ≡ true
      → is_scale_factor_of d.top g p ≡ true → g ≡ f
  same_factor f g p i j e q =
      let a = factor_names d.top f p e in
      let b = factor_names d.top g p q in
      let number : g.definition.number ≡ f.definition.number = sym b.number ∙ a.number in
      let D : ℕ → ℕ = λ n. depth_in n d.top.groups in
      let agrees : agree_to (D f.definition.number) (path_of f) (path_of g) ≡ true =
      agree_both (D f.definition.number) (path_of f) (path_of g) (path_of p) refl refl a.agrees
      (subst (λ (n : ℕ). agree_to (D n) (path_of g) (path_of p) ≡ true) number b.agrees) in
      let place = each_one (Place d.top f) all (point_places d sound body all read f i) g j in
      place.same (place.found number agrees)

  -- Every scale factor f of p is a sunssf point other than p, without a scale, and gives p's status and scale.
  pub factor_of : (f p : ModelPoint) → In f all → In p all → is_scale_factor_of d.top f p ≡ true → FactorOf f p
  factor_of f p i j e =
      let x = has_factor p j (factor_names d.top f p e).kind in
      let same : x.point ≡ f = same_factor f x.point p i x.there e x.is in
      let code : f.definition.type_code ≡ sunssf = subst (λ (m : ModelPoint). m.definition.type_code ≡ sunssf) same x.code in
      let no : may_scale f.definition.type_code ≡ false = ap may_scale code ∙ types.scale_factor_unscaled in
      record {
        code = code;
        other = λ here.
            let place = each_one (Place d.top p) all (point_places d sound body all read p j) f i in
            let point : f ≡ p = place.same here in
            clash (sym (subst (λ (m : ModelPoint). may_scale m.definition.type_code ≡ true) (sym point) x.may) ∙ no);
        unscaled = λ k. clash (sym (has_factor f i k).may ∙ no);
        gives = subst (λ (m : ModelPoint). p ≡ rescaled m.raw p) same x.gives;
      }
