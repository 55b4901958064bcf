-- A model whose length is not under its top points and whose count points are implemented: the capped sizes and numbers of points
-- give the same 29, number of points and fill count as the exact ones of the definition.
use mathlib.Core.Path.{◌≡◌, refl, sym, ap, subst, ◌∙◌}
use mathlib.Core.Bool.{Bool, true, false, ◌&&◌}
use mathlib.Core.List.{List, ◌++◌}
use mathlib.Core.Option.{Option, none, some}
use Prim.Native.Nat.{ℕ, suc, min, ◌+◌, ◌*◌, ◌-◌, ◌/◌, ◌%◌, ◌≤◌, ◌<◌}
use native.Mathlib.Decide.{dec_le}
use native.Mathlib.Nat.{zero-mul, div-eq_of_lt}
use native.Mathlib.Omega.{arith}
use borrow.Author.Tests.{eqb-true, eqb-false, le-ltb, lt-ltb, leb-true, leb-false}
use lib.Dec.{eqb, leb}
use lib.ListN.{length}
use Rattle.std.specs.Prelude as Std
use Rattle.refusals.specs.declared.Refusal.{Refusal}
use Rattle.lists.specs.Members.{In}
use Rattle.lists.proofs.TestOutcomes.{by_test}
use Rattle.catalog_frames.specs.Frames.{Point, Head, fill}
use Rattle.model_definitions.specs.Definitions.{Groups, no_group, group, Content, points_size}
use Rattle.model_definitions.specs.Soundness.{SoundGroups}
use Rattle.layout.specs.Points.{Scope}
use Rattle.layout.specs.Layout.{top_scope, count_of, fill_measured, groups_size, fill_size, count_unimplemented, fill_size_of, fits, fill_of, points_at, top_instance, content_at}
use Rattle.layout.specs.Counts.{groups_points, fill_points, or0}
use Rattle.layout.specs.Reading.{faulty, points, below_top_points, count_point_unimplemented, not_the_size, all_but_last, pad_left_out, read_full, read_by}
use Rattle.layout.specs.InternalWalks.{surveyed_refused, surveyed_points, surveyed, Ready}
use Rattle.layout.proofs.Sizes.{points_fit, fill_adds, fill_takes_registers}
use Rattle.layout.proofs.PointCounts.{points_counted, content_counted, groups_fit}
use Rattle.layout.proofs.Capping.{capped_remainder, capped_quotient}
use Rattle.layout.proofs.LeftOutPad.{but_one, left_out}
use Rattle.layout.proofs.CountsAgree.{measures_agree, fills_agree, unimplemented_agrees}
use Rattle.group_instances.specs.Fills.{filled}
use Rattle.group_instances.proofs.FillCounts as fills
use Rattle.listing.specs.InternalCodeTypes.{to_spec_known}
use Rattle.listing.specs.InternalContracts.{ExtentOf, surveyed_by, fitted_by, registers_or0, points_or0, KnownReadyBy}
use Rattle.definition_frames.specs.declared.runs.Run.{Run}
use Rattle.listing.specs.declared.extents.Extent.{Extent}
use Rattle.listing.specs.declared.surveys.Survey.{Survey}

-- An instance of the fill group has at most as many points as registers.
fill_fits : (count : Head → ℕ) (top enclosing : List Point) (level : ℕ) (g : Groups) → SoundGroups top enclosing level g
    → fill_points count g ≤ or0 (fill_size count g)
unfolding fill_measured
fill_fits count top enclosing level no_group e = omega arith
fill_fits count top enclosing level (group h ps inside following) e =
    go (eqb h.count_kind fill) (fill_fits count top enclosing level following e.4)
  where
    go : (b : Bool) → fill_points count following ≤ or0 (fill_size count following)
        → or0 (elim b [ true ↦ some (length ps + groups_points count inside) | false ↦ fill_measured length count following ])
        ≤ or0 (elim b [ true ↦ some (points_size ps + groups_size count inside) | false ↦ fill_size count following ])
    go true r =
        let p = points_fit (ps ++ enclosing) ps e.2 in
        let i = groups_fit count top (ps ++ enclosing) (suc level) inside e.3 in
        omega arith
    go false r = r

-- Two scopes that agree on the points of the top group give sound groups the same extent.
pub extent_agrees : (s s' : Scope) (top enclosing : List Point) (level : ℕ) (g : Groups) (r : Extent)
    → ((p : Point) → In p top → s p.number ≡ s' p.number) → SoundGroups top enclosing level g
    → ExtentOf s g r → ExtentOf s' g r
extent_agrees s s' top enclosing level g r agree e x =
    record {
      size = x.size ∙ ap (λ n. min n 65536) (measures_agree s s' top agree points_size 0 enclosing level g e);
      points = x.points ∙ ap (λ n. min n 65536) (measures_agree s s' top agree length 0 enclosing level g e);
      fill_size = x.fill_size ∙ ap (λ o. min (or0 o) 65536) (fills_agree s s' top agree points_size 0 enclosing level g e);
      fill_points = x.fill_points ∙ ap (λ o. min (or0 o) 65536) (fills_agree s s' top agree length 0 enclosing level g e);
      unimplemented = x.unimplemented ∙ unimplemented_agrees s s' top agree enclosing level g e;
    }

-- A survey that counts points, and 29.
abbrev pub counted : ℕ → ℕ → ℕ → Std.Result Survey Refusal
counted begin number count = Std.Ok (record { first = begin; points = number; fill = count })

abbrev pub no_fit : Std.Result Survey Refusal
no_fit = Std.Err Refusal.LengthNotSize

-- ---- By numbers: T and N are the registers and points of the top group, G and P those of the groups without a fill group, size
-- and Q those of an instance of the fill group, L is the length.

-- A model without a fill group.
fitted_rest : (first L T N G P : ℕ) (run : Run) (groups : Extent) → L ≤ 65535 → P ≤ G
    → run.size ≡ T → run.points ≡ N → groups.size.registers ≡ min G 65536 → groups.size.points ≡ min P 65536 → registers_or0 groups.fill ≡ 0
    → fitted_by first run groups L ≡ elim (eqb L (T + G)) [ true ↦ counted first (N + P) 0 | false ↦ no_fit ]
fitted_rest first L T N G P run groups short few t n g p z = go (eqb L (T + G)) refl
  where
    rest : ℕ
    rest = run.size + groups.size.registers

    size : ℕ
    size = registers_or0 groups.fill

    go : (b : Bool) → eqb L (T + G) ≡ b
        → fitted_by first run groups L ≡ elim b [ true ↦ counted first (N + P) 0 | false ↦ no_fit ]
    go true y =
        let v = eqb-true L (T + G) y in
        let k : run.points + groups.size.points + 0 * points_or0 groups.fill ≡ N + P = omega arith in
        ap (surveyed_by first run groups) (fills.rest_alone L rest size z (omega arith)) ∙ ap (λ m. counted first m 0) k
    go false y =
        let v = eqb-false L (T + G) y in
        ap (surveyed_by first run groups) (none_fits (dec_le rest L) (λ q. v (omega arith)))
      where
        none_fits : Dec (rest ≤ L) → (L ≡ rest → ⊥) → filled L rest size ≡ none
        none_fits (yes h) r = fills.more_than_the_rest L rest size z r h
        none_fits (no h) r = fills.too_short L rest size (omega arith)

-- The points of all instances of the fill group: capped sizes give the same number as exact ones.
filled_points : (l size Q : ℕ) → l ≤ 65535 → Q ≤ size → l / min size 65536 * min Q 65536 ≡ l / size * Q
filled_points l size Q short few = go (dec_le size 65536)
  where
    same : l / min size 65536 ≡ l / size
    same = capped_quotient 65536 l (omega arith) size

    go : Dec (size ≤ 65536) → l / min size 65536 * min Q 65536 ≡ l / size * Q
    go (yes h) = let e : min Q 65536 ≡ Q = omega arith in rw (same, e)
    go (no h) =
        let none_fits : l < size = omega arith in
        rw (same, div-eq_of_lt none_fits) (omega (arith, zero-mul (min Q 65536), zero-mul Q))

-- Of l registers for the fill group: the capped size gives the same remainder and the same number of instances as the exact one.
module _ (l size fs : ℕ) (short : l ≤ 65535) (z : fs ≡ min size 65536) where
  left_over : l % fs ≡ l % size
  left_over = ap (λ n. l % n) z ∙ capped_remainder 65536 l (omega arith) size

  often : l / fs ≡ l / size
  often = ap (λ n. l / n) z ∙ capped_quotient 65536 l (omega arith) size

  often_points : (Q fp : ℕ) → fp ≡ min Q 65536 → Q ≤ size → l / fs * fp ≡ l / size * Q
  often_points Q fp q few =
      ap (λ n. l / n * fp) z ∙ ap (λ n. l / min size 65536 * n) q ∙ filled_points l size Q short few

-- The number of points and the fill count if the remainder is 0, else 29.
by_remainder : (first over often : ℕ) (run : Run) (groups : Extent)
    → surveyed_by first run groups (elim (eqb over 0) [ true ↦ some often | false ↦ none ])
    ≡ elim (eqb over 0) [
      | true ↦ counted first (run.points + groups.size.points + often * points_or0 groups.fill) often
      | false ↦ no_fit
    ]
by_remainder first over often run groups = go (eqb over 0)
  where
    go : (b : Bool) → surveyed_by first run groups (elim b [ true ↦ some often | false ↦ none ])
        ≡ elim b [
          | true ↦ counted first (run.points + groups.size.points + often * points_or0 groups.fill) often
          | false ↦ no_fit
        ]
    go true = refl
    go false = refl

same_survey : (first m n p q f g : ℕ) → m ≡ n → p ≡ q → f ≡ g
    → ◌≡◌ {A = Std.Result Survey Refusal} (elim (eqb m 0) [ true ↦ counted first p f | false ↦ no_fit ])
    (elim (eqb n 0) [ true ↦ counted first q g | false ↦ no_fit ])
same_survey first m n p q f g a b c k =
    elim (eqb (a k) 0) [ true ↦ counted first (b k) (c k) | false ↦ no_fit ]

-- A model with a fill group.
fitted_fill : (first L T N G P size Q : ℕ) (run : Run) (groups : Extent) → L ≤ 65535 → P ≤ G → 1 ≤ size → Q ≤ size
    → run.size ≡ T → run.points ≡ N → groups.size.registers ≡ min G 65536 → groups.size.points ≡ min P 65536
    → registers_or0 groups.fill ≡ min size 65536 → points_or0 groups.fill ≡ min Q 65536
    → fitted_by first run groups L
    ≡ elim (leb (T + G) L && eqb ((L - (T + G)) % size) 0) [
      | true ↦ counted first (N + (P + (L - (T + G)) / size * Q)) ((L - (T + G)) / size)
      | false ↦ no_fit
    ]
fitted_fill first L T N G P size Q run groups short few one fewer t n g p z q = go (leb (T + G) L) refl
  where
    rest : ℕ
    rest = run.size + groups.size.registers

    all : ℕ
    all = run.points + groups.size.points

    left : ℕ
    left = L - (T + G)

    right : Bool → Std.Result Survey Refusal
    right b =
        elim b [ true ↦ counted first (N + (P + left / size * Q)) (left / size) | false ↦ no_fit ]

    go : (a : Bool) → leb (T + G) L ≡ a
        → fitted_by first run groups L ≡ right (a && eqb (left % size) 0)
    go true e =
        let l = leb-true (T + G) L e in
        let r : rest ≤ L = omega arith in
        let nonzero : registers_or0 groups.fill ≡ 0 → ⊥ = λ y. omega arith in
        let d : L - rest ≡ left = omega arith in
        let small : L - rest ≤ 65535 = omega arith in
        let fs = registers_or0 groups.fill in
        let a = left_over (L - rest) size fs small z ∙ ap (λ k. k % size) d in
        let b = often (L - rest) size fs small z ∙ ap (λ k. k / size) d in
        let w = often_points (L - rest) size fs small z Q (points_or0 groups.fill) q fewer ∙ ap (λ k. k / size * Q) d in
        let x : all + (L - rest) / fs * points_or0 groups.fill ≡ N + (P + left / size * Q) = omega arith in
        ap (surveyed_by first run groups) (fills.by_remainder L rest fs nonzero r)
        ∙ by_remainder first ((L - rest) % fs) ((L - rest) / fs) run groups
        ∙ same_survey first ((L - rest) % fs) (left % size) (all + (L - rest) / fs * points_or0 groups.fill)
        (N + (P + left / size * Q)) ((L - rest) / fs) (left / size) a x b
    go false e =
        let l = leb-false (T + G) L e in
        let r : L < rest = omega arith in
        ap (surveyed_by first run groups) (fills.too_short L rest (registers_or0 groups.fill) r)

-- ---- By the definition

module _ (first : ℕ) (run : Run) (groups : Extent) (c : Content) (body : List ℕ) (short : length body ≤ 65535)
    (sound : SoundGroups c.points c.points 2 c.groups)
    (registers : run.size ≡ points_size c.points) (number : run.points ≡ length c.points)
    (extent : ExtentOf (top_scope c.points body) c.groups groups) where
  -- 29, or the number of points and the fill count.
  pub fitted_by_definition : fitted_by first run groups (length body)
      ≡ elim (fits c body) [
        | true ↦ counted first (length (content_at c body)) (fill_of c body)
        | false ↦ no_fit
      ]
  unfolding fits fill_of
  fitted_by_definition = go (fill_size_of c body) refl all_points
    where
      s : Scope
      s = top_scope c.points body

      T : ℕ
      T = points_size c.points

      N : ℕ
      N = length c.points

      G : ℕ
      G = groups_size (count_of s 0) c.groups

      P : ℕ
      P = groups_points (count_of s 0) c.groups

      Q : ℕ
      Q = fill_points (count_of s 0) c.groups

      L : ℕ
      L = length body

      few : P ≤ G
      few = groups_fit (count_of s 0) c.points c.points 2 c.groups sound

      all_points : length (content_at c body) ≡ N + (P + fill_of c body * Q)
      all_points =
          content_counted c body
          ∙ ap (λ k. N + k) (fill_adds length s (fill_of c body) c.points c.points c.groups sound)

      fits_by : Option ℕ → Bool
      fits_by o = elim o [ none ↦ eqb L (T + G) | some n ↦ leb (T + G) L && eqb ((L - (T + G)) % n) 0 ]

      fill_by : Option ℕ → ℕ
      fill_by o = elim o [ none ↦ 0 | some n ↦ (L - (T + G)) / n ]

      result : Bool → ℕ → ℕ → Std.Result Survey Refusal
      result b k f = elim b [ true ↦ counted first k f | false ↦ no_fit ]

      go : (o : Option ℕ) → fill_size_of c body ≡ o → length (content_at c body) ≡ N + (P + fill_by o * Q)
          → fitted_by first run groups L ≡ result (fits_by o) (length (content_at c body)) (fill_by o)
      go none e k =
          let z : registers_or0 groups.fill ≡ 0 = extent.fill_size ∙ ap (λ o. min (or0 o) 65536) e in
          let m : N + P ≡ length (content_at c body) = omega arith in
          fitted_rest first L T N G P run groups short few registers number extent.size extent.points z
          ∙ ap (λ n. result (eqb L (T + G)) n 0) m
      go (some n) e k =
          let z : registers_or0 groups.fill ≡ min n 65536 = extent.fill_size ∙ ap (λ o. min (or0 o) 65536) e in
          let one = fill_takes_registers (count_of s 0) c.points c.points 2 c.groups sound n e in
          let fits_in = fill_fits (count_of s 0) c.points c.points 2 c.groups sound in
          let same : or0 (fill_size_of c body) ≡ n = ap or0 e in
          let fewer : Q ≤ n = omega arith in
          fitted_fill first L T N G P n Q run groups short few one fewer registers number extent.size extent.points z
          extent.fill_points
          ∙ ap (λ x. result (leb (T + G) L && eqb ((L - (T + G)) % n) 0) x ((L - (T + G)) / n)) (sym k)

-- ---- The survey of a model

module _ (id : ℕ) (c : Content) (body : List ℕ) where
  -- A model whose pad is left out: the number of its points without the pad.
  pub pad_surveyed : pad_left_out id c (length body) ≡ true
      → surveyed_points (length c.points - 1) ≡ surveyed (read_by id c body)
  unfolding read_by
  pad_surveyed e =
      let l = left_out id c (length body) e in
      let b = but_one c.points l.1 in
      let p = points_counted body (top_instance (all_but_last c.points) body) 0 (all_but_last c.points) in
      let k : length c.points - 1
      ≡ length (points_at body (top_instance (all_but_last c.points) body) 0 (all_but_last c.points)) =
      omega (arith, b, p) in
      rw (e, read_by) (ap surveyed_points k)

  module _ (kept : pad_left_out id c (length body) ≡ false) where
    -- Any other model is read in full.
    whole : read_by id c body ≡ read_full c body
    unfolding read_by
    whole = rw (kept, read_by)

    -- 27, if the length is under the top points.
    pub below_surveyed : length body < points_size c.points → surveyed_refused 27 ≡ surveyed (read_by id c body)
    unfolding read_full
    below_surveyed l =
        let e : read_full c body ≡ faulty below_top_points = rw (lt-ltb (length body) (points_size c.points) l, read_full) in
        sym (ap surveyed (whole ∙ e))

    module _ (long : points_size c.points ≤ length body) where
      -- 28, if a count point is unimplemented.
      pub unimplemented_surveyed : count_unimplemented (top_scope c.points body) c.groups ≡ true
          → surveyed_refused 28 ≡ surveyed (read_by id c body)
      unfolding read_full
      unimplemented_surveyed u =
          let e : read_full c body ≡ faulty count_point_unimplemented =
          rw (le-ltb (length body) (points_size c.points) long, read_full) (rw u) in
          sym (ap surveyed (whole ∙ e))

      -- Otherwise 29 or the number of points.
      pub fits_surveyed : (r : Std.Result Survey Refusal) (first : ℕ) → count_unimplemented (top_scope c.points body) c.groups ≡ false
          → r ≡ elim (fits c body) [
            | true ↦ counted first (length (content_at c body)) (fill_of c body)
            | false ↦ no_fit
          ]
          → to_spec_known r ≡ surveyed (read_by id c body)
      unfolding read_full
      fits_surveyed r first u q =
          let e : read_full c body ≡ elim (fits c body) [ false ↦ faulty not_the_size | true ↦ points (content_at c body) ] =
          rw (le-ltb (length body) (points_size c.points) long, read_full) (rw u) in
          ap to_spec_known q ∙ go (fits c body) ∙ sym (ap surveyed (whole ∙ e))
        where
          go : (b : Bool)
              → to_spec_known (elim b [
                | true ↦ counted first (length (content_at c body)) (fill_of c body)
                | false ↦ no_fit
              ])
              ≡ surveyed (elim b [ false ↦ faulty not_the_size | true ↦ points (content_at c body) ])
          go true = refl
          go false = refl

-- If the survey counts points, the definition and the table are ready for writing records.
pub ready_by : (ws : List ℕ) (id : ℕ) (body table : List ℕ) (first number f : ℕ) (b : Bool) (r : Std.Result Survey Refusal)
    → r ≡ elim b [ true ↦ counted first number f | false ↦ no_fit ] → Ready ws id body table first f
    → KnownReadyBy ws id body table r
ready_by ws id body table first number f b r q h =
    subst (KnownReadyBy ws id body table) (sym q) (by_test (KnownReadyBy ws id body table) b (λ t. h) (λ t. tt))
