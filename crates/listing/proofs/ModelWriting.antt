-- Writing the records of a model: its top points, and then its groups.
use mathlib.Core.Path.{◌≡◌, sym, ap, subst, ◌∙◌}
use mathlib.Core.List.{List, ◌++◌, append-nil}
use Prim.Native.Nat.{ℕ, ◌+◌, ◌*◌, ◌≤◌, ◌<◌}
use native.Mathlib.Omega.{arith}
use lib.ListN.{length, get_or}
use Rattle.catalog_frames.specs.Frames.{Point}
use Rattle.model_definitions.specs.Definitions.{Groups, Content, points_size, definitions}
use Rattle.model_definitions.specs.Soundness.{ScaleResolves}
use Rattle.layout.specs.Layout.{count_of, groups_size, counts_of, points_at, groups_at, no_instance, top_instance, content_at}
use Rattle.layout.specs.Counts.{groups_points}
use Rattle.layout.specs.Reading.{Reading, points, all_but_last, read_by, reading}
use Rattle.layout.specs.PointTables.{scope_in, present_within}
use Rattle.layout.specs.InternalWalks.{content_from, Accepted, instance_in, AtGroups, points_of, HasPoints, Ready}
use Rattle.layout.proofs.Readings.{Full, HowRead, reading_left_out, full, resolves_left}
use Rattle.layout.proofs.FramePosition as position
use Rattle.layout.proofs.GroupDescent.{top_groups}
use Rattle.layout.proofs.PointCounts as point_counts
use Rattle.layout.proofs.LeftOutPad as pads
use Rattle.layout.proofs.Sizes.{points_sized}
use Rattle.listing.specs.Listing.{record_width}
use Rattle.listing.specs.InternalContracts.{written, RunAsks, AfterRun, GroupsAsk, AfterGroups}
use Rattle.listing.specs.declared.records.Visit.{Visit}
use Rattle.listing.specs.declared.records.Progress.{Progress}
use Rattle.listing.proofs.WrittenRecords as lists
use Rattle.listing.proofs.ReadyModels as model

-- ---- The model at a frame

module _ {ws : List ℕ} {id : ℕ} {body table : List ℕ} {first fill : ℕ} (visit : Visit) (records : ℕ) (out : List ℕ)
    (accepted : Accepted ws) (ready : Ready ws id body table first fill) (words : (k : ℕ) → get_or ws k 0 < 65536) where
  abbrev top : Content
  top = content_from ws first

  abbrev ps : List Point
  ps = top.points

  abbrev present : List Point
  present = present_within (length body) 0 ps

  abbrev read : Reading
  read = reading (definitions ws) (record { id = id; body = body })

  abbrev start : Progress
  start = record { records = records; offset = 0; frame = first }

  -- ---- What writing requires, and its results

  module _ (has : HasPoints read) (capacity : record_width * (records + length (points_of read)) ≤ length out) where
    -- What writing the top points requires.
    pub run_asks : RunAsks ws body out start present
    run_asks = go (read_by id top body) (model.read_here accepted ready words) (model.how accepted ready words has)
      where
        asks : points_size present ≤ length body → length present ≤ length (points_of read) → RunAsks ws body out start present
        asks inside few =
            record {
              parses = ready.parses;
              sized = points_sized ps ps (model.sound_points accepted ready words);
              inside = omega (arith, inside);
              capacity = omega (arith, few, capacity);
            }

        go : (r : Reading) → read ≡ r → HowRead id top body r → RunAsks ws body out start present
        go r q (reading_left_out e) =
            let l = pads.left_out id top (length body) e in
            let b = pads.present_but_pad ps id top (length body) (model.sound_points accepted ready words) e in
            let z = pads.without_pad ps ps (model.sound_points accepted ready words) l.1 in
            let n = ap (λ x. length (points_of x)) q
            ∙ point_counts.points_counted body (top_instance (all_but_last ps) body) 0 (all_but_last ps) in
            asks (omega (arith, ap points_size b, z, l.2)) (omega (arith, ap length b, n))
        go r q (full kept f) =
            let b = model.all_present accepted ready words f in
            let n = ap (λ x. length (points_of x)) q ∙ point_counts.content_counted top body in
            asks (omega (arith, ap points_size b, f.capacity)) (omega (arith, ap length b, n))

    -- If the top points fill the body, they are all points of the model.
    pub all_points : points_size present ≡ length body → points_at body (instance_in table no_instance) 0 present ≡ points_of read
    all_points e = go (read_by id top body) (model.read_here accepted ready words) (model.how accepted ready words has)
      where
        go : (r : Reading) → read ≡ r → HowRead id top body r → points_at body (instance_in table no_instance) 0 present ≡ points_of read
        go r q (reading_left_out h) =
            let l = pads.left_out id top (length body) h in
            model.same_points accepted ready words (all_but_last ps) (pads.present_but_pad ps id top (length body) (model.sound_points accepted ready words) h)
            (resolves_left ps (all_but_last ps) l.1 (pads.each_but_last (ScaleResolves ps) ps (model.resolved accepted ready words)))
            ∙ sym (ap points_of q)
        go r q (full kept f) =
            let z = ap points_size (model.all_present accepted ready words f) in
            let P = points_at body (top_instance ps body) 0 ps in
            model.same_points accepted ready words ps (model.all_present accepted ready words f) (model.resolved accepted ready words)
            ∙ sym (append-nil P)
            ∙ ap (λ xs. P ++ xs) (sym (model.no_lower accepted ready words f (omega (arith, z, e))))
            ∙ sym (model.content_parts top body)
            ∙ sym (ap points_of q)

    -- Otherwise the model is read in full.
    pub else_full : (points_size present ≡ length body → ⊥) → Full top body × (read ≡ points (content_at top body))
    else_full n = go (read_by id top body) (model.read_here accepted ready words) (model.how accepted ready words has)
      where
        go : (r : Reading) → read ≡ r → HowRead id top body r → Full top body × (read ≡ points (content_at top body))
        go r q (reading_left_out h) =
            let l = pads.left_out id top (length body) h in
            let b = pads.present_but_pad ps id top (length body) (model.sound_points accepted ready words) h in
            let z = pads.without_pad ps ps (model.sound_points accepted ready words) l.1 in
            absurd (n (omega (arith, ap points_size b, z, l.2)))
        go r q (full kept f) = (f, q)

    module _ {at₁ : Progress} (run : AfterRun start present at₁) (f : Full top body) (q : read ≡ points (content_at top body))
        {out₁ : List ℕ} (wrote : out₁ ≡ written visit records (points_at body (instance_in table no_instance) 0 present) out) where
      frame_there : at₁.frame ≡ first + length ps
      frame_there = run.frame ∙ ap (λ rs. first + length rs) (model.all_present accepted ready words f)

      groups_there : (content_from ws at₁.frame).groups ≡ top.groups
      groups_there = ap (λ k. (content_from ws k).groups) frame_there ∙ (position.after_run ws first ready.parses).1

      counted : length (points_of read) ≡ length ps + groups_points (counts_of top body) top.groups
      counted = ap (λ x. length (points_of x)) q ∙ point_counts.content_counted top body

      -- What writing the groups requires.
      pub groups_ask : GroupsAsk ws body table out₁ fill 3 at₁
      groups_ask =
          let b = model.all_present accepted ready words f in
          let o = lists.written_length visit records (points_at body (instance_in table no_instance) 0 present) out in
          record {
            position = subst (λ k. AtGroups ws k 3) (sym frame_there)
                (top_groups ws id first accepted ready.parses ready.known);
            at_most3 = omega arith;
            inside = omega (
              arith,
              ap (groups_size (count_of (scope_in table) fill)) groups_there,
              model.lower_same accepted ready words f points_size,
              model.in_full accepted ready words f,
              run.offset,
              ap points_size b,
            );
            capacity = omega (
              arith,
              ap (groups_points (count_of (scope_in table) fill)) groups_there,
              model.lower_same accepted ready words f length,
              counted,
              capacity,
              run.records,
              ap length b,
              ap length wrote ∙ o,
            );
          }

      -- After the groups, the number of records and the list are those that the contract requires.
      pub records_after : {at₂ : Progress} → AfterGroups (content_from ws at₁.frame).groups (count_of (scope_in table) fill) at₁ at₂
          → at₂.records ≡ records + length (points_of read)
      records_after b =
          omega (
            arith,
            b.records,
            run.records,
            ap (groups_points (count_of (scope_in table) fill)) groups_there,
            model.lower_same accepted ready words f length,
            counted,
            ap length (model.all_present accepted ready words f),
          )

      pub list_after : {out₂ : List ℕ} → out₂
          ≡ written visit at₁.records
          (groups_at body (count_of (scope_in table) fill) 2 (instance_in table no_instance) at₁.offset
          (content_from ws at₁.frame).groups) out₁
          → out₂ ≡ written visit records (points_of read) out
      list_after e =
          let P = points_at body (top_instance ps body) 0 ps in
          let Q = groups_at body (counts_of top body) 2 (top_instance ps body) (points_size ps) top.groups in
          let W : ℕ → ℕ → Groups → List ℕ → List ℕ = λ r a g l.
          written visit r (groups_at body (count_of (scope_in table) fill) 2 (instance_in table no_instance) a g) l in
          let b = model.all_present accepted ready words f in
          let n = point_counts.points_counted body (top_instance ps body) 0 ps in
          let r : at₁.records ≡ records + length P = omega (arith, run.records, ap length b, n) in
          let a : at₁.offset ≡ points_size ps = omega (arith, run.offset, ap points_size b) in
          let o : out₁ ≡ written visit records P out =
          wrote ∙ ap (λ x. written visit records x out) (model.same_points accepted ready words ps b (model.resolved accepted ready words)) in
          e
          ∙ ap (λ x. W x at₁.offset (content_from ws at₁.frame).groups out₁) r
          ∙ ap (λ x. W (records + length P) x (content_from ws at₁.frame).groups out₁) a
          ∙ ap (λ x. W (records + length P) (points_size ps) x out₁) groups_there
          ∙ ap (W (records + length P) (points_size ps) top.groups) o
          ∙ ap (λ x. written visit (records + length P) x (written visit records P out)) (model.same_groups accepted ready words f (points_size ps))
          ∙ sym (lists.written_append visit records P Q out)
          ∙ ap (λ x. written visit records x out) (sym (model.content_parts top body) ∙ sym (ap points_of q))
