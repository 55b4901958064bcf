-- The steps of the walk that writes groups, by the frame at which it is: into an instance, past a group, to the end.
use mathlib.Core.Path.{◌≡◌, sym, ap, subst, ◌∙◌}
use mathlib.Core.List.{List, [], ◌++◌}
use mathlib.Core.Option.{none, some}
use Prim.Native.Nat.{ℕ, suc, ◌+◌, ◌-◌, ◌≤◌, ◌<◌}
use native.Mathlib.Omega.{arith}
use lib.ListN.{length, get_or, set}
use Rattle.catalog_frames.specs.Frames.{Point, Head, frame_in}
use Rattle.model_definitions.specs.Definitions.{Groups, group, points_size, group_frames}
use Rattle.model_definitions.specs.Soundness.{numbers_of}
use Rattle.layout.specs.Points.{Scope}
use Rattle.layout.specs.Layout.{within, count_of, measured, groups_size, points_at, entered, groups_at}
use Rattle.layout.specs.Counts.{groups_points}
use Rattle.layout.specs.FrameWalk.{head_of}
use Rattle.layout.specs.PointTables.{scope_in, table_with}
use Rattle.layout.specs.InternalWalks.{content_from, ParsesAt, past_end, level_of, instance_in, AgreeExcept, IsTable}
use Rattle.layout.proofs.FramePosition as position
use Rattle.layout.proofs.GroupDescent.{SoundBelow, below, sound_below, position_at}
use Rattle.layout.proofs.CountsAgree as counts
use Rattle.layout.proofs.Sizes.{points_sized}
use Rattle.layout.proofs.RecordedPoints.{table_with_length, table_with_scope, numbers_in_table}
use Rattle.listing.specs.InternalContracts.{written, RunAsks, GroupsAsk, AfterRun, AfterGroups}
use Rattle.listing.specs.declared.records.Visit.{Visit}
use Rattle.listing.specs.declared.records.Progress.{Progress}
use Rattle.listing.proofs.WrittenRecords as lists
use Rattle.listing.proofs.GroupsWriting as writing
use Rattle.listing.proofs.GroupsWriting.{Writing}

module _ {ws body : List ℕ} (visit : Visit) {fill levels : ℕ} (path : List ℕ) {table₀ out₀ : List ℕ} {start : Progress}
    (asks : GroupsAsk ws body table₀ out₀ fill levels start) where
  abbrev counting : Head → ℕ
  counting = count_of (scope_in table₀) fill

  abbrev g₀ : Groups
  g₀ = (content_from ws start.frame).groups

  abbrev State : List ℕ → List ℕ → ℕ → ℕ → ℕ → Groups → Type 0
  State = Writing body visit fill (level_of levels) path table₀ out₀ start.records start.offset g₀

  -- The walk is at frame `frame`, at instance j of the group there.
  abbrev At : List ℕ → List ℕ → ℕ → ℕ → ℕ → ℕ → Type 0
  At table out records offset j frame = State table out records offset j (content_from ws frame).groups

  -- It begins at the first group.
  pub begins : IsTable table₀ → At table₀ out₀ start.records start.offset 0 start.frame
  begins is_table =
      let s = asks.position.sound in
      writing.writing_begins body visit fill (level_of levels) path table₀ out₀ start.records start.offset g₀ s.top
      s.enclosing
      (sound_below s) is_table

  module _ {table out : List ℕ} {records offset j frame : ℕ} (w : At table out records offset j frame) (s : ParsesAt ws frame)
      (n : (content_from ws frame).points ≡ []) where
    -- At the frame is no group: all is written.
    pub ends : head_of (frame_in ws frame) ≡ none
        → (out
        ≡ written visit start.records (groups_at body counting (level_of levels) (instance_in table₀ path) start.offset g₀) out₀)
        × (records ≡ start.records + groups_points counting g₀)
        × (offset ≡ start.offset + groups_size counting g₀)
    ends e =
        writing.writing_ends (subst (State table out records offset j)
        (position.no_group_lem ws frame s n e) w)

    module _ {h : Head} (e : head_of (frame_in ws frame) ≡ some h) where
      abbrev own : List Point
      own = (content_from ws (frame + 1)).points

      abbrev inside : Groups
      inside = (content_from ws (frame + 1)).groups

      abbrev following : Groups
      following = (content_from ws (past_end ws (frame + 1))).groups

      there : State table out records offset j
          (group h own inside following)
      there =
          subst (State table out records offset j)
          (position.group_next ws frame s n h e).0 w

      back : {table' out' : List ℕ} {records' offset' k : ℕ}
          → State table' out' records' offset' k
          (group h own inside following)
          → At table' out' records' offset' k frame
      back {table'} {out'} {records'} {offset'} {k} v =
          subst (State table' out' records' offset' k)
          (sym (position.group_next ws frame s n h e).0) v

      -- The table gives the group's count, as at the start.
      pub count_there : count_of (scope_in table) fill h ≡ counting h
      count_there =
          counts.count_agrees (scope_in table) (scope_in table₀) there.top (λ p i. there.agree p (there.sound.top_in_scope p i))
          fill (level_of levels) h following there.sound.sound.0

      -- Past the group.
      pub passes : count_of (scope_in table) fill h ≤ j → At table out records offset 0 (past_end ws (frame + 1))
      passes l =
          writing.writing_past there (omega (arith, count_there, l))

      pub parses_past : ParsesAt ws (past_end ws (frame + 1)) × ((content_from ws (past_end ws (frame + 1))).points ≡ [])
      parses_past = let r = position.group_next ws frame s n h e in (r.2, r.3)

      -- There is a level left for the groups in it.
      pub level_left : 1 ≤ levels
      level_left = let l = there.sound.sound.0.level_in_range in omega arith

      deeper : suc (level_of levels) ≡ level_of (levels - 1)
      deeper = let l = level_left in let m = asks.at_most3 in omega arith

      module _ (l : j < count_of (scope_in table) fill h) where
        counted : j < counting h
        counted = omega (arith, count_there, l)

        -- What writing the instance's own points requires.
        pub own_asks : RunAsks ws body out (record { records = records; offset = offset; frame = frame + 1 }) own
        own_asks =
            let z = writing.measure_next points_size counting j h own inside following counted in
            let p = writing.measure_next length counting j h own inside following counted in
            record {
              parses = (position.group_next ws frame s n h e).1;
              sized = points_sized (own ++ there.enclosing) own there.sound.sound.2;
              inside = omega (arith, z, there.size, asks.inside);
              capacity = omega (arith, p, there.points, there.same_length, asks.capacity);
            }

        module _ (words : (k : ℕ) → get_or ws k 0 < 65536) {table₁ out₁ path₁ : List ℕ} {at₁ : Progress}
            (recording : table₁ ≡ table_with body offset own table) (way : path₁ ≡ set path (level_of levels - 2) j)
            (run : AfterRun (record { records = records; offset = offset; frame = frame + 1 }) own at₁)
            (wrote : out₁
            ≡ written visit records
            (points_at body (record { scope = within body offset own (scope_in table); path = path₁ }) offset own) out) where
          -- The table holds the scope within the instance.
          in_table : (k : ℕ) → scope_in table₁ k ≡ within body offset own (scope_in table) k
          in_table k =
              let numbers = numbers_in_table ws words (frame + 1) (position.group_next ws frame s n h e).1 in
              ap (λ t. scope_in t k) recording ∙ ap (λ (r : Scope). r k) (table_with_scope body offset own table w.is_table numbers)

          still_table : IsTable table₁
          still_table = ap length recording ∙ table_with_length body offset own table ∙ w.is_table

          lower_same : (weight : List Point → ℕ)
              → measured weight (count_of (scope_in table₁) fill) inside ≡ measured weight counting inside
          lower_same = writing.lower_same there table₁ in_table

          -- The walk over the groups in the instance begins at them.
          pub lower_here : (content_from ws at₁.frame).groups ≡ inside
          lower_here =
              ap (λ k. (content_from ws k).groups) run.frame
              ∙ (position.after_run ws (frame + 1) (position.group_next ws frame s n h e).1).1

          -- What writing the groups in the instance requires.
          pub lower_asks : GroupsAsk ws body table₁ out₁ fill (levels - 1) at₁
          lower_asks =
              let r = position.after_run ws (frame + 1) (position.group_next ws frame s n h e).1 in
              let b = below there.top there.enclosing (level_of levels) h own inside following there.sound in
              let c = subst (λ k. SoundBelow there.top (own ++ there.enclosing) k inside) deeper b in
              let z = writing.measure_next points_size counting j h own inside following counted in
              let p = writing.measure_next length counting j h own inside following counted in
              let o = lists.written_length visit records
              (points_at body (record { scope = within body offset own (scope_in table); path = path₁ }) offset own) out in
              record {
                position = position_at (subst (ParsesAt ws) (sym run.frame) r.2)
                    (ap (λ k. (content_from ws k).points) run.frame ∙ r.0) lower_here c asks.position.few;
                at_most3 = omega (arith, asks.at_most3);
                inside = omega (
                  arith,
                  ap (groups_size (count_of (scope_in table₁) fill)) lower_here,
                  lower_same points_size,
                  z,
                  there.size,
                  asks.inside,
                  run.offset,
                );
                capacity = omega (
                  arith,
                  ap (groups_points (count_of (scope_in table₁) fill)) lower_here,
                  lower_same length,
                  p,
                  there.points,
                  ap length wrote ∙ o ∙ there.same_length,
                  asks.capacity,
                  run.records,
                );
              }

          -- The instance is written: the walk is at instance j + 1.
          pub further : {table₂ out₂ : List ℕ} {at₂ : Progress}
              → AfterGroups (content_from ws at₁.frame).groups (count_of (scope_in table₁) fill) at₁ at₂
              → out₂
              ≡ written visit at₁.records
              (groups_at body (count_of (scope_in table₁) fill) (level_of (levels - 1)) (instance_in table₁ path₁) at₁.offset
              (content_from ws at₁.frame).groups)
              out₁
              → AgreeExcept (numbers_of (group_frames (content_from ws at₁.frame).groups)) table₁ table₂
              → IsTable table₂
              → At table₂ out₂ at₂.records at₂.offset (j + 1) frame
          unfolding entered
          further {table₂} {out₂} {at₂} b o x t =
              let P : Groups → Type 0 = λ g. AgreeExcept (numbers_of (group_frames g)) table₁ table₂ in
              let W : ℕ → ℕ → List ℕ → ℕ → Groups → List ℕ = λ r k p a g.
              written visit r (groups_at body (count_of (scope_in table₁) fill) k (instance_in table₁ p) a g) out₁ in
              let path₂ = set path (level_of levels - 2) j in
              let g₁ = (content_from ws at₁.frame).groups in
              back (writing.writing_instance there counted table₁ out₁ table₂ out₂ at₂.records at₂.offset
              (record {
                table_with = in_table;
                own = wrote
                    ∙ ap (λ p. written visit records
                    (points_at body (record { scope = within body offset own (scope_in table); path = p }) offset own) out) way;
                lower = o
                    ∙ ap (λ r. W r (level_of (levels - 1)) path₁ at₁.offset g₁) run.records
                    ∙ ap (λ k. W (records + length own) k path₁ at₁.offset g₁) (sym deeper)
                    ∙ ap (λ p. W (records + length own) (suc (level_of levels)) p at₁.offset g₁) way
                    ∙ ap (λ a. W (records + length own) (suc (level_of levels)) path₂ a g₁) run.offset
                    ∙ ap (W (records + length own) (suc (level_of levels)) path₂ (offset + points_size own)) lower_here;
                counted = omega (arith, b.records, run.records, ap (groups_points (count_of (scope_in table₁) fill)) lower_here);
                passed_on = omega (arith, b.offset, run.offset, ap (groups_size (count_of (scope_in table₁) fill)) lower_here);
                agree_except = subst P lower_here x;
                is_table = t;
              }))
