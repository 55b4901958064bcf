-- Removing models from an accepted catalog gives an accepted catalog, with the definitions of the models kept.
use mathlib.Core.Path.{◌≡◌, refl, sym, ap, ◌∙◌}
use mathlib.Core.Bool.{Bool, true, false}
use mathlib.Core.List.{List, [], ◌∷◌, ◌++◌, append_assoc}
use Prim.Native.Nat.{ℕ, ◌≤◌}
use native.Mathlib.Omega.{arith}
use lib.Dec.{eqb}
use lib.ListN.{length, length-append}
use Rattle.lists.specs.Each.{Each}
use Rattle.lists.specs.Members.{among, Distinct}
use Rattle.lists.specs.Tests.{kept_by}
use Rattle.lists.proofs.TestOutcomes.{clash}
use Rattle.lists.proofs.TestLaws.{neither}
use Rattle.catalog_frames.specs.Frames.{Frame, frames, words_of_all}
use Rattle.catalog.specs.Checking.{accepted, checked}
use Rattle.model_definitions.specs.Definitions.{Definition, definition_frames, catalog_frames, definitions}
use Rattle.model_definitions.specs.Soundness.{SoundDefinition, SoundCatalog, ids_of}
use Rattle.model_definitions.specs.Removal.{keeping, all_but_one}
use Rattle.catalog.proofs.FrameWords.{frames_words}
use Rattle.model_definitions.proofs.DefinitionsBack.{definitions_back}
use Rattle.model_definitions.proofs.ModelFrames.{frames_of_definitions, words_of_definitions}
use Rattle.model_definitions.proofs.AcceptedIsSound.{accepted_is_sound}
use Rattle.model_definitions.proofs.SoundIsAccepted.{sound_is_accepted}

-- The models left: they have no more frames than before and no new id, and they stay distinct and sound.
record Left (ds left : List Definition) : Type 0 where
  fewer : length (catalog_frames left) ≤ length (catalog_frames ds)
  unused : (n : ℕ) → among n (ids_of ds) ≡ false → among n (ids_of left) ≡ false
  distinct : Distinct (ids_of ds) → Distinct (ids_of left)
  each : Each SoundDefinition ds → Each SoundDefinition left

-- This holds if all models are left,
all_left : (ds : List Definition) → Left ds ds
all_left ds = record { fewer = omega arith; unused = λ n e. e; distinct = λ d. d; each = λ s. s }

-- and for the models that a choice keeps.
left_kept : (choice : List Bool) (ds : List Definition) → Left ds (kept_by choice ds)
left_kept [] ds = all_left ds
left_kept (c ∷ choice) [] = all_left []
left_kept (true ∷ choice) (d ∷ ds) =
    let l = left_kept choice ds in
    let fewer = l.fewer in
    let own = length-append (definition_frames d) in
    record {
      fewer = rw (own (catalog_frames ds), own (catalog_frames (kept_by choice ds))) (omega arith);
      unused = λ n e. let h = (neither (eqb n d.id) (among n (ids_of ds))).0 e in rw h.0 (l.unused n h.1);
      distinct = λ e. (l.unused d.id e.0, l.distinct e.1);
      each = λ s. (s.0, l.each s.1);
    }
left_kept (false ∷ choice) (d ∷ ds) =
    let l = left_kept choice ds in
    let fewer = l.fewer in
    record {
      fewer = rw (length-append (definition_frames d) (catalog_frames ds)) (omega arith);
      unused = λ n e. l.unused n ((neither (eqb n d.id) (among n (ids_of ds))).0 e).1;
      distinct = λ e. l.distinct e.1;
      each = λ s. l.each s.1;
    }

-- The models kept of a sound catalog are a sound catalog.
pub sound_kept : (choice : List Bool) (ds : List Definition) → SoundCatalog ds → SoundCatalog (kept_by choice ds)
sound_kept choice ds s =
    let l = left_kept choice ds in
    let few = s.few in
    let fewer = l.fewer in
    record { few = omega arith; distinct = l.distinct s.distinct; each = l.each s.each }

-- The frames left are the frames of the models kept.
pub frames_left : (choice : List Bool) (ws : List ℕ) → frames (keeping choice ws) ≡ catalog_frames (kept_by choice (definitions ws))
unfolding keeping
frames_left choice ws = frames_words (catalog_frames (kept_by choice (definitions ws)))

-- Without some of its models an accepted catalog is still accepted, and its definitions are those kept.
pub removal : (choice : List Bool) (ws : List ℕ) (n : ℕ) → checked ws ≡ accepted n
    → (checked (keeping choice ws) ≡ accepted (length (kept_by choice (definitions ws))))
    × (definitions (keeping choice ws) ≡ kept_by choice (definitions ws))
unfolding keeping
removal choice ws n e =
    let ds = kept_by choice (definitions ws) in
    (sound_is_accepted ds (sound_kept choice (definitions ws) (accepted_is_sound ws n e).0), definitions_back ds)

-- A choice without false entries keeps the whole list.
all_kept : {A : Type 0} (choice : List Bool) (xs : List A) → Each (λ c. c ≡ true) choice → kept_by choice xs ≡ xs
all_kept [] xs e = refl
all_kept (c ∷ choice) [] e = refl
all_kept {A = A} (true ∷ choice) (x ∷ xs) e = ap {B = List A} (λ ys. x ∷ ys) (all_kept choice xs e.1)
all_kept (false ∷ choice) (x ∷ xs) e = clash (sym e.0)

-- If no model is removed, an accepted catalog stays the same.
pub nothing_removed : (choice : List Bool) (ws : List ℕ) (n : ℕ) → Each (λ c. c ≡ true) choice → checked ws ≡ accepted n
    → keeping choice ws ≡ ws
unfolding keeping
nothing_removed choice ws n all e =
    ap (λ ds. words_of_all (catalog_frames ds)) (all_kept choice (definitions ws) all) ∙ words_of_definitions ws n e

-- `all_but_one` removes exactly one entry of a list.
one_left_out : {A : Type 0} (before : List A) (x : A) (after : List A)
    → kept_by (all_but_one (length before)) (before ++ (x ∷ after)) ≡ before ++ after
one_left_out [] x after = refl
one_left_out {A = A} (b ∷ before) x after = ap {B = List A} (λ ys. b ∷ ys) (one_left_out before x after)

-- The frames of two joined lists of models.
frames_joined : (cs ds : List Definition) → catalog_frames (cs ++ ds) ≡ catalog_frames cs ++ catalog_frames ds
frames_joined [] ds = refl
frames_joined (c ∷ cs) ds =
    ap {B = List Frame} (λ fs. definition_frames c ++ fs) (frames_joined cs ds)
    ∙ sym (append_assoc (definition_frames c) (catalog_frames cs) (catalog_frames ds))

-- Removing one model removes its frames, its model frame first and the end of its top group last, and no other.
pub one_removed : (ws : List ℕ) (n : ℕ) (before : List Definition) (d : Definition) (after : List Definition)
    → checked ws ≡ accepted n → definitions ws ≡ before ++ (d ∷ after)
    → (frames ws ≡ catalog_frames before ++ (definition_frames d ++ catalog_frames after))
    × (frames (keeping (all_but_one (length before)) ws) ≡ catalog_frames before ++ catalog_frames after)
one_removed ws n before d after e q =
    let choice = all_but_one (length before) in
    let left = ap (kept_by choice) q ∙ one_left_out before d after in (
      sym (frames_of_definitions ws n e) ∙ ap catalog_frames q ∙ frames_joined before (d ∷ after),
      frames_left choice ws ∙ ap catalog_frames left ∙ frames_joined before after,
    )
