-- The ids of models: distinct in an accepted catalog, 1 to 65534 if its words are registers, and always the ids of the model
-- frames.
use mathlib.Core.Path.{◌≡◌, refl, sym, ap, subst}
use mathlib.Core.List.{List, [], ◌∷◌, ◌++◌}
use Prim.Native.Nat.{ℕ, ◌≤◌, ◌<◌}
use native.Mathlib.Omega.{arith}
use Rattle.lists.specs.Each.{Each}
use Rattle.lists.specs.Members.{Distinct}
use Rattle.registers.specs.Registers.{AreRegisters}
use Rattle.catalog_frames.specs.Frames.{Frame, model_frame, group_frame, point_frame, end_frame, malformed, frames, words_of}
use Rattle.catalog_frames.specs.Frames.{words_of_all}
use Rattle.catalog.specs.Checking.{accepted, checked}
use Rattle.model_definitions.specs.Definitions.{Definition, definition_frames, catalog_frames, parsed, definitions, model_ids}
use Rattle.model_definitions.specs.Soundness.{SoundDefinition, ids_of}
use Rattle.model_definitions.proofs.ModelFrames.{words_of_definitions}
use Rattle.model_definitions.proofs.AcceptedIsSound.{accepted_is_sound}

-- The ids of an accepted catalog's models are distinct.
pub ids_distinct : (ws : List ℕ) (n : ℕ) → checked ws ≡ accepted n → Distinct (ids_of (definitions ws))
ids_distinct ws n e = (accepted_is_sound ws n e).0.distinct

-- If all words are registers, so are those after the first ones.
registers_after : (us vs : List ℕ) → AreRegisters (us ++ vs) → AreRegisters vs
registers_after [] vs a = a
registers_after (u ∷ us) vs a = registers_after us vs a.1

-- The same for the words of frames.
frames_after : (fs gs : List Frame) → AreRegisters (words_of_all (fs ++ gs)) → AreRegisters (words_of_all gs)
unfolding words_of_all
frames_after [] gs a = a
frames_after (f ∷ fs) gs a = frames_after fs gs (registers_after (words_of f) (words_of_all (fs ++ gs)) a)

-- The ids of sound models whose words are registers are 1 to 65534.
in_range : (ds : List Definition) → Each SoundDefinition ds → AreRegisters (words_of_all (catalog_frames ds))
    → Each (λ id. (1 ≤ id) × (id ≤ 65534)) (ids_of ds)
unfolding words_of_all
in_range [] s a = tt
in_range (d ∷ ds) s a =
    let zero = s.0.not_zero in
    let marker = s.0.not_marker in
    let register : d.id < 65536 = a.1.0 in
    ((omega arith, omega arith), in_range ds s.1 (frames_after (definition_frames d) (catalog_frames ds) a))

-- The ids of an accepted catalog's models are 1 to 65534 if its words are registers.
pub ids_in_range : (ws : List ℕ) (n : ℕ) → AreRegisters ws → checked ws ≡ accepted n
    → Each (λ id. (1 ≤ id) × (id ≤ 65534)) (ids_of (definitions ws))
ids_in_range ws n a e =
    in_range (definitions ws) (accepted_is_sound ws n e).0.each (subst AreRegisters (sym (words_of_definitions ws n e)) a)

-- The definitions read from any frames have the ids of the model frames, in order.
ids_read : (fs : List Frame) → ids_of (parsed fs).models ≡ model_ids fs
unfolding parsed
ids_read [] = refl
ids_read (model_frame id ∷ fs) = ap {B = List ℕ} (λ ids. id ∷ ids) (ids_read fs)
ids_read (group_frame h ∷ fs) = ids_read fs
ids_read (point_frame p ∷ fs) = ids_read fs
ids_read (end_frame ∷ fs) = ids_read fs
ids_read (malformed ∷ fs) = ids_read fs

-- The same for any catalog, accepted or not: an id is known if and only if a model frame has it.
pub ids_of_model_frames : (ws : List ℕ) → ids_of (definitions ws) ≡ model_ids (frames ws)
ids_of_model_frames ws = ids_read (frames ws)
