-- The models of an accepted catalog are sound, and checking returns their number.
use mathlib.Core.Path.{◌≡◌, sym, ap, ◌∙◌}
use mathlib.Core.Bool.{false}
use mathlib.Core.List.{List, []}
use Prim.Native.Nat.{ℕ}
use native.Mathlib.Omega.{arith}
use lib.ListN.{length}
use Rattle.catalog_frames.specs.Frames.{frames}
use Rattle.catalog.specs.State.{start}
use Rattle.catalog.specs.Checking.{accepted, checked}
use Rattle.model_definitions.specs.Definitions.{catalog_frames, definitions}
use Rattle.model_definitions.specs.Soundness.{SoundCatalog, ids_of}
use Rattle.catalog.proofs.FrameWords.{length_words}
use Rattle.model_definitions.proofs.AcceptedSteps.{accepted_start}
use Rattle.model_definitions.proofs.AcceptedFrames.{accepted_frames}
use Rattle.model_definitions.proofs.ModelFrames.{frames_of_definitions, words_of_definitions}
use Rattle.model_definitions.proofs.NewNumbers.{all_new}
use Rattle.model_definitions.proofs.SoundModels.{models_sound}

-- An accepted catalog is sound, and checking returns the number of its models.
pub accepted_is_sound : (ws : List ℕ) (n : ℕ) → checked ws ≡ accepted n
    → SoundCatalog (definitions ws) × (n ≡ length (definitions ws))
accepted_is_sound ws n e =
    let ds = definitions ws in
    let a = (accepted_start ws n).0 e in
    let w = (accepted_frames (frames ws) start 0 n).0 a.2 in
    let r = (models_sound ds n false [] []).0 (rw (frames_of_definitions ws n e) w) in
    let few = a.1 in
    let eight = sym (ap length (words_of_definitions ws n e)) ∙ length_words (catalog_frames ds) in
    (record { few = omega arith; distinct = (all_new (ids_of ds)).0 r.1; each = r.0 }, let count = r.2 in omega arith)
