-- The catalog of sound models is accepted, and checking returns their number.
use mathlib.Core.Path.{◌≡◌, sym, ap, ◌∙◌}
use mathlib.Core.Bool.{false}
use mathlib.Core.List.{List, []}
use mathlib.Core.Logic.{◌↔◌}
use Prim.Native.Nat.{ℕ}
use native.Mathlib.Omega.{arith}
use lib.ListN.{length}
use Rattle.catalog_frames.specs.Frames.{words_of_all}
use Rattle.catalog.specs.State.{start}
use Rattle.catalog.specs.Checking.{accepted, checked}
use Rattle.model_definitions.specs.Definitions.{Definition, catalog_frames, definitions}
use Rattle.model_definitions.specs.Soundness.{SoundCatalog, ids_of}
use Rattle.catalog.proofs.FrameWords.{length_words, frames_words}
use Rattle.model_definitions.proofs.AcceptedSteps.{accepted_start}
use Rattle.model_definitions.proofs.AcceptedFrames.{accepted_frames}
use Rattle.model_definitions.proofs.NewNumbers.{all_new}
use Rattle.model_definitions.proofs.ModelFrames.{words_of_definitions}
use Rattle.model_definitions.proofs.SoundModels.{models_sound}
use Rattle.model_definitions.proofs.AcceptedIsSound.{accepted_is_sound}

-- The catalog of sound models is accepted with their number.
pub sound_is_accepted : (ds : List Definition) → SoundCatalog ds → checked (words_of_all (catalog_frames ds)) ≡ accepted (length ds)
sound_is_accepted ds s =
    let fs = catalog_frames ds in
    let n = length ds in
    let eight = length_words fs in
    let few = s.few in
    let w = (models_sound ds n false [] []).1 (s.each, (all_new (ids_of ds)).1 s.distinct, omega arith) in
    let rest = (accepted_frames fs start 0 n).1 w in
    (accepted_start (words_of_all fs) n).1 (omega arith, omega arith, rw (frames_words fs) rest)

-- A catalog is accepted if and only if its words are those of its definitions and these are sound.
pub accepted_iff_sound : (ws : List ℕ) (n : ℕ) → (checked ws ≡ accepted n)
    ↔ ((words_of_all (catalog_frames (definitions ws)) ≡ ws) × SoundCatalog (definitions ws) × (length (definitions ws) ≡ n))
accepted_iff_sound ws n = (
  λ e. let a = accepted_is_sound ws n e in (words_of_definitions ws n e, a.0, sym a.1),
  λ s. sym (ap checked s.0) ∙ sound_is_accepted (definitions ws) s.1 ∙ ap accepted s.2,
)
