-- What follows from soundness holds of each group and each model of an accepted catalog.
use mathlib.Core.Path.{◌≡◌}
use mathlib.Core.List.{List, [], ◌∷◌, ◌++◌}
use Prim.Native.Nat.{ℕ, suc, ◌≤◌}
use lib.ListN.{length}
use Rattle.lists.specs.Each.{Each}
use Rattle.catalog_frames.specs.Frames.{Point, Head}
use Rattle.catalog.specs.Checking.{accepted, checked}
use Rattle.model_definitions.specs.Definitions.{Groups, no_group, group, Definition, definitions}
use Rattle.model_definitions.specs.Soundness.{SoundPoint, SoundHead, SoundGroups, SoundDefinition, EachGroup, EachLowerGroup}
use Rattle.model_definitions.proofs.AcceptedIsSound.{accepted_is_sound}

module _ (P : List Point → ℕ → Head → List Point → Groups → Type 0) (top : List Point)
    (f : (enclosing : List Point) (level : ℕ) (h : Head) (ps : List Point) (following : Groups)
    → SoundHead top level h following → 1 ≤ length ps → Each (SoundPoint (ps ++ enclosing)) ps → P enclosing level h ps following) where
  -- What holds of a sound group holds of each group among sound groups.
  of_groups : (enclosing : List Point) (level : ℕ) (g : Groups) → SoundGroups top enclosing level g
      → EachGroup P enclosing level g
  of_groups enclosing level no_group s = tt
  of_groups enclosing level (group h ps inside following) s = (
    f enclosing level h ps following s.0 s.1 s.2,
    of_groups (ps ++ enclosing) (suc level) inside s.3,
    of_groups enclosing level following s.4,
  )

  -- So it holds of each lower group of a sound model with these top points.
  pub of_lower_groups : (d : Definition) → d.top.points ≡ top → SoundDefinition d → EachLowerGroup P d
  of_lower_groups d e s = rw e (of_groups top 2 d.top.groups (rw e at s.groups))

-- What holds of a sound model holds of each model of an accepted catalog.
pub of_models : (P : Definition → Type 0) → ((d : Definition) → SoundDefinition d → P d)
    → (ws : List ℕ) (n : ℕ) → checked ws ≡ accepted n → Each P (definitions ws)
of_models P f ws n e = go (definitions ws) (accepted_is_sound ws n e).0.each
  where
    go : (ds : List Definition) → Each SoundDefinition ds → Each P ds
    go [] s = tt
    go (d ∷ ds) s = (f d s.0, go ds s.1)
