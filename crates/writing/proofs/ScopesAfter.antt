-- How a write changes the registers in scope at each place of a model.
use mathlib.Core.Path.{◌≡◌, refl, sym, ap, ◌∙◌}
use mathlib.Core.Bool.{Bool, true, false, ◌&&◌, ◌||◌}
use mathlib.Core.List.{List, [], ◌∷◌}
use Prim.Native.Nat.{ℕ, ◌+◌, ◌≤◌}
use borrow.Author.Tests.{eqb-true}
use lib.Dec.{eqb}
use lib.ListN.{get_or, set}
use Rattle.lists.specs.Each.{Each}
use Rattle.lists.specs.Members.{among}
use Rattle.lists.proofs.TestOutcomes.{clash}
use Rattle.lists.proofs.InLaws.{in_either}
use Rattle.catalog_frames.specs.Frames.{Point}
use Rattle.model_definitions.specs.Definitions.{Content, point_frames}
use Rattle.model_definitions.specs.Soundness.{numbers_of, SoundPoint}
use Rattle.model_definitions.proofs.GroupSizes.{point_size}
use Rattle.model_definitions.proofs.GroupNumbers.{point_among}
use Rattle.layout.specs.Points.{ModelPoint, Scope}
use Rattle.layout.specs.Layout.{with_point, within, points_at}
use Rattle.layout.specs.Paths.{agree_to, path_of}
use Rattle.layout.proofs.Places.{Place}
use Rattle.layout.proofs.Depths.{levels, agree_beyond}
use Rattle.writing.proofs.PairedWalk.{in_scope, Enters, Deeper}
use Rattle.writing.proofs.OnePointAfter as one
use Rattle.writing.proofs.OnePointAfter.{Write}

module _ (top : Content) (w : ModelPoint) (raw : ℕ) (body : List ℕ) (defined : List Point) (x : Write defined w raw body) where
  -- The body after the write,
  abbrev new : List ℕ
  new = one.new top w raw body

  -- a register in scope after it,
  abbrev becomes : List ℕ → ℕ → ℕ → ℕ
  becomes = one.becomes top w raw body

  -- the relation of the scopes before and after it,
  abbrev Scopes : List Point → List ℕ → Scope → Scope → Type 0
  Scopes = one.Scopes top w raw body

  -- and the number of instance numbers that lead to the point written.
  abbrev depth : ℕ
  depth = one.depth top w raw body

  -- On entering an instance, the register under number m changes so, if it did around the instance or m is one of its points.
  within_becomes : (path : List ℕ) (u : Scope) (a : ℕ) (around ps : List Point) → Each (SoundPoint around) ps
      → Each (Place top w) (points_at body (in_scope u path) a ps) → (s t : Scope) (m : ℕ)
      → (among m (numbers_of (point_frames ps)) ≡ false → t m ≡ becomes path m (s m))
      → within new a ps t m ≡ becomes path m (within body a ps s m)
  unfolding within points_at
  within_becomes path u a around [] sound places s t m h = h refl
  within_becomes path u a around (p ∷ ps) sound places s t m h =
      within_becomes path u (a + p.size) around ps sound.1 places.1 (with_point p.number (get_or body a 0) s)
      (with_point p.number (get_or new a 0) t) m (λ e. go (eqb m p.number) refl (among m (numbers_of (point_frames ps))) e h)
    where
      own : get_or new a 0 ≡ becomes path p.number (get_or body a 0)
      own = one.own_register top w raw body defined x u path a p places.0 (point_size around p sound.0).0

      go : (b : Bool) → eqb m p.number ≡ b → (c : Bool) → c ≡ false → (b || c ≡ false → t m ≡ becomes path m (s m))
          → ◌≡◌ {A = ℕ} (elim b [ true ↦ get_or new a 0 | false ↦ t m ])
          (becomes path m (elim b [ true ↦ get_or body a 0 | false ↦ s m ]))
      go true e c f g = own ∙ ap (λ (n : ℕ). becomes path n (get_or body a 0)) (sym (eqb-true m p.number e))
      go false e c f g = g f

  -- So the relation holds for the points of the instance,
  pub own_becomes : (path : List ℕ) (u : Scope) (a : ℕ) (around ps : List Point) → Each (SoundPoint around) ps
      → Each (Place top w) (points_at body (in_scope u path) a ps) → (s t : Scope)
      → Scopes ps path (within body a ps s) (within new a ps t)
  own_becomes path u a around ps sound places s t p i =
      within_becomes path u a around ps sound places s t p.number (λ e. clash (sym (point_among p ps i) ∙ e))

  -- and for these with those around it.
  pub scope_enters : Enters body new (Place top w) Scopes
  scope_enters path a around ps enclosing sound s t places h p i =
      within_becomes path (within body a ps s) a around ps sound places s t p.number (λ e.
      in_either p ps enclosing i (λ j. clash (sym (point_among p ps j) ∙ e)) (h p))

  -- It also holds at one more instance number, past those that lead to the points in scope.
  pub scope_deeper : Deeper top Scopes
  scope_deeper enclosing path at j s t shallow h p i =
      h p i ∙ ap (λ b. elim b [ true ↦ get_or new w.offset 0 | false ↦ s p.number ])
      (go (eqb p.number w.definition.number) refl)
    where
      near : p.number ≡ w.definition.number → depth ≤ at
      near e = rw e at (shallow p i)

      go : (b : Bool) → eqb p.number w.definition.number ≡ b
          → b && agree_to depth (path_of w) (levels path) ≡ (b && agree_to depth (path_of w) (levels (set path at j)))
      go true e = sym (agree_beyond depth (path_of w) path at j (near (eqb-true p.number w.definition.number e)))
      go false e = refl
