-- `listing::frames::find_model` meets its contract: the first model frame of the id begins the definition.
use mathlib.Core.Path.{◌≡◌, refl, sym, ap, subst, ◌∙◌}
use mathlib.Core.Bool.{Bool, true, false, cond}
use mathlib.Core.List.{List}
use Prim.Native.Nat.{ℕ, zero, suc, ◌+◌, ◌/◌}
use native.Mathlib.Omega.{arith}
use lib.ListN.{length}
use Rattle.std.proofs.Common.{rules}
use Rattle.std.specs.Prelude.{Option, Some}
use Rattle.std.specs.Option.{option_map}
use Rattle.std.specs.List.{find, range_with_len}
use Rattle.std.proofs.lemmas.Iterator.{YieldsList-from_range}
use Rattle.std.proofs.lemmas.Iterator.Search.{find_from_yields_List}
use Rattle.catalog_frames.specs.Frames.{frame_in}
use Rattle.layout.specs.InternalWalks.{is_model_of, Accepted}
use Rattle.layout.proofs.ModelSearch.{top_from, search_found, search_on, search_end, model_accepted}
use Rattle.listing.specs.InternalCodeTypes.{to_spec_found}
use Rattle.listing.specs.InternalContracts.{FoundParses}
use Rattle.listing.proofs.CheckedPlants.{accepted_of}
use Rattle.listing.proofs.frames.find_model.Goals as goal

module _ (ws : List ℕ) (id : ℕ) where
  abbrev is_it : ℕ → Bool
  is_it i = is_model_of id (frame_in ws i)

  -- The frame after the first model frame of `id` among n frames from frame k on.
  abbrev first_after : ℕ → ℕ → Option ℕ
  first_after n k = option_map (λ i. i + 1) (find is_it (range_with_len k n))

  -- To the end of the catalog, it is where the definition begins.
  first_found : (n k : ℕ) → k + n ≡ length ws / 8 → to_spec_found ws (first_after n k) ≡ top_from ws id k
  first_found zero k e = search_end ws id k (omega arith)
  first_found (suc n) k e =
      go (is_it k) refl (λ t. first_found n (k + 1) (omega arith) ∙ search_on ws id k (omega arith) t)
    where
      go : (b : Bool) → is_it k ≡ b → (is_it k ≡ false → to_spec_found ws (first_after n (k + 1)) ≡ top_from ws id k)
          → to_spec_found ws (option_map (λ i. i + 1) (cond b (Some k) (find is_it (range_with_len (k + 1) n)))) ≡ top_from ws id k
      go true t later = search_found ws id k (omega arith) t
      go false t later = later t

  first_parses : Accepted ws → (n k : ℕ) → FoundParses ws (first_after n k)
  first_parses accepted zero k = tt
  first_parses accepted (suc n) k = go (is_it k) refl (first_parses accepted n (k + 1))
    where
      go : (b : Bool) → is_it k ≡ b → FoundParses ws (first_after n (k + 1))
          → FoundParses ws (option_map (λ i. i + 1) (cond b (Some k) (find is_it (range_with_len (k + 1) n))))
      go true t later = model_accepted ws id k accepted t
      go false t later = later

pub returns : goal.returns
returns c =
    let ws = c.args.catalog.now.words.now in
    let id = c.args.id in
    let n = length ws / 8 in
    let found : option_map (λ x. x) c.find.result ≡ find (is_it ws id) (range_with_len 0 n) =
    find_from_yields_List (is_it ws id) _ _ _ c.find.ensures.ran (YieldsList-from_range 0 n n refl (omega arith)) (λ x b q k. search rules) in
    let mapped : c.map.result ≡ option_map (λ i. i + 1) (option_map (λ x. x) c.find.result) = search rules in
    let after : c.map.result ≡ first_after ws id n 0 = mapped ∙ ap (option_map (λ i. i + 1)) found in
    record {
      result_value = ap (to_spec_found ws) after ∙ first_found ws id n 0 (omega arith);
      found_parses = subst (FoundParses ws) (sym after) (first_parses ws id (accepted_of _ c.args.catalog.now.accepted) n 0);
    }
