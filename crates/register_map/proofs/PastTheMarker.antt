-- Registers after the end marker are ignored: adding some changes neither the scan nor the opening of a map.
use mathlib.Core.Path.{◌≡◌, sym, ap, ◌∙◌}
use mathlib.Core.List.{List, ◌∷◌, ◌++◌, append_assoc}
use Prim.Native.Nat.{ℕ, ◌≤◌}
use native.Mathlib.Omega.{arith}
use borrow.Author.Tests.{le-ltb}
use lib.ListN.{length, length-append}
use Rattle.register_map.specs.Headers.{begins_with_sun_s, opening}
use Rattle.register_map.specs.Scan.{Model, marked, Scan, scan, model_registers}
use Rattle.register_map.proofs.ScanBack.{scan_whole_back}
use Rattle.register_map.proofs.MadeOfModels.{made_of_models}

module _ (map more : List ℕ) (ends : (scan map).ending ≡ marked) where
  pub scan_longer : scan (map ++ more) ≡ scan map
  scan_longer =
      let m = made_of_models map ends in
      let ms : List Model = (scan map).models in
      let preceding = m.register0 ∷ m.register1 ∷ model_registers ms in
      ap (λ l. scan (l ++ more)) m.shape
      ∙ ap scan (append_assoc preceding (65535 ∷ 0 ∷ m.tail) more)
      ∙ scan_whole_back m.register0 m.register1 ms (m.tail ++ more) m.well_formed m.begins
      ∙ sym (ap {B = Scan} (λ x. record { models = ms; ending = x }) ends)

  pub opening_longer : length (map ++ more) ≤ 65536 → opening (map ++ more) ≡ opening map
  unfolding opening
  opening_longer fits =
      let m = made_of_models map ends in
      let begins : begins_with_sun_s (map ++ more) ≡ begins_with_sun_s map = rw m.shape in
      let short : length map ≤ 65536 = omega (arith, length-append map more) in
      simp (opening, le-ltb _ _ fits, le-ltb _ _ short, begins)
