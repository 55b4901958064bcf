-- The address of each record of a walk to the end marker is in its model, and so is the place of a refusal.
use mathlib.Core.Path.{◌≡◌, refl, ap}
use mathlib.Core.List.{List, [], ◌∷◌, ◌++◌}
use mathlib.Core.Logic.{⊎_elim}
use Prim.Native.Nat.{ℕ, zero, suc, ◌+◌, ◌≤◌, ◌<◌}
use native.Mathlib.Nat.{eq-or-lt_of_le}
use native.Mathlib.Omega.{arith}
use lib.ListN.{length, take}
use Rattle.lists.specs.Each.{Each}
use Rattle.lists.proofs.TestOutcomes.{impossible}
use Rattle.lists.proofs.EachLaws.{each_one, each_any}
use Rattle.register_map.specs.Scan.{Model, size_of, total_size, marked}
use Rattle.layout.specs.Reading.{Reading}
use Rattle.layout.specs.InternalWalks.{points_of}
use Rattle.layout.proofs.PointsInside.{Inside}
use Rattle.listing.specs.Listing.{Record, Answer, refused, listed, walk}
use Rattle.listing.proofs.WalkHeaders.{HeadersWalked, walk_headers}
use Rattle.listed_records.proofs.WalkedModels.{record_of_model}

-- `address` is in model `index` of the models ms, which begin at address `at`, or right after that model.
pub record InModel (at : ℕ) (ms : List Model) (index address : ℕ) : Type 0 where
  pub preceding : List Model
  pub own : Model
  pub rest : List Model
  pub split : ms ≡ preceding ++ own ∷ rest
  pub counted : index ≡ length preceding
  pub low : at + total_size preceding ≤ address
  pub high : address ≤ at + total_size preceding + size_of own

abbrev pub AllInModels : ℕ → List Model → Answer → Type 0
AllInModels at ms (listed rs headers) = Each (λ r. InModel at ms r.index r.address) rs
AllInModels at ms (refused number place headers) = InModel at ms headers place

-- A list split into its first n models, the next one and the rest.
split_at : (n : ℕ) (ms : List Model) → n < length ms
    → (own : Model) × (rest : List Model) × (ms ≡ take n ms ++ own ∷ rest) × (length (take n ms) ≡ n)
split_at n [] h = absurd (omega arith)
split_at zero (m ∷ ms) h = (m, ms, refl, refl)
split_at (suc n) (m ∷ ms) h =
    let r = split_at n ms (omega arith) in
    (r.0, r.1, ap {B = List Model} (λ ns. m ∷ ns) r.2, omega (arith, r.3))

-- Each record's address is in its own model, and a refusal's place is a model's header.
pub walk_in_models : (read : Model → Reading) → Inside read → (at : ℕ) (ms : List Model)
    → AllInModels at ms (walk read marked 0 at ms)
walk_in_models read inside at ms = go (walk read marked 0 at ms) refl (walk_headers read marked 0 at ms)
  where
    go : (a : Answer) → walk read marked 0 at ms ≡ a → HeadersWalked marked 0 at ms a → AllInModels at ms a
    go (listed rs headers) e w =
        each_any (λ r. InModel at ms r.index r.address) rs (λ r i.
        let o = record_of_model read marked ms 0 at rs headers e r i in
        let low = each_one (λ p. p.offset ≤ length o.own.body) (points_of (read o.own))
        (inside o.own (points_of (read o.own)) o.reads) r.point o.holds in
        let index = ap (λ (s : Record). s.index) o.place in
        let address = ap (λ (s : Record). s.address) o.place in
        record {
          preceding = o.preceding;
          own = o.own;
          rest = o.following;
          split = o.splits;
          counted = omega (arith, index);
          low = omega (arith, address);
          high = omega (arith, address, low);
        })
    go (refused number place headers) e w =
        let s = split_at w.before ms
        (⊎_elim (λ q. impossible (cc (w.at_end q))) (λ l. l) (eq-or-lt_of_le w.within)) in
        record {
          preceding = take w.before ms;
          own = s.0;
          rest = s.1;
          split = s.2;
          counted = omega (arith, w.counted, s.3);
          low = omega (arith, w.placed);
          high = omega (arith, w.placed);
        }
