-- A law of `map`.
use mathlib.Core.Path.{◌≡◌, refl}
use mathlib.Core.List.{List, [], ◌∷◌, map}
use Rattle.lists.proofs.TestOutcomes.{impossible}

-- If f gives different values for different elements, `map f` gives different lists for different lists.
pub map_injective : {A B : Type 0} (f : A → B) → ((x y : A) → f x ≡ f y → x ≡ y) → (xs ys : List A) → map f xs ≡ map f ys → xs ≡ ys
map_injective f same [] [] e = refl
map_injective f same [] (y ∷ ys) e = impossible (cc)
map_injective f same (x ∷ xs) [] e = impossible (cc)
map_injective f same (x ∷ xs) (y ∷ ys) e =
    let head : f x ≡ f y = cc in
    let tail : map f xs ≡ map f ys = cc in
    let first = same x y head in
    let rest = map_injective f same xs ys tail in
    λ k. first k ∷ rest k
