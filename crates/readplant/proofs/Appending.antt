-- Laws of appending: one byte more, and two parts.
use mathlib.Core.Path.{◌≡◌, ap, ◌∙◌}
use mathlib.Core.List.{List, [], ◌∷◌, ◌++◌, append_assoc}
use Prim.Native.Nat.{ℕ, suc, ◌+◌, ◌<◌}
use native.Mathlib.Numerals.{add-one}
use native.Mathlib.Omega.{arith}
use lib.ListN.{length, take, get_or, set}
use lib.Seq.{take-suc, take-suc-set}

pub one_more : (old out bytes : List ℕ) (count i : ℕ) → i < length bytes → count + i < length out
    → take (count + i) out ≡ take count old ++ take i bytes
    → take (count + (i + 1)) (set out (count + i) (get_or bytes i 0)) ≡ take count old ++ take (i + 1) bytes
one_more old out bytes count i h k e =
    let b = get_or bytes i 0 in
    let n : count + (i + 1) ≡ suc (count + i) = omega arith in
    rw (n, take-suc-set out (count + i) b k, e, add-one i, take-suc bytes i 0 h) (append_assoc (take count old) (take i bytes) (b ∷ []))

pub joined : {first whole : List ℕ} (head text : List ℕ) → first ≡ head → whole ≡ first ++ text → whole ≡ head ++ text
joined head text e f = f ∙ ap (λ (xs : List ℕ). xs ++ text) e
