-- Texts appended one after the other are appended as one, and stand in the buffer at the end.
use mathlib.Core.Path.{◌≡◌, refl, ◌∙◌}
use mathlib.Core.List.{List, [], ◌++◌}
use Prim.Native.Nat.{ℕ}
use native.Mathlib.Omega.{arith}
use Rattle.std.specs.Borrow.{MutBor}
use Rattle.display.specs.InternalParts.{Put, Appended}
use Rattle.display.proofs.StoredTexts.{put_both, put_length}

-- A text that was stored in a lent buffer was appended.
pub appended : {a b : MutBor (List ℕ)} {i j : ℕ} {xs : List ℕ} → b.ghost_name ≡ a.ghost_name → Put a.now b.now i xs j → Appended a b i xs j
appended e p = record { same_reference = e; put = p; same_capacity = put_length p }

pub appended_both : {a b c : MutBor (List ℕ)} {i j k : ℕ} {xs ys : List ℕ} → Appended a b i xs j → Appended b c j ys k → Appended a c i (xs ++ ys) k
appended_both p q =
    record {
      same_reference = q.same_reference ∙ p.same_reference;
      put = put_both p.put q.put;
      same_capacity = q.same_capacity ∙ p.same_capacity;
    }

pub appended_none : (a : MutBor (List ℕ)) (i : ℕ) → Appended a a i [] i
appended_none a i = appended refl (record { stored = refl; ends = omega arith })

-- Equal texts.
pub appended_same : {a b : MutBor (List ℕ)} {i j : ℕ} {xs ys : List ℕ} → xs ≡ ys → Appended a b i xs j → Appended a b i ys j
appended_same e p = rw (← e) p

-- The buffer once the reference has ended.
pub given_back : {a b : MutBor (List ℕ)} {i j : ℕ} {xs out : List ℕ} → Appended a b i xs j → out ≡ b.now → Put a.now out i xs j
given_back p e = rw e p.put
