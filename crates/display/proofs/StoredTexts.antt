-- Consecutive texts that are stored one by one are stored as one text.
use mathlib.Core.Path.{◌≡◌, sym, ap, ◌∙◌}
use mathlib.Core.List.{List, ◌++◌}
use Prim.Native.Nat.{ℕ, ◌+◌, ◌-◌, ◌≤◌}
use native.Mathlib.Omega.{arith}
use lib.ListN.{length, length-append, drop, replicate, length-replicate, replicate-append-replicate}
use lib.Seq.{length-sets, sets-eq, drop_at}
use Rattle.lists.proofs.StoreLaws.{sets_append}
use Rattle.display.specs.InternalParts.{Put}

pub put_both : {a b c : List ℕ} {i j k : ℕ} {xs ys : List ℕ} → Put a b i xs j → Put b c j ys k → Put a c i (xs ++ ys) k
put_both {a} {b} {c} {i} {j} {k} {xs} {ys} p q =
    record {
      stored = q.stored ∙ rw (p.stored, p.ends) (sym (sets_append a i xs ys));
      ends = omega (arith, p.ends, q.ends, length-append xs ys);
    }

-- An equal text.
pub put_same : {a b : List ℕ} {i j : ℕ} {xs ys : List ℕ} → xs ≡ ys → Put a b i xs j → Put a b i ys j
put_same e p = rw (← e) p

pub put_length : {a b : List ℕ} {i j : ℕ} {xs : List ℕ} → Put a b i xs j → length b ≡ length a
put_length {a} {b} {i} {j} {xs} p = ap length p.stored ∙ length-sets a i xs

-- A text stored at the start of a buffer that is long enough: the later bytes stay.
pub put_start : {a b : List ℕ} {j : ℕ} {xs : List ℕ} → Put a b 0 xs j → j ≤ length a → b ≡ xs ++ drop (length xs) a
put_start {a} {b} {j} {xs} p h =
    let e : 0 + length xs ≡ length xs = omega arith in
    p.stored ∙ sets-eq xs a 0 (omega (arith, p.ends)) ∙ ap (λ (k : ℕ). xs ++ drop k a) e

-- A text stored at the start of zero bytes: zero bytes follow it.
pub put_on_zeros : {n : ℕ} {b : List ℕ} {j : ℕ} {xs : List ℕ}
    → Put (replicate n 0) b 0 xs j → j ≤ n → b ≡ xs ++ replicate (n - length xs) 0
put_on_zeros {n} {b} {j} {xs} p h =
    let k = length xs in
    let e : k + (n - k) ≡ n = omega (arith, p.ends) in
    let first : List ℕ = replicate k 0 in
    let rest : List ℕ = replicate (n - k) 0 in
    let whole : first ++ rest ≡ replicate n 0 = rw (replicate-append-replicate {A = ℕ} k (n - k) 0, e) in
    put_start p (omega (arith, length-replicate {A = ℕ} n 0)) ∙ rw (← whole, drop_at first rest k (length-replicate {A = ℕ} k 0))
