-- A run of values stored in a list: what is read back, and what stays as it was.
use mathlib.Core.Path.{◌≡◌, refl, sym, ap, ◌∙◌}
use mathlib.Core.List.{List, [], ◌∷◌, ◌++◌, append_assoc}
use mathlib.Core.Logic.{◌⊎◌, inl, inr, ⊎_elim}
use Prim.Native.Nat.{ℕ, suc, ◌+◌, ◌-◌, ◌≤◌, ◌<◌}
use native.Mathlib.Nat.{add-zero, zero-add, suc-add}
use native.Mathlib.Omega.{arith}
use lib.ListN.{length, take, drop, get_or, set, length-set, length-drop, take-append-drop}
use lib.Seq.{sets, sets-eq, set-append_left, get_or-set_other, length-take-le, take_at, drop_at, take-append-le, drop-append-le}
use lib.Seq.{drop-drop, get_or-take, get_or-drop}
use Rattle.lists.proofs.EachLaws.{each_drop}
use Rattle.registers.specs.Registers.{AreRegisters, split, shown_raw}
use Rattle.registers.proofs.Splitting.{split_shown}
use Rattle.registers.proofs.RegisterParts.{first_registers}

-- ---- Parts of a list

module _ {A : Type 0} where
  -- A part of the first of two lists is a part of both.
  pub part_of_first : (xs ys : List A) (a size : ℕ) → a + size ≤ length xs → take size (drop a (xs ++ ys)) ≡ take size (drop a xs)
  part_of_first xs ys a size h =
      ap (take size) (drop-append-le a xs ys (omega arith))
      ∙ take-append-le size (drop a xs) ys (omega (arith, length-drop a xs))

  -- Storing one value after the first list,
  set_append_right : (xs ys : List A) (i : ℕ) (a : A) → set (xs ++ ys) (length xs + i) a ≡ xs ++ set ys i a
  set_append_right [] ys i a = ap (λ k. set ys k a) (zero-add i)
  set_append_right (x ∷ xs) ys i a =
      ap (λ k. set (x ∷ (xs ++ ys)) k a) (suc-add (length xs) i) ∙ ap (λ zs. x ∷ zs) (set_append_right xs ys i a)

  -- and storing a run there.
  pub sets_append_right : (vs xs ys : List A) (i : ℕ) → sets (xs ++ ys) (length xs + i) vs ≡ xs ++ sets ys i vs
  sets_append_right [] xs ys i = refl
  sets_append_right (v ∷ vs) xs ys i =
      let next : suc (length xs + i) ≡ length xs + suc i = omega arith in
      ap (λ zs. sets zs (suc (length xs + i)) vs) (set_append_right xs ys i v)
      ∙ ap (λ k. sets (xs ++ set ys i v) k vs) next
      ∙ sets_append_right vs xs (set ys i v) (suc i)

  -- Storing a run within the first list.
  pub sets_within : (vs xs ys : List A) (i : ℕ) → i + length vs ≤ length xs → sets (xs ++ ys) i vs ≡ sets xs i vs ++ ys
  sets_within [] xs ys i h = refl
  sets_within (v ∷ vs) xs ys i h =
      let same = length-set xs i v in
      ap (λ zs. sets zs (suc i) vs) (set-append_left xs ys i v (omega arith))
      ∙ sets_within vs (set xs i v) ys (suc i) (omega arith)

-- ---- A run stored in a list

module _ {A : Type 0} (l : List A) (at : ℕ) (vs : List A) where
  -- Elements before or after the run stay.
  pub stored_outside : (k : ℕ) (d : A) → (k < at) ⊎ (at + length vs ≤ k) → get_or (sets l at vs) k d ≡ get_or l k d
  stored_outside = go vs l at
    where
      go : (vs l : List A) (at k : ℕ) (d : A) → (k < at) ⊎ (at + length vs ≤ k) → get_or (sets l at vs) k d ≡ get_or l k d
      go [] l at k d h = refl
      go (v ∷ vs) l at k d h =
          let other : k ≡ at → ⊥ = λ e. ⊎_elim (λ b. omega arith) (λ b. omega arith) h in
          let rest : (k < suc at) ⊎ (suc at + length vs ≤ k) = ⊎_elim (λ b. inl (omega arith)) (λ b. inr (omega arith)) h in
          go vs (set l at v) (suc at) k d rest ∙ get_or-set_other l at k v d other

  module _ (inside : at + length vs ≤ length l) where
    -- The list with the run stored.
    abbrev after : List A
    after = sets l at vs

    -- It consists of the part before the run, the run, and the part after it.
    parts : after ≡ take at l ++ (vs ++ drop (at + length vs) l)
    parts = sets-eq vs l at inside ∙ append_assoc (take at l) vs (drop (at + length vs) l)

    -- The part before the run has `at` elements.
    preceding : length (take at l) ≡ at
    preceding = length-take-le at l (omega arith)

    -- The list from the run on.
    from_run : drop at after ≡ vs ++ drop (at + length vs) l
    from_run = rw parts (drop_at (take at l) (vs ++ drop (at + length vs) l) at preceding)

    -- The run is read back.
    pub run_stored : take (length vs) (drop at after) ≡ vs
    run_stored = rw from_run (take_at vs (drop (at + length vs) l) (length vs) refl)

    -- Its first element is read back.
    pub first_stored : (d : A) → 1 ≤ length vs → get_or after at d ≡ get_or vs 0 d
    first_stored d some =
        ap (λ (i : ℕ). get_or after i d) (sym (add-zero at))
        ∙ sym (get_or-drop at after 0 d)
        ∙ sym (get_or-take (length vs) (drop at after) 0 d (omega arith))
        ∙ ap (λ (xs : List A). get_or xs 0 d) run_stored

    -- The list after the run.
    from_after : drop (at + length vs) after ≡ drop (at + length vs) l
    from_after =
        sym (drop-drop (length vs) at after)
        ∙ ap (drop (length vs)) from_run
        ∙ drop_at vs (drop (at + length vs) l) (length vs) refl

    -- A part before or after the run stays.
    pub part_stays : (a size : ℕ) → (a + size ≤ at) ⊎ (at + length vs ≤ a) → take size (drop a after) ≡ take size (drop a l)
    part_stays a size (inr following) =
        let e : at + length vs + (a - (at + length vs)) ≡ a = omega arith in
        let k = a - (at + length vs) in
        let same : drop a after ≡ drop a l =
        ap (λ (i : ℕ). drop i after) (sym e) ∙ sym (drop-drop k (at + length vs) after) ∙ ap (drop k) from_after
        ∙ drop-drop k (at + length vs) l ∙ ap (λ (i : ℕ). drop i l) e in
        ap (take size) same
    part_stays a size (inl before) =
        let T = take at l in
        let capacity : a + size ≤ length T = omega (arith, preceding) in
        ap (λ (xs : List A). take size (drop a xs)) parts
        ∙ part_of_first T (vs ++ drop (at + length vs) l) a size capacity
        ∙ sym (part_of_first T (drop at l) a size capacity)
        ∙ ap (λ (xs : List A). take size (drop a xs)) (take-append-drop at l)

-- Storing a part where it already is changes nothing.
stored_same : {A : Type 0} (l : List A) (at n : ℕ) → at + n ≤ length l → sets l at (take n (drop at l)) ≡ l
stored_same l at n h =
    let part = take n (drop at l) in
    let left = length-drop at l in
    let long : length part ≡ n = length-take-le n (drop at l) (omega arith) in
    let following : drop (at + length part) l ≡ drop n (drop at l) = ap (λ k. drop (at + k) l) long ∙ sym (drop-drop n at l) in
    parts l at part (omega arith)
    ∙ ap (λ zs. take at l ++ (part ++ zs)) following
    ∙ ap (λ zs. take at l ++ zs) (take-append-drop n (drop at l))
    ∙ take-append-drop at l

-- Writing the raw value that a part of up to four registers shows leaves them as they were.
pub shown_stored : (map : List ℕ) → AreRegisters map → (at size raw : ℕ) → at + size ≤ length map → size ≤ 4
    → raw ≡ shown_raw (take size (drop at map)) → sets map at (split size raw) ≡ map
shown_stored map a at size raw inside small e =
    let part = take size (drop at map) in
    let left = length-drop at map in
    let long : length part ≡ size = length-take-le size (drop at map) (omega arith) in
    let registers = first_registers size (drop at map) (each_drop (λ r. r < 65536) at map a) in
    let back : split size raw ≡ part =
    ap (split size) e ∙ ap (λ k. split k (shown_raw part)) (sym long) ∙ split_shown part registers (omega arith) in
    ap (sets map at) back ∙ stored_same map at size inside
