-- Laws of `Marks`: numbers that are put into a set or taken out of it.
use mathlib.Core.Path.{◌≡◌, refl, sym, ◌∙◌}
use mathlib.Core.Bool.{Bool, true, false, ◌||◌}
use mathlib.Core.List.{List}
use Prim.Native.Nat.{ℕ, ◌<◌}
use lib.ListN.{length}
use Rattle.number_sets.specs.NumberSets.{in_set, Marks, Blank}

-- `such` holds for no number: the set stays.
pub marks_none : (s : List ℕ) (such : ℕ → Bool) (b : Bool) → ((n : ℕ) → such n ≡ false) → Marks s s such b
marks_none s such b e = record { words = refl; has = λ l n h. rw (e n) }

-- p and q hold for the same numbers.
pub marks_same : (before after : List ℕ) (p q : ℕ → Bool) (b : Bool) → ((n : ℕ) → p n ≡ q n) → Marks before after p b
    → Marks before after q b
marks_same before after p q b e m = record { words = m.words; has = λ l n h. rw (← e n) (m.has l n h) }

-- First the numbers of p are marked, then those of q.
pub marks_then : (before between after : List ℕ) (p q r : ℕ → Bool) (b : Bool) → Marks before between p b
    → Marks between after q b → ((n : ℕ) → r n ≡ p n || q n) → Marks before after r b
marks_then before between after p q r b x y e =
    record {
      words = y.words ∙ x.words;
      has = λ l n h.
          y.has (x.words ∙ l) n h ∙ go (p n) (q n) (r n) (in_set between n) (in_set before n) (e n) (x.has l n h);
    }
  where
    go : (p q r m s : Bool) → r ≡ p || q → m ≡ elim p [ true ↦ b | false ↦ s ]
        → ◌≡◌ {A = Bool} (elim q [ true ↦ b | false ↦ m ]) (elim r [ true ↦ b | false ↦ s ])
    go true true r m s e f = rw e
    go true false r m s e f = rw e f
    go false true r m s e f = rw e
    go false false r m s e f = rw e f

-- Numbers are put into an empty set and taken out again.
pub marks_back : (before between after : List ℕ) (p : ℕ → Bool) → Blank before → Marks before between p true
    → Marks between after p false → Marks before after (λ n. false) true
marks_back before between after p z x y =
    record {
      words = y.words ∙ x.words;
      has = λ l n h. y.has (x.words ∙ l) n h ∙ go (p n) (in_set between n) (in_set before n) (z.none n h) (x.has l n h);
    }
  where
    go : (p m s : Bool) → s ≡ false → m ≡ elim p [ true ↦ true | false ↦ s ]
        → ◌≡◌ {A = Bool} (elim p [ true ↦ false | false ↦ m ]) s
    go true m s e f = sym e
    go false m s e f = f

-- ---- The set afterwards

module _ (before after : List ℕ) (such : ℕ → Bool) (l : length before ≡ 1024) (n : ℕ) (h : n < 65536) where
  -- After numbers were put in, n is in the set if it is one of them or was there before.
  pub now_in : Marks before after such true → in_set after n ≡ such n || in_set before n
  now_in m = go (such n) (in_set before n) (in_set after n) (m.has l n h)
    where
      go : (a b x : Bool) → x ≡ elim a [ true ↦ true | false ↦ b ] → x ≡ a || b
      go true b x e = e
      go false b x e = e

  -- After numbers were taken out, those that were there before and are none of them are left.
  pub now_out : (b : Bool) → Marks before after such false → in_set before n ≡ such n || b → (such n ≡ true → b ≡ false)
      → in_set after n ≡ b
  now_out b m = go (such n) (in_set before n) (in_set after n) (m.has l n h)
    where
      go : (a s x : Bool) → x ≡ elim a [ true ↦ false | false ↦ s ] → s ≡ a || b → (a ≡ true → b ≡ false) → x ≡ b
      go true s x e f g = e ∙ sym (g refl)
      go false s x e f g = e ∙ f
