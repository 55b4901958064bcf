-- `digits`: each digit is stored before those after it.
use mathlib.Core.Path.{◌≡◌, refl, sym, ap, ◌∙◌}
use Prim.Native.Nat.{ℕ, suc, ◌+◌, ◌-◌, ◌/◌, ◌%◌, ◌^◌}
use native.Mathlib.Nat.{div-one, div-div-eq-div-mul, pow-suc}
use native.Mathlib.Omega.{arith}
use lib.Seq.{sets}
use Rattle.display.specs.Decimals.{digit_at, last_digits}
use Rattle.display.proofs.AppendedTexts.{appended}
use Rattle.display.proofs.DigitTexts.{digits_length, store_digit}
use Rattle.display.proofs.decimals.Text.digits.Goals as goal

pub loop-i-init : goal.loop-i-init
unfolding last_digits
loop-i-init c =
    let end = c.args.self.now.length + c.args.count in
    let none : end - end ≡ 0 = omega arith in
    rw none (record { from = omega arith; same_reference = refl; stored = refl; left = sym (div-one c.args.n) })

pub loop-i-preserved : goal.loop-i-preserved
loop-i-preserved c =
    let l = c.loop-i in
    let n = c.args.n in
    let out = c.args.self.now.out.now in
    let end = c.args.self.now.length + c.args.count in
    let i = l.i - 1 in
    let k = end - l.i in
    let next : l.i ≡ suc i = omega arith in
    let more : end - i ≡ suc k = omega arith in
    let digit : 48 + l.rest % 10 ≡ digit_at n k = ap (λ (r : ℕ). 48 + r % 10) l.invariant.left in
    let after : l.self.out.now ≡ sets out (suc i) (last_digits k n) =
    l.invariant.stored ∙ ap (λ (j : ℕ). sets out j (last_digits k n)) next in
    let tenth : l.rest / 10 ≡ n / 10 ^ suc k = ap (λ (r : ℕ). r / 10) l.invariant.left ∙ rw (div-div-eq-div-mul, pow-suc 10 k) in
    record {
      from = omega arith;
      same_reference = l.invariant.same_reference;
      stored = rw (after, digit, more) (store_digit out i k n);
      left = rw more tenth;
    }

pub returns-clause-added : goal.returns-clause-added
returns-clause-added c =
    let l = c.loop-i in
    let a = c.args in
    let at = a.self.now.length in
    let first : l.i ≡ at = omega arith in
    let all : at + a.count - at ≡ a.count = omega arith in
    appended l.invariant.same_reference (record { stored = rw (first, all) at l.invariant.stored; ends = omega (arith, digits_length a.count a.n) })
