-- `digits`: the digits from here on are stored, and `rest` has the ones before them.
use mathlib.Core.Path.{◌≡◌}
use Prim.Native.Nat.{◌-◌, ◌/◌, ◌^◌, ◌≤◌}
use lib.Seq.{sets}
use Rattle.display.specs.Decimals.{last_digits}
use Rattle.display.proofs.decimals.Text.digits.Given as goal

abbrev pub invariant-loop-i : goal.invariant-loop-i
invariant-loop-i l =
    record {
      from : l.initial.self.length ≤ l.i;
      same_reference : l.self.out.ghost_name ≡ l.initial.self.out.ghost_name;
      stored : l.self.out.now ≡ sets l.initial.self.out.now l.i (last_digits (l.end - l.i) l.n);
      left : l.rest ≡ l.n / 10 ^ (l.end - l.i);
    }
