-- `writing::write` meets its contract: by what `find` and `judge` return.
use mathlib.Core.Path.{◌≡◌, refl, sym, ap, ◌∙◌}
use mathlib.Core.List.{List}
use Prim.Native.Nat.{ℕ}
use Rattle.std.specs.Prelude.{Ok, Err}
use Rattle.std.proofs.lemmas.Result.{err_from_is_err_and}
use Rattle.refusals.specs.Refusals.{number}
use Rattle.refusals.specs.declared.Refusal.{Refusal}
use Rattle.listing.specs.Finding.{finding}
use Rattle.listing.specs.Finding as Finding
use Rattle.listing.specs.CodeTypes.{to_spec_target}
use Rattle.writing.specs.Writing.{result, map_after, writing}
use Rattle.writing.specs.CodeTypes.{Written, to_spec_written}
use Rattle.writing.specs.Calls.{WriteCall}
use Rattle.writing.proofs.DecidedByTarget.{writing_by, by_target}
use Rattle.writing.proofs.FoundTargets.{target_inside, refuses, takes}
use Rattle.writing.proofs.WritingCases.{refusal_none}
use Rattle.writing.proofs.write.Goals as goal

-- If result and map are those of writing by what `find` returned, the contract holds.
called : (catalog map : List ℕ) (index point : ℕ) (path : List ℕ) (raw : ℕ) (f : Finding.Result)
    → f ≡ Finding.result (finding catalog map index point path) → (returned : Written) (after : List ℕ)
    → (to_spec_written returned ≡ result (writing_by f raw map)) × (after ≡ map_after (writing_by f raw map) map)
    → record {
      result_value : to_spec_written returned ≡ result (writing catalog map index point path raw);
      map_after : after ≡ map_after (writing catalog map index point path raw) map;
      write_call : WriteCall catalog map index point path raw returned after;
    }
called catalog map index point path raw f found returned after w =
    let a = ap (λ x. writing_by x raw map) found ∙ sym (by_target catalog map index point path raw) in
    let e = w.0 ∙ ap result a in
    let l = w.1 ∙ ap (λ x. map_after x map) a in
    record { result_value = e; map_after = l; write_call = record { result = e; leaves = l } }

pub returns-in_err-found : goal.returns-in_err-found
returns-in_err-found c =
    let a = c.args in
    let r = c.in_err-found.field-0.0 in
    let p = err_from_is_err_and c.from_residual.result c.from_residual.ensures.1 in
    rw (p.1, p.2) (called a.catalog.now a.map.now a.model a.point a.path.instances a.raw
    (Finding.refused_result (number r.refusal) r.place) c.in_err-found.ensures (Err r) a.map.now (refl, refl))

pub returns-in_err-target : goal.returns-in_err-target
returns-in_err-target c =
    let a = c.args in
    let p = err_from_is_err_and c.from_residual-in_err-target.result c.from_residual-in_err-target.ensures.1 in
    let none = c.in_err-target.ensures.ok_part in
    let f = rw none at c.in_ok-found.ensures in
    let r = rw none at c.in_err-target.ensures.value in
    let is : c.in_err-target.field-0.0 ≡ Refusal.NoSuchPoint = cc in
    rw (p.1, p.2, is) (called a.catalog.now a.map.now a.model a.point a.path.instances a.raw Finding.nothing_result f
    (Err (record { refusal = Refusal.NoSuchPoint; place = 0 })) a.map.now (refl, refl))

pub returns-in_err-judge : goal.returns-in_err-judge
returns-in_err-judge c =
    let a = c.args in
    let t = c.in_ok-target.target in
    let p = err_from_is_err_and c.from_residual-in_err-judge.result c.from_residual-in_err-judge.ensures.1 in
    let f = rw c.in_ok-target.ensures.ok_part at c.in_ok-found.ensures in
    rw (p.1, p.2) (called a.catalog.now a.map.now a.model a.point a.path.instances a.raw
    (Finding.found_result (to_spec_target t)) f (Err (record { refusal = c.in_err-judge.field-0.0; place = 0 })) a.map.now
    (refuses (to_spec_target t) a.raw a.map.now c.in_err-judge.ensures))

pub put_registers-requires : goal.put_registers-requires
put_registers-requires c =
    let a = c.args in
    let t = to_spec_target c.in_ok-target.target in
    let f = rw c.in_ok-target.ensures.ok_part at c.in_ok-found.ensures in (
      (refusal_none t a.raw (sym c.in_ok-judge.ensures)).small,
      target_inside a.catalog.now a.map.now a.model a.point a.path.instances t f,
    )

pub returns : goal.returns
returns c =
    let a = c.args in
    let t = to_spec_target c.in_ok-target.target in
    let f = rw c.in_ok-target.ensures.ok_part at c.in_ok-found.ensures in
    called a.catalog.now a.map.now a.model a.point a.path.instances a.raw (Finding.found_result t) f (Ok tt) c.put_registers.new.map
    (takes t a.raw a.map.now c.in_ok-judge.ensures c.put_registers.ensures)
