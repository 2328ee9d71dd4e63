use Rattle.std.proofs.Common.{◌≡◌, ◌∙◌, ◌+◌, ◌<◌, ◌≤◌, sym, ap, arith, drop, length, List, ℕ, None, length-drop}
use Rattle.std.proofs.lemmas.List.{drop-drop, take_rest}
use Rattle.da_wire.specs.Walks.{stop_from}
use Rattle.da_wire.proofs.WalkLemmas.{stop_on, stop_here, stop_end}
use Rattle.da_script.specs.Scripts.{move_at}
use Rattle.da_script.proofs.ReadingLemmas.{found_here, missed_here, bad_behind}
use Rattle.da_script.proofs.reading.bad_script.Goals as goal

pub loop-at-preserved : goal.loop-at-preserved
loop-at-preserved c =
    let bytes : List ℕ = c.args.script.now in
    let items : ℕ = c.args.items in
    let at : ℕ = c.loop-at.at in
    let some : 0 < length (drop at bytes) = omega (arith, c.loop-at-test.true, length-drop at bytes) in
    let found = ap (move_at items) (sym (take_rest bytes at)) ∙ found_here c.move_at.result _ c.in-Some.field-0 c.move_at.ensures.value c.in-Some.is in
    let on = stop_on (move_at items) at (drop at bytes) c.in-Some.field-0 7 found (omega arith) some in
    record {
      within = omega (arith, c.in-Some.ensures.within, ap length (take_rest bytes at), length-drop at bytes, c.loop-at-test.true);
      rest = ap (λ (l : List ℕ). stop_from (move_at items) 0 (at + 7) l) (sym (drop-drop 7 at bytes)) ∙ sym on ∙ c.loop-at.invariant.rest;
    }

pub returns-in-None : goal.returns-in-None
returns-in-None c =
    let bytes : List ℕ = c.args.script.now in
    let items : ℕ = c.args.items in
    let at : ℕ = c.loop-at.at in
    let some : 0 < length (drop at bytes) = omega (arith, c.loop-at-test.true, length-drop at bytes) in
    let missed : move_at items (drop at bytes) ≡ None =
    ap (move_at items) (sym (take_rest bytes at)) ∙ missed_here c.move_at.result _ c.move_at.ensures.value c.in-None.is in
    sym (stop_here (move_at items) at (drop at bytes) missed some) ∙ c.loop-at.invariant.rest ∙ sym (bad_behind items bytes (omega arith))

pub returns : goal.returns
returns c =
    let bytes : List ℕ = c.args.script.now in
    let items : ℕ = c.args.items in
    let none : length (drop c.loop-at.at bytes) ≤ 0 = omega (arith, c.loop-at-test.false, length-drop c.loop-at.at bytes) in
    sym (stop_end (move_at items) c.loop-at.at (drop c.loop-at.at bytes) none) ∙ c.loop-at.invariant.rest ∙ sym (bad_behind items bytes (omega arith))
