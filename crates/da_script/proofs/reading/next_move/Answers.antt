use Rattle.std.proofs.Common.{◌∙◌, ◌∷◌, ℕ, List, ap, sym, arith}
use Rattle.std.proofs.lemmas.List.{take_rest}
use Rattle.da_wire.specs.Walks.{walk_from}
use Rattle.da_wire.proofs.WalkLemmas.{walk_on, walk_stop}
use Rattle.da_script.specs.Scripts.{move_at}
use Rattle.da_script.proofs.ReadingLemmas.{found_here, missed_here}
use Rattle.da_script.proofs.reading.next_move.Goals as goal

pub returns-in-Some-clause-moves : goal.returns-in-Some-clause-moves
returns-in-Some-clause-moves c =
    let bytes : List ℕ = c.args.bytes.now in
    let found = found_here c.move_at.result (move_at c.args.items bytes) c.in-Some.one c.move_at.ensures.value c.in-Some.is in
    walk_on (move_at c.args.items) bytes c.in-Some.one 7 found (omega arith) (omega (arith, c.in-Some.ensures.within))
    ∙ ap (λ (l : List ℕ). c.in-Some.one ∷ walk_from (move_at c.args.items) 0 l) (sym (take_rest bytes 7))

pub returns-in-None-clause-moves : goal.returns-in-None-clause-moves
returns-in-None-clause-moves c =
    walk_stop (move_at c.args.items) c.args.bytes.now
    (missed_here c.move_at.result (move_at c.args.items c.args.bytes.now) c.move_at.ensures.value c.in-None.is)
