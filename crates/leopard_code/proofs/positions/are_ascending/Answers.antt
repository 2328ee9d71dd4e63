use Rattle.std.proofs.Common.{◌≡◌, ◌-◌, ℕ, List, true, false, get_or, arith}
use Rattle.std.specs.Prelude.{nat_lt}
use Rattle.std.proofs.lemmas.Bool.{lt-ltb, le-ltb}
use Rattle.namespace_id.proofs.AlongLemmas.{along_fails, along_on, along_end}
use Rattle.leopard_code.proofs.positions.are_ascending.Goals as goal

pub returns-then-known-i : goal.returns-then-known-i
returns-then-known-i c =
    let ps : List ℕ = c.args.known.now in
    let fails : nat_lt (get_or ps (c.loop-i.i - 1) 0) (get_or ps c.loop-i.i 0) ≡ false = le-ltb _ _ (omega arith) in
    along_fails nat_lt ps c.loop-i.i 0 c.loop-i.auto.i c.loop-i-test.true fails c.loop-i.invariant

pub loop-i-preserved : goal.loop-i-preserved
loop-i-preserved c =
    let ps : List ℕ = c.args.known.now in
    let holds : nat_lt (get_or ps (c.loop-i.i - 1) 0) (get_or ps c.loop-i.i 0) ≡ true = lt-ltb _ _ (omega arith) in
    along_on nat_lt ps c.loop-i.i 0 c.loop-i.auto.i c.loop-i-test.true holds c.loop-i.invariant

pub returns : goal.returns
returns c = along_end nat_lt c.args.known.now c.loop-i.i c.loop-i-test.false c.loop-i.invariant
