use Rattle.std.proofs.Common.{◌≡◌, ◌∙◌, ◌-◌, ℕ, List, true, false, length, map, get_or, sym, ap₂, arith}
use Rattle.std.specs.Prelude.{nat_lt}
use Rattle.std.proofs.lemmas.Bool.{lt-ltb, le-ltb}
use Rattle.std.proofs.lemmas.List.{length-map, get_or-map}
use Rattle.namespace_id.proofs.AlongLemmas.{along_fails, along_on, along_end}
use Rattle.axis_roots.specs.Messages.{position}
use Rattle.axis_roots.proofs.message.messages.are_ascending.Goals as goal

-- a position that isn't below the next one
pub returns-then-position : goal.returns-then-position
returns-then-position c =
    let ps : List ℕ = map (λ m. position c.args.axis m.cell) c.args.cells.now in
    let many : length ps ≡ length c.args.cells.now = length-map c.args.cells.now (λ m. position c.args.axis m.cell) in
    let fails : nat_lt (get_or ps (c.loop-i.i - 1) 0) (get_or ps c.loop-i.i 0) ≡ false =
    ap₂ nat_lt (get_or-map (λ m. position c.args.axis m.cell) c.args.cells.now (c.loop-i.i - 1) c.index-cells-i.result 0 (omega arith) ∙ sym c.position.ensures)
    (get_or-map (λ m. position c.args.axis m.cell) c.args.cells.now c.loop-i.i c.index-cells-i-in-loop-i.result 0 (omega arith) ∙ sym c.position-in-loop-i.ensures)
    ∙ le-ltb _ _ c.if-position.true in
    along_fails nat_lt ps c.loop-i.i 0 c.loop-i.auto.i (omega (arith, many, c.loop-i-test.true)) fails c.loop-i.invariant

-- one that is
pub loop-i-preserved : goal.loop-i-preserved
loop-i-preserved c =
    let ps : List ℕ = map (λ m. position c.args.axis m.cell) c.args.cells.now in
    let many : length ps ≡ length c.args.cells.now = length-map c.args.cells.now (λ m. position c.args.axis m.cell) in
    let holds : nat_lt (get_or ps (c.loop-i.i - 1) 0) (get_or ps c.loop-i.i 0) ≡ true =
    ap₂ nat_lt (get_or-map (λ m. position c.args.axis m.cell) c.args.cells.now (c.loop-i.i - 1) c.index-cells-i.result 0 (omega arith) ∙ sym c.position.ensures)
    (get_or-map (λ m. position c.args.axis m.cell) c.args.cells.now c.loop-i.i c.index-cells-i-in-loop-i.result 0 (omega arith) ∙ sym c.position-in-loop-i.ensures)
    ∙ lt-ltb _ _ c.if-position.false in
    along_on nat_lt ps c.loop-i.i 0 c.loop-i.auto.i (omega (arith, many, c.loop-i-test.true)) holds c.loop-i.invariant

-- all are
pub returns : goal.returns
returns c =
    let ps : List ℕ = map (λ m. position c.args.axis m.cell) c.args.cells.now in
    let many : length ps ≡ length c.args.cells.now = length-map c.args.cells.now (λ m. position c.args.axis m.cell) in
    along_end nat_lt ps c.loop-i.i (omega (arith, many, c.loop-i-test.false)) c.loop-i.invariant
