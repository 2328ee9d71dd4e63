use Rattle.std.proofs.Common.{◌∙◌, true, false, get_or, sym, ap}
use Rattle.namespace_id.specs.Answers.{refusal_in}
use Rattle.celestia_pb.proofs.NamespaceDataLoops.{left_wrong, refusal_after, left_past, err_refusal}
use Rattle.celestia_pb.proofs.namespace_data.look_along.Goals as goal

-- a message is wrong
pub returns-in_err-_parts : goal.returns-in_err-_parts
returns-in_err-_parts c =
    err_refusal c.from_residual.result _ c.from_residual.ensures
    ∙ sym (c.loop.invariant
    ∙ ap refusal_in (left_wrong c.args.rows.now c.loop.counter 0 c.loop.rest.now c.loop-test.true c.in_err-_parts.field-0.0
    (c.in_err-_parts.ensures.value (get_or c.args.rows.now c.loop.counter 0))))

-- one is right
pub loop-preserved : goal.loop-preserved
loop-preserved c =
    c.loop.invariant
    ∙ refusal_after c.args.rows.now c.loop.counter 0 c.loop.rest.now c.loop-test.true _ c.in_ok-_parts.after.now
    (c.in_ok-_parts.ensures.value (get_or c.args.rows.now c.loop.counter 0))

-- something follows the last
pub returns-then-not-is_empty : goal.returns-then-not-is_empty
returns-then-not-is_empty c =
    sym (c.loop.invariant
    ∙ ap refusal_in (left_past c.args.rows.now c.loop.counter c.loop.rest.now c.loop-test.false false (sym c.is_empty.ensures ∙ c.if-not-is_empty.true)))

-- nothing does
pub returns : goal.returns
returns c =
    sym (c.loop.invariant
    ∙ ap refusal_in (left_past c.args.rows.now c.loop.counter c.loop.rest.now c.loop-test.false true (sym c.is_empty.ensures ∙ c.if-not-is_empty.false)))
