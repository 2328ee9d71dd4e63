use Rattle.std.proofs.lemmas.Result.{err_from_is_err_and}
use Rattle.std.proofs.Common.{◌∙◌, sym, ap, inr, Err}
use Rattle.share_split.specs.Walks.{Sequence}
use Rattle.share_split.proofs.Reading.UnitWalk.{sequence_more, sequence_stop, sequence_end, sequence_from-none, sequence_from-whole, sequence_from-open}
use Rattle.share_split.specs.declared.joining.JoinError.TheVariants.{Short}
use Rattle.share_split.proofs.joining.unit_sequence.Goals as goal

-- a check of the share failed, or memory ran out
pub returns-in_err-with_unit_share : goal.returns-in_err-with_unit_share
returns-in_err-with_unit_share c =
    let p = err_from_is_err_and c.from_residual.result c.from_residual.ensures.1 in
    rw (p.1, p.2) (sequence_stop c.loop-i.i c.args.shares.now _ c.loop-i.open _ c.in_err-with_unit_share.field-0.0 c.loop-i-test.true c.in_err-with_unit_share.ensures c.loop-i.invariant)

-- one share more was read
pub loop-i-preserved : goal.loop-i-preserved
loop-i-preserved c =
    sequence_more c.loop-i.i c.args.shares.now _ c.loop-i.open c.in_ok-with_unit_share.field-0 _
    c.loop-i-test.true c.in_ok-with_unit_share.ensures.0 c.in_ok-with_unit_share.ensures.1 c.loop-i.invariant

-- no share is left, and the sequence is open
pub returns-then-not-is_complete : goal.returns-then-not-is_complete
returns-then-not-is_complete c =
    inr (sequence_end c.loop-i.i c.args.shares.now _ _ c.loop-i-test.false (rw c.in-Some.is at c.loop-i.invariant)
    ∙ sequence_from-open c.loop-i.i c.in-Some.open (sym c.is_complete.ensures ∙ c.if-not-is_complete.true)
    ∙ ap (λ (s : Sequence). Err (Short s.first)) (sym c.open.view_is))

-- there were no shares
pub returns-in-None : goal.returns-in-None
returns-in-None c =
    sequence_end c.loop-i.i c.args.shares.now _ _ c.loop-i-test.false (rw c.in-None.is at c.loop-i.invariant) ∙ sequence_from-none c.loop-i.i

-- no share is left, and the sequence is complete
pub returns-else-not-is_complete : goal.returns-else-not-is_complete
returns-else-not-is_complete c =
    sequence_end c.loop-i.i c.args.shares.now _ _ c.loop-i-test.false (rw c.in-Some.is at c.loop-i.invariant)
    ∙ sequence_from-whole c.loop-i.i c.in-Some.open (sym c.is_complete.ensures ∙ c.if-not-is_complete.false)
