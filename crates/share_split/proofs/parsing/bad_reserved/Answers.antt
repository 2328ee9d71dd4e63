use Rattle.std.proofs.Common.{◌∙◌, ap, arith, ◌+◌, ℕ}
use Rattle.share_split.specs.Units.{starts_on}
use Rattle.share_split.proofs.Reading.Reserved.{reserved_more, reserved_stop, reserved_end}
use Rattle.share_split.proofs.parsing.bad_reserved.Goals as goal

-- this share is the first bad one
pub returns-then-reserved-first_place : goal.returns-then-reserved-first_place
returns-then-reserved-first_place c =
    reserved_stop c.loop-i.i c.reserved.result c.first_place.result c.loop-i.left.now c.starts_on-left.result.now c.args.shares.now _ _ c.loop-i-test.true
    (c.starts_on-left.ensures ∙ ap (λ (from : ℕ). starts_on from c.loop-i.left.now) c.content_start.ensures) c.reserved.ensures c.first_place.ensures
    c.if-reserved-first_place.true c.loop-i.invariant

-- one share more is good
pub loop-i-preserved : goal.loop-i-preserved
loop-i-preserved c =
    reserved_more c.loop-i.i (c.loop-i.i + 1) c.reserved.result c.first_place.result c.loop-i.left.now c.starts_on-left.result.now c.args.shares.now _ _ c.loop-i-test.true (omega arith)
    (c.starts_on-left.ensures ∙ ap (λ (from : ℕ). starts_on from c.loop-i.left.now) c.content_start.ensures) c.reserved.ensures c.first_place.ensures
    c.if-reserved-first_place.false c.loop-i.invariant

-- no share is left
pub returns : goal.returns
returns c = reserved_end c.loop-i.i c.loop-i.left.now c.args.shares.now _ c.loop-i-test.false c.loop-i.invariant
