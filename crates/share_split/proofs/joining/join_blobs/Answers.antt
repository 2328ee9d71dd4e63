use Rattle.std.proofs.lemmas.Result.{err_from_is_err_and}
use Rattle.std.proofs.Common.{◌∙◌, sym, ap, Err, inr}
use Rattle.share_split.specs.declared.joining.JoinError.TheVariants.{Short}
use Rattle.share_split.specs.Walks.{Sequence}
use Rattle.share_split.proofs.Reading.BlobWalk.{blobs_more, blobs_stop, blobs_end, blobs_cut}
use Rattle.share_split.proofs.Reading.JoinLaws.{blobs_law}
use Rattle.share_split.proofs.joining.join_blobs.Goals as goal

-- a check of the share failed, or memory ran out
pub returns-in_err-sequence-clause-read : goal.returns-in_err-sequence-clause-read
returns-in_err-sequence-clause-read c =
    let p = err_from_is_err_and c.from_residual.result c.from_residual.ensures.1 in
    rw (p.1, p.2) (blobs_stop c.loop-i.i c.args.shares.now _ c.loop-i.open c.loop-i.blobs.items _ c.in_err-sequence.field-0.0 c.loop-i-test.true c.in_err-sequence.ensures c.loop-i.invariant)

-- one share more was read
pub loop-i-preserved : goal.loop-i-preserved
loop-i-preserved c =
    blobs_more c.loop-i.i c.args.shares.now _ c.loop-i.open c.in_ok-open.open c.in_ok-sequence.sequence c.loop-i.blobs.items c.closed.new.blobs.items _
    c.loop-i-test.true c.in_ok-sequence.ensures.0 c.in_ok-sequence.ensures.1 c.in_ok-open.ensures.left c.in_ok-open.ensures.appended c.loop-i.invariant

-- no share is left, and no sequence is open
pub returns-in-None-clause-read : goal.returns-in-None-clause-read
returns-in-None-clause-read c = blobs_end c.loop-i.i c.args.shares.now c.loop-i.blobs.items _ c.loop-i-test.false (rw c.in-None.is at c.loop-i.invariant)

-- shares that are read so are these blobs
pub returns-in-None-clause-blobs : goal.returns-in-None-clause-blobs
returns-in-None-clause-blobs c =
    (blobs_law c.args.shares.now c.loop-i.blobs.items c.shares_law.ensures).0
    (blobs_end c.loop-i.i c.args.shares.now c.loop-i.blobs.items _ c.loop-i-test.false (rw c.in-None.is at c.loop-i.invariant))

-- no share is left, and a sequence is open
pub returns-in-Some-clause-read : goal.returns-in-Some-clause-read
returns-in-Some-clause-read c =
    inr (blobs_cut c.loop-i.i c.args.shares.now c.loop-i.blobs.items _ c.in-Some.open c.loop-i-test.false (rw c.in-Some.is at c.loop-i.invariant)
    ∙ ap (λ (s : Sequence). Err (Short s.first)) (sym c.open.view_is))
