use Rattle.std.proofs.Common.{◌∙◌, ◌+◌, ◌-◌, Option, Ok, ap}
use Rattle.namespace_id.specs.declared.shares.Share.{Share}
use Rattle.celestia_pb.specs.RowShares.{shares_at}
use Rattle.celestia_pb.specs.ShareLists.{share_behind}
use Rattle.celestia_pb.proofs.Steps.{err_reads}
use Rattle.celestia_pb.proofs.ShareLemmas.{shares_at-none, shares_at-end, shares_at-wrong}
use Rattle.celestia_pb.proofs.ValueLoops.{reading_stops, reading_ends, reading_refuses, counting_begins}
use Rattle.celestia_pb.proofs.ShareLoops.{share_goes}
use Rattle.celestia_pb.proofs.row_shares.count_shares.Goals as goal

-- all is left
pub loop-count-init : goal.loop-count-init
loop-count-init c = counting_begins (share_behind 6) 518 shares_at 512 c.args.bytes.now c.bytes_law.ensures

-- one is wrong
pub returns-in_err-share-clause-value : goal.returns-in_err-share-clause-value
returns-in_err-share-clause-value c =
    err_reads _ c.from_residual.result _ _
    (reading_refuses shares_at _ _ _ _ _ c.loop-count.invariant.all c.loop-count-test.true c.in_err-share.field-0.0
    (shares_at-wrong (512 - (c.loop-count.count + 1)) c.loop-count.rest.now c.in_err-share.field-0.0 c.in_err-share.ensures.value))
    c.from_residual.ensures

-- none is there
pub returns-in_default-clause-value : goal.returns-in_default-clause-value
returns-in_default-clause-value c =
    reading_stops shares_at _ _ _ _ _ c.loop-count.invariant.all
    (shares_at-end (512 - c.loop-count.count) c.loop-count.rest.now c.in_ok-share.after.now
    (c.in_ok-share.ensures.value ∙ ap (λ (o : Option Share). Ok (o, c.in_ok-share.after.now)) c.in_default.is))

-- one more is counted
pub loop-count-preserved : goal.loop-count-preserved
loop-count-preserved c =
    share_goes 512 c.args.bytes.now c.loop-count.count c.loop-count.rest.now c.loop-count.invariant c.loop-count-test.true c.in-Some._share c.in_ok-share.after.now
    (c.in_ok-share.ensures.value ∙ ap (λ (o : Option Share). Ok (o, c.in_ok-share.after.now)) c.in-Some.is)

-- no more may be there
pub returns-clause-value : goal.returns-clause-value
returns-clause-value c = reading_ends shares_at _ _ _ _ _ c.loop-count.invariant.all c.loop-count-test.false (shares_at-none c.loop-count.rest.now)
