use Rattle.square_layout.proofs.CountLemmas.{drop-lent, drop-lent_all}
use Rattle.tx_list.proofs.PlaceLemmas.{numbered_on, numbered_all}
use Rattle.tx_list.proofs.placing.numbered.Goals as goal

pub loop-number-preserved : goal.loop-number-preserved
loop-number-preserved c =
    let left = drop-lent c.args.blobs.now c.loop-number.number c.index-blobs-number.result c.loop-number-test.true c.index-blobs-number.is in
    numbered_on (record { number = c.loop-number.number; blob = c.index-blobs-number.result }) _ _ c.loop-number.all.items c.push.new.self.items _
    left c.in-Ok.ensures.items c.loop-number.invariant

pub returns : goal.returns
returns c =
    numbered_all c.loop-number.number _ c.loop-number.all.items _
    (drop-lent_all c.args.blobs.now c.loop-number.number c.loop-number-test.false) c.loop-number.invariant
