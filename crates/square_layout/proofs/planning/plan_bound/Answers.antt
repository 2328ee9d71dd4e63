use Rattle.std.proofs.Common.{arith}
use Rattle.square_layout.proofs.CountLemmas.{drop-lent, drop-lent_all, have_bytes-next}
use Rattle.square_layout.proofs.PlanLemmas.{bound_on, bound_all}
use Rattle.square_layout.proofs.planning.plan_bound.Goals as goal

pub blob_bound-requires : goal.blob_bound-requires
blob_bound-requires c =
    let left = drop-lent c.args.blobs.now c.loop-blob.blob-index c.blob-item.result c.loop-blob-test.true c.blob-item.is in
    (have_bytes-next _ _ _ left c.loop-blob.invariant.some).0

pub loop-blob-preserved : goal.loop-blob-preserved
loop-blob-preserved c =
    let left = drop-lent c.args.blobs.now c.loop-blob.blob-index c.blob-item.result c.loop-blob-test.true c.blob-item.is in
    record {
      value = bound_on c.loop-blob.most c.saturating_add-most.result _ c.blob-item.result.now _ _ left
          (omega (arith, c.saturating_add-most.ensures, c.blob_bound.ensures)) c.loop-blob.invariant.value;
      some = (have_bytes-next _ _ _ left c.loop-blob.invariant.some).1;
      fits = omega (arith, c.saturating_add-most.ensures);
    }

pub returns : goal.returns
returns c =
    bound_all c.loop-blob.most _ _ (drop-lent_all c.args.blobs.now c.loop-blob.blob-index c.loop-blob-test.false)
    c.loop-blob.invariant.fits c.loop-blob.invariant.value
