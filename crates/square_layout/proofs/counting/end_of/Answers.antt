use Rattle.std.proofs.Common.{arith}
use Rattle.square_layout.proofs.CountLemmas.{drop-lent, drop-lent_all, have_bytes-next, counted_on, counted_all}
use Rattle.square_layout.proofs.counting.end_of.Goals as goal

pub end_after-end-requires : goal.end_after-end-requires
end_after-end-requires c =
    let left = drop-lent c.args.blobs.now c.loop-blob.blob-index c.blob-item.result c.loop-blob-test.true c.blob-item.is in
    (have_bytes-next _ _ _ left c.loop-blob.invariant.some).0

pub loop-blob-preserved : goal.loop-blob-preserved
loop-blob-preserved c =
    let left = drop-lent c.args.blobs.now c.loop-blob.blob-index c.blob-item.result c.loop-blob-test.true c.blob-item.is in
    record {
      value = counted_on c.loop-blob.end c.end_after-end.result _ c.blob-item.result.now _ _ left
          c.end_after-end.ensures c.loop-blob.invariant.value;
      some = (have_bytes-next _ _ _ left c.loop-blob.invariant.some).1;
      fits = omega (arith, c.end_after-end.ensures);
    }

pub returns : goal.returns
returns c =
    counted_all c.loop-blob.end _ _ (drop-lent_all c.args.blobs.now c.loop-blob.blob-index c.loop-blob-test.false)
    c.loop-blob.invariant.fits c.loop-blob.invariant.value
