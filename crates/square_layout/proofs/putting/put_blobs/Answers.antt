use Rattle.std.proofs.Common.{◌≡◌, ◌∙◌, ◌+◌, ◌++◌, length, drop, ap}
use Rattle.namespace_id.specs.declared.shares.Share.{Share}
use Rattle.square_layout.specs.Layout.{placed_behind}
use Rattle.square_layout.proofs.CountLemmas.{lent, drop-lent, drop-lent_all, have_bytes-next}
use Rattle.square_layout.proofs.PutLemmas.{put_behind, put_on, put_end_of, put_all, next_fits}
use Rattle.square_layout.proofs.putting.put_blobs.Goals as goal

pub put_blob-requires-clause-some : goal.put_blob-requires-clause-some
put_blob-requires-clause-some c =
    let left = drop-lent c.args.blobs.now c.loop-blob.blob-index c.blob-item.result c.loop-blob-test.true c.blob-item.is in
    (have_bytes-next _ _ _ left c.loop-blob.invariant.some).0

pub put_blob-requires-clause-fits : goal.put_blob-requires-clause-fits
put_blob-requires-clause-fits c =
    let left = drop-lent c.args.blobs.now c.loop-blob.blob-index c.blob-item.result c.loop-blob-test.true c.blob-item.is in
    next_fits _ _ _ _ _ left c.loop-blob.invariant.fits

pub loop-blob-preserved : goal.loop-blob-preserved
loop-blob-preserved c =
    let left = drop-lent c.args.blobs.now c.loop-blob.blob-index c.blob-item.result c.loop-blob-test.true c.blob-item.is in
    let more : c.put_blob.new.out.items ≡ put_behind c.loop-blob.before c.blob-item.result.now c.loop-blob.out.items = c.in_ok-put_blob.ensures in
    record {
      all = ap (λ (gap : Share). c.put_blob.new.out.items ++ placed_behind c.args.versioned gap (length c.put_blob.new.out.items)
          (drop (c.loop-blob.blob-index + 1) (lent c.args.blobs.now))) c.gap_behind-before.ensures
          ∙ put_on c.args.versioned c.loop-blob.before c.blob-item.result.now _ _ c.loop-blob.out.items c.put_blob.new.out.items _ left more c.loop-blob.invariant.all;
      some = (have_bytes-next _ _ _ left c.loop-blob.invariant.some).1;
      fits = put_end_of c.loop-blob.before c.blob-item.result.now _ _ c.loop-blob.out.items c.put_blob.new.out.items _ left more c.loop-blob.invariant.fits;
    }

pub returns : goal.returns
returns c = put_all c.args.versioned c.loop-blob.before _ c.loop-blob.out.items _ (drop-lent_all c.args.blobs.now c.loop-blob.blob-index c.loop-blob-test.false) c.loop-blob.invariant.all
