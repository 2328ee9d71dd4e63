use Rattle.std.proofs.Common.{◌*◌, length, ap, arith}
use Rattle.square_layout.specs.Refusals.{max_shares}
use Rattle.square_layout.proofs.LaidLemmas.{square_fits, laid_fits, compact_there, blobs_fit, laid_there, padded_there}
use Rattle.square_layout.proofs.laying.shares_of.Goals as goal

pub put_blobs-requires-clause-fits : goal.put_blobs-requires-clause-fits
put_blobs-requires-clause-fits c =
    let compact = compact_there c.args.block.now c.in-Ok.shares.items c.put_compact.new.out.items c.in-Ok.ensures.items c.in_ok-put_compact.ensures in
    blobs_fit c.args.block.now c.put_compact.new.out.items _ max_shares compact c.requires.order (omega (arith, c.requires.fits, square_fits c.args.k c.requires.width))

pub put_padding-requires : goal.put_padding-requires
put_padding-requires c =
    let compact = compact_there c.args.block.now c.in-Ok.shares.items c.put_compact.new.out.items c.in-Ok.ensures.items c.in_ok-put_compact.ensures in
    let all = laid_there c.args.block.now c.padding_share-reserved.result c.put_compact.new.out.items c.put_blobs.new.out.items _ c.padding_share-reserved.ensures compact c.requires.order c.in_ok-put_blobs.ensures in
    omega (arith, ap length all, laid_fits c.args.block.now (c.args.k * c.args.k) c.requires.fits, c.square_size-2.ensures)

pub returns : goal.returns
returns c =
    let compact = compact_there c.args.block.now c.in-Ok.shares.items c.put_compact.new.out.items c.in-Ok.ensures.items c.in_ok-put_compact.ensures in
    let all = laid_there c.args.block.now c.padding_share-reserved.result c.put_compact.new.out.items c.put_blobs.new.out.items _ c.padding_share-reserved.ensures compact c.requires.order c.in_ok-put_blobs.ensures in
    padded_there c.args.block.now c.padding_share-tail.result c.put_blobs.new.out.items c.put_padding.new.out.items (c.args.k * c.args.k) c.square_size-2.result c.padding_share-tail.ensures all c.square_size-2.ensures c.in_ok-put_padding.ensures
