use Rattle.std.proofs.Common.{arith}
use Rattle.square_layout.proofs.PlaceLemmas.{start_after-ge}
use Rattle.square_layout.proofs.putting.put_blob.Goals as goal

pub put_padding-requires : goal.put_padding-requires
put_padding-requires c =
    let later = start_after-ge c.len.result c.args.blob.now in
    omega (arith, c.requires.fits, c.len.ensures, c.start_after-start.ensures)
