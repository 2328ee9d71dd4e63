use Rattle.std.proofs.Common.{arith}
use Rattle.share_split.proofs.Writing.Share.{sequence_written}
use Rattle.share_split.proofs.blobs.sequence_share.Goals as goal

pub returns : goal.returns
returns c =
    sequence_written c.args.namespace.now c.args.version c.args.start c.args.field.now c.args.next.now c.args.content.now
    c.begun-share.result.0 c.write_at.new.bytes c.write_at-2.new.bytes c.write_at-3.new.bytes _
    c.begun-share.ensures.name c.requires.room (omega arith) c.begun-share.ensures.value c.write_at.ensures c.write_at-2.ensures c.write_at-3.ensures
