use Rattle.std.proofs.Common.{arith}
use Rattle.share_split.specs.Blobs.{info}
use Rattle.share_split.proofs.Writing.Share.{begun_written}
use Rattle.share_split.proofs.blobs.begun.Goals as goal

pub returns-clause-value : goal.returns-clause-value
returns-clause-value c =
    begun_written c.args.namespace.now.0 c.write_at.new.bytes c.write_at-2.new.bytes c.info.result (info c.args.version c.args.start)
    (omega arith) c.info.ensures c.write_at.ensures c.write_at-2.ensures
