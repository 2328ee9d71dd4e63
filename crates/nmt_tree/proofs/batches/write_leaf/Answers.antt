use Rattle.std.proofs.Common.{arith}
use Rattle.multi_sha256.proofs.MessageLemmas.{byte_and_two}
use Rattle.nmt_tree.proofs.batches.write_leaf.Goals as goal

pub returns : goal.returns
returns c =
    byte_and_two 0 c.args.message.now c.args.name.now.0 c.args.share.now.0 c.write_at.new.bytes c.write_at-2.new.bytes 30 542
    (omega arith) (omega arith) (omega arith) c.write_at.ensures c.write_at-2.ensures
