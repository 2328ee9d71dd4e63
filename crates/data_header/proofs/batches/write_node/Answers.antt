use Rattle.std.proofs.Common.{arith}
use Rattle.multi_sha256.proofs.MessageLemmas.{byte_and_two}
use Rattle.data_header.proofs.batches.write_node.Goals as goal

pub returns : goal.returns
returns c =
    byte_and_two 1 c.args.message.now c.args.left.now c.args.right.now c.write_at.new.bytes c.write_at-2.new.bytes 33 65
    (omega arith) (omega arith) (omega arith) c.write_at.ensures c.write_at-2.ensures
