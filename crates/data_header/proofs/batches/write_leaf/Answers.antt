use Rattle.std.proofs.Common.{arith}
use Rattle.multi_sha256.proofs.MessageLemmas.{byte_and_one}
use Rattle.data_header.proofs.batches.write_leaf.Goals as goal

pub returns : goal.returns
returns c = byte_and_one 0 c.args.message.now c.args.digest.now.0 c.write_at.new.bytes 91 (omega arith) (omega arith) c.write_at.ensures
