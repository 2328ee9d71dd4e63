use Rattle.std.proofs.Common.{replicate, arith}
use Rattle.nmt_tree.proofs.PartLemmas.{three_parts}
use Rattle.nmt_tree.proofs.hashing.digest_of.Goals as goal

pub returns : goal.returns
returns c =
    three_parts (replicate 90 0) c.args.least.now.0 c.args.greatest.now.0 c.args.hash.now c.write_at.new.bytes c.write_at-2.new.bytes c.write_at-3.new.bytes
    29 58 (omega arith) (omega arith) (omega arith) c.write_at.ensures c.write_at-2.ensures c.write_at-3.ensures
