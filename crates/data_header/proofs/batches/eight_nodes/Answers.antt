use Rattle.std.proofs.Common.{◌∙◌, ◌∷◌, ◌++◌, ◌+◌, ◌*◌, ap, arith}
use Rattle.std.proofs.lemmas.List.{length-set}
use Rattle.sha2.specs.Sha256.{sha256}
use Rattle.multi_sha256.proofs.MessageLemmas.{message_more}
use Rattle.data_header.specs.DataRoots.{inner_hash}
use Rattle.data_header.specs.HashTrees.{hash_at}
use Rattle.data_header.proofs.batches.eight_nodes.Goals as goal

pub messages-init : goal.messages-init
messages-init c = record { count = omega arith; done = λ j h. absurd (omega arith) }

pub messages-preserved : goal.messages-preserved
messages-preserved c = record {
  count = length-set c.messages.messages c.messages.j c.write_node.new.message ∙ c.messages.invariant.count;
  done = message_more 65 c.messages.messages (λ j. 1 ∷ hash_at c.args.level.now (2 * j) ++ hash_at c.args.level.now (2 * j + 1)) c.messages.j c.write_node.new.message (omega arith) c.write_node.ensures c.messages.invariant.done;
}

pub returns : goal.returns
unfolding inner_hash
returns c j h = c.digests.ensures j h ∙ ap sha256 (c.messages.invariant.done j (omega arith))
