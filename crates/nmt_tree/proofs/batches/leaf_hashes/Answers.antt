use Rattle.std.proofs.Common.{◌∙◌, ap, arith}
use Rattle.std.proofs.lemmas.List.{length-set}
use Rattle.sha2.specs.Sha256.{sha256}
use Rattle.nmt_tree.specs.Batches.{leaf_bytes}
use Rattle.multi_sha256.proofs.MessageLemmas.{message_more}
use Rattle.nmt_tree.proofs.batches.leaf_hashes.Goals as goal

pub messages-init : goal.messages-init
messages-init c = record { count = omega arith; done = λ j h. absurd (omega arith) }

pub messages-preserved : goal.messages-preserved
messages-preserved c = record {
  count = length-set c.messages.messages c.messages.j c.write_leaf.new.message ∙ c.messages.invariant.count;
  done = message_more 542 c.messages.messages (leaf_bytes c.args.names.now c.args.shares.now) c.messages.j c.write_leaf.new.message (omega arith) c.write_leaf.ensures c.messages.invariant.done;
}

pub returns : goal.returns
returns c j h = c.digests.ensures j h ∙ ap sha256 (c.messages.invariant.done j (omega arith))
