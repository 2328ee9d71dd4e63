use Rattle.std.proofs.Common.{◌∙◌, ◌∷◌, get_or, ap, arith}
use Rattle.std.proofs.lemmas.List.{length-set}
use Rattle.sha2.specs.Sha256.{sha256}
use Rattle.namespace_id.specs.Digests.{no_digest}
use Rattle.multi_sha256.proofs.MessageLemmas.{message_more}
use Rattle.data_header.specs.DataRoots.{leaf_hash}
use Rattle.data_header.proofs.batches.eight_leaves.Goals as goal

pub messages-init : goal.messages-init
messages-init c = record { count = omega arith; done = λ j h. absurd (omega arith) }

pub messages-preserved : goal.messages-preserved
messages-preserved c = record {
  count = length-set c.messages.messages c.messages.j c.write_leaf.new.message ∙ c.messages.invariant.count;
  done = message_more 91 c.messages.messages (λ j. 0 ∷ (get_or c.args.leaves.now j no_digest).0) c.messages.j c.write_leaf.new.message (omega arith) c.write_leaf.ensures c.messages.invariant.done;
}

pub returns : goal.returns
unfolding leaf_hash
returns c j h = c.digests.ensures j h ∙ ap sha256 (c.messages.invariant.done j (omega arith))
