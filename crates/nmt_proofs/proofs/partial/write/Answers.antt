use Rattle.nmt_proofs.proofs.WriteLemmas.{length-written, digest_at-written, digest_at-other, joined_still}
use Rattle.nmt_proofs.proofs.partial.write.Goals as goal

-- the nodes are as many as before
pub returns-clause-length : goal.returns-clause-length
returns-clause-length c = length-written c.args.nodes.now c.args.i c.args.digest.now

-- no node that is still marked has this one as a half
pub returns-clause-joined : goal.returns-clause-joined
returns-clause-joined c = joined_still c.args.nodes.now c.args.i c.args.digest.now c.requires.bound c.requires.joined

-- the digest stands where it was written
pub returns-clause-digest : goal.returns-clause-digest
returns-clause-digest c = digest_at-written c.args.nodes.now c.args.i c.args.digest.now c.requires.bound

-- and the other digests stay
pub returns-clause-others : goal.returns-clause-others
returns-clause-others c = digest_at-other c.args.nodes.now c.args.i c.args.digest.now c.requires.bound
