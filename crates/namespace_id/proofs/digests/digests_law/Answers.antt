use Rattle.std.proofs.Common.{[], arith}
use Rattle.std.proofs.lemmas.List.Elements.{All-more}
use Rattle.namespace_id.specs.Digests.{IsDigest}
use Rattle.namespace_id.proofs.ElementLemmas.{all_passed}
use Rattle.namespace_id.proofs.digests.digests_law.Goals as goal

pub loop-digest-preserved : goal.loop-digest-preserved
loop-digest-preserved c =
    All-more IsDigest c.args.digests.now c.loop-digest.digest-index (record { 0 = [] }) (omega arith) c.loop-digest.invariant c.digest_law.ensures

pub returns : goal.returns
returns c = all_passed IsDigest c.args.digests.now c.loop-digest.digest-index (omega arith) c.loop-digest.invariant
