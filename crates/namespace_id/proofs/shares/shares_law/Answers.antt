use Rattle.std.proofs.Common.{[], arith}
use Rattle.std.proofs.lemmas.List.Elements.{All-more}
use Rattle.namespace_id.specs.Shares.{IsShare}
use Rattle.namespace_id.proofs.ElementLemmas.{all_passed}
use Rattle.namespace_id.proofs.shares.shares_law.Goals as goal

pub loop-share-preserved : goal.loop-share-preserved
loop-share-preserved c =
    All-more IsShare c.args.shares.now c.loop-share.share-index (record { 0 = [] }) (omega arith) c.loop-share.invariant c.share_law.ensures

pub returns : goal.returns
returns c = all_passed IsShare c.args.shares.now c.loop-share.share-index (omega arith) c.loop-share.invariant
