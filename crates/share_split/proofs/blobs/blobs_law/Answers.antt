use Rattle.std.proofs.Common.{subst, arith}
use Rattle.std.proofs.lemmas.List.Elements.{All-more}
use Rattle.share_split.specs.Blobs.{NamedBytes, IsNamed}
use Rattle.namespace_id.proofs.ElementLemmas.{all_passed}
use Rattle.share_split.proofs.blobs.blobs_law.Goals as goal

pub loop-blob-preserved : goal.loop-blob-preserved
loop-blob-preserved c =
    All-more IsNamed c.args.blobs.now c.loop-blob.blob-index c.blob-item.result (omega arith) c.loop-blob.invariant
    (subst (λ (blob : NamedBytes). IsNamed blob) c.blob-item.is c.blob_law.ensures)

pub returns : goal.returns
returns c = all_passed IsNamed c.args.blobs.now c.loop-blob.blob-index (omega arith) c.loop-blob.invariant
