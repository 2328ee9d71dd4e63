use Rattle.std.proofs.Common.{◌∙◌, ◌<◌, ap, refl, arith, length, take, List, replicate}
use Rattle.std.proofs.lemmas.List.{take_more_set, length-replicate, replicate_more}
use Rattle.namespace_id.specs.declared.digests.Digest.{Digest}
use Rattle.nmt_proofs.specs.Openings.{digests_from}
use Rattle.nmt_proofs.proofs.Neighbors.NeighborLemmas.{place_more}
use Rattle.nmt_proofs.proofs.making.put_places.Goals as goal

pub loop-i-init : goal.loop-i-init
unfolding digests_from
loop-i-init c = refl

pub loop-i-preserved : goal.loop-i-preserved
loop-i-preserved c =
    let within : c.loop-i.i < length c.loop-i.pieces = omega arith in
    place_more c.args.from c.loop-i.i (take c.loop-i.i c.loop-i.pieces) _ (replicate c.loop-i.i c.args.digest) _
    (take_more_set c.loop-i.pieces c.loop-i.i _ within) (length-replicate c.loop-i.i c.args.digest) refl refl c.loop-i.invariant
    ∙ ap (λ (l : List Digest). digests_from c.args.from l) (replicate_more c.loop-i.i c.args.digest)
