use Rattle.nmt_proofs.proofs.PartialLemmas.{kept_node}
use Rattle.nmt_proofs.proofs.partial.known_node.Goals as goal

-- a node that is marked is joined of the halves that are kept
pub returns-then-has_halves : goal.returns-then-has_halves
returns-then-has_halves c =
    kept_node c.args.nodes.now c.args.i c.args.left.now c.args.right.now (c.requires.joined c.args.i c.if-nodes-i.true)
    (c.has_halves.ensures.left c.if-has_halves.true) (c.has_halves.ensures.right c.if-has_halves.true)
