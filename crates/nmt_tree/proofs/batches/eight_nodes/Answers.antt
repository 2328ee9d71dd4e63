use Rattle.std.proofs.Common.{◌≡◌, ◌∙◌, ◌*◌, ◌+◌, get_or, ap, sym, refl, arith, length-set}
use Rattle.std.proofs.lemmas.List.{take_all}
use Rattle.namespace_id.specs.Digests.{no_digest}
use Rattle.nmt_tree.specs.Levels.{pairs}
use Rattle.nmt_tree.proofs.PairLemmas.{pairs_more}
use Rattle.nmt_tree.proofs.BatchLemmas.{node_of_hash}
use Rattle.nmt_tree.proofs.batches.eight_nodes.Goals as goal

pub nodes-init : goal.nodes-init
unfolding pairs
nodes-init c = (omega arith, refl)

pub nodes-preserved : goal.nodes-preserved
nodes-preserved c =
    let level = c.args.level.now in
    let i = c.nodes.j in (
      length-set c.nodes.nodes i c.digest_of.result ∙ c.nodes.invariant.0,
      pairs_more level c.nodes.nodes i no_digest c.digest_of.result (omega arith) (omega arith)
          (node_of_hash (get_or level (2 * i) no_digest) (get_or level (2 * i + 1) no_digest) _ _ _ c.digest_of.result
          c.digest_of.ensures c.least.ensures c.greatest.ensures (c.node_hashes-hashes.ensures i (omega arith)))
          c.nodes.invariant.1,
    )

pub returns : goal.returns
returns c =
    let done : c.nodes.j ≡ 8 = omega arith in
    sym (take_all c.nodes.j c.nodes.nodes (omega arith))
    ∙ c.nodes.invariant.1
    ∙ ap pairs (take_all (2 * c.nodes.j) c.args.level.now (omega arith))
