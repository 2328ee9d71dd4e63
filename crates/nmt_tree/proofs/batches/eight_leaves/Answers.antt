use Rattle.std.proofs.Common.{◌≡◌, ◌∙◌, [], get_or, ap₂, sym, refl, arith, length-set}
use Rattle.std.proofs.lemmas.List.{take_all}
use Rattle.nmt_tree.specs.Levels.{leaf_digests}
use Rattle.nmt_tree.proofs.LevelLemmas.{leaves_more}
use Rattle.nmt_tree.proofs.BatchLemmas.{leaf_of_hash}
use Rattle.nmt_tree.proofs.batches.eight_leaves.Goals as goal

pub leaves-init : goal.leaves-init
unfolding leaf_digests
leaves-init c = (omega arith, refl)

pub leaves-preserved : goal.leaves-preserved
leaves-preserved c =
    let names = c.args.names.now in
    let shares = c.args.shares.now in
    let i = c.leaves.j in (
      length-set c.leaves.leaves i c.digest_of.result ∙ c.leaves.invariant.0,
      leaves_more names shares c.leaves.leaves i (record { 0 = [] }) (record { 0 = [] }) c.digest_of.result (omega arith) (omega arith) (omega arith)
          (leaf_of_hash (get_or names i (record { 0 = [] })) (get_or shares i (record { 0 = [] })) _ c.digest_of.result c.digest_of.ensures (c.leaf_hashes-hashes.ensures i (omega arith)))
          c.leaves.invariant.1,
    )

pub returns : goal.returns
returns c =
    let done : c.leaves.j ≡ 8 = omega arith in
    sym (take_all c.leaves.j c.leaves.leaves (omega arith))
    ∙ c.leaves.invariant.1
    ∙ ap₂ leaf_digests (take_all c.leaves.j c.args.names.now (omega arith)) (take_all c.leaves.j c.args.shares.now (omega arith))
