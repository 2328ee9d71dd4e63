use Rattle.std.proofs.Common.{◌≡◌, ◌∙◌, ◌+◌, ◌*◌, ◌/◌, ◌-◌, ℕ, [], length, take, drop, ap, ap₂, sym, refl, arith, length-set}
use Rattle.std.proofs.lemmas.List.{take_all}
use Rattle.nmt_tree.specs.Levels.{leaf_digests}
use Rattle.nmt_tree.proofs.LevelLemmas.{leaves_more}
use Rattle.nmt_tree.proofs.BatchLemmas.{length-part, length-put, leaves_eight}
use Rattle.nmt_tree.proofs.levels.put_leaves.Goals as goal

pub eights-init : goal.eights-init
unfolding leaf_digests
eights-init c = (refl, refl)

pub eights-preserved : goal.eights-preserved
eights-preserved c =
    let names = c.args.names.now in
    let shares = c.args.shares.now in
    let leaves = c.eights.leaves in
    let at = 8 * c.eights.eight in
    let width : at + 8 - at ≡ 8 = omega arith in
    let size : length c.copy_from_slice.new.self ≡ 8 = c.copy_from_slice.ensures.len ∙ length-part at 8 (at + 8 - at) leaves width (omega arith) in (
      length-put at (at + 8 - at) leaves c.copy_from_slice.new.self (omega arith) (omega arith) ∙ c.eights.invariant.0,
      leaves_eight names shares leaves c.copy_from_slice.new.self at (at + 8 - at) (8 * (c.eights.eight + 1)) (omega arith) (omega arith) (omega arith) (omega arith) size
          (c.copy_from_slice.ensures.after ∙ c.eight_leaves-made.ensures ∙ ap (λ (k : ℕ). leaf_digests (take k (drop at names)) (take k (drop at shares))) width)
          c.eights.invariant.1,
    )

pub rest-init : goal.rest-init
rest-init c =
    let end : c.eights.eight ≡ length c.args.leaves.now / 8 = omega arith in
    rw end at c.eights.invariant

pub rest-preserved : goal.rest-preserved
rest-preserved c = (
  length-set c.rest.leaves c.rest.i c.leaf.result ∙ c.rest.invariant.0,
  leaves_more c.args.names.now c.args.shares.now c.rest.leaves c.rest.i (record { 0 = [] }) (record { 0 = [] }) c.leaf.result
      (omega arith) (omega arith) (omega arith) c.leaf.ensures c.rest.invariant.1,
)

pub returns : goal.returns
returns c =
    sym (take_all c.rest.i c.rest.leaves (omega arith))
    ∙ c.rest.invariant.1
    ∙ ap₂ leaf_digests (take_all c.rest.i c.args.names.now (omega arith)) (take_all c.rest.i c.args.shares.now (omega arith))
