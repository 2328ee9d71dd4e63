use Rattle.std.proofs.Common.{◌≡◌, ◌∙◌, ◌+◌, ◌*◌, ◌/◌, ◌-◌, ℕ, length, take, drop, ap, sym, refl, arith, length-set}
use Rattle.std.proofs.lemmas.List.{take_all}
use Rattle.nmt_tree.specs.Levels.{pairs}
use Rattle.nmt_tree.proofs.PairLemmas.{pairs_more}
use Rattle.nmt_tree.proofs.BatchLemmas.{length-part, length-put, pairs_eight}
use Rattle.namespace_id.specs.Digests.{no_digest}
use Rattle.nmt_tree.proofs.levels.put_pairs.Goals as goal

pub eights-init : goal.eights-init
unfolding pairs
eights-init c = (refl, refl)

pub eights-preserved : goal.eights-preserved
eights-preserved c =
    let level = c.args.level.now in
    let above = c.eights.above in
    let at = 8 * c.eights.eight in
    let width : at + 8 - at ≡ 8 = omega arith in
    let wide : 2 * at + 16 - 2 * at ≡ 16 = omega arith in
    let size : length c.copy_from_slice.new.self ≡ 8 = c.copy_from_slice.ensures.len ∙ length-part at 8 (at + 8 - at) above width (omega arith) in (
      length-put at (at + 8 - at) above c.copy_from_slice.new.self (omega arith) (omega arith) ∙ c.eights.invariant.0,
      pairs_eight level above c.copy_from_slice.new.self at (at + 8 - at) (8 * (c.eights.eight + 1)) (omega arith) (omega arith) (omega arith) size
          (c.copy_from_slice.ensures.after ∙ c.eight_nodes-made.ensures ∙ ap (λ (k : ℕ). pairs (take k (drop (2 * at) level))) wide)
          c.eights.invariant.1,
    )

pub rest-init : goal.rest-init
rest-init c =
    let end : c.eights.eight ≡ length c.args.above.now / 8 = omega arith in
    rw end at c.eights.invariant

pub rest-preserved : goal.rest-preserved
rest-preserved c = (
  length-set c.rest.above c.rest.i c.node.result ∙ c.rest.invariant.0,
  pairs_more c.args.level.now c.rest.above c.rest.i no_digest c.node.result (omega arith) (omega arith) c.node.ensures c.rest.invariant.1,
)

pub returns : goal.returns
returns c =
    sym (take_all c.rest.i c.rest.above (omega arith))
    ∙ c.rest.invariant.1
    ∙ ap pairs (take_all (2 * c.rest.i) c.args.level.now (omega arith))
