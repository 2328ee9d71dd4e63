use Rattle.std.proofs.Common.{◌≡◌, ◌∙◌, ◌+◌, ◌*◌, ◌/◌, ◌-◌, ℕ, length, take, drop, ap, sym, refl, arith, length-set}
use Rattle.nmt_tree.specs.Levels.{pairs}
use Rattle.nmt_tree.proofs.PairLemmas.{pairs_more_in_place, left_in_place, pairs-take}
use Rattle.nmt_tree.proofs.BatchLemmas.{length-part, length-put, pairs_eight_in_place, left_of_eight}
use Rattle.namespace_id.specs.Digests.{no_digest}
use Rattle.nmt_tree.proofs.folding.join_pairs.Goals as goal

pub eights-init : goal.eights-init
unfolding pairs
eights-init c = record { count = refl; done = refl; left = refl }

pub eights-preserved : goal.eights-preserved
eights-preserved c =
    let old = c.args.digests.now in
    let now = c.eights.digests in
    let same = c.eights.invariant in
    let at = 8 * c.eights.eight in
    let next = 8 * (c.eights.eight + 1) in
    let made = c.copy_from_slice.new.self in
    let count : length now ≡ length old = same.count in
    let width : at + 8 - at ≡ 8 = omega arith in
    let wide : 2 * at + 16 - 2 * at ≡ 16 = omega arith in
    let size : length made ≡ 8 = c.copy_from_slice.ensures.len ∙ length-part at 8 (at + 8 - at) now width (omega arith) in
    record {
      count = length-put at (at + 8 - at) now made (omega arith) (omega arith) ∙ count;
      done = pairs_eight_in_place old now made at (at + 8 - at) next (omega arith) count (omega arith) size
          (c.copy_from_slice.ensures.after ∙ c.eight_nodes-made.ensures ∙ ap (λ (k : ℕ). pairs (take k (drop (2 * at) now))) wide) same.done same.left;
      left = left_of_eight old now made at (at + 8 - at) next width (omega arith) count (omega arith) size same.left;
    }

pub rest-init : goal.rest-init
rest-init c =
    let end : c.eights.eight ≡ length c.args.digests.now / 2 / 8 = omega arith in
    rw end at c.eights.invariant

pub rest-preserved : goal.rest-preserved
rest-preserved c =
    let same = c.rest.invariant in
    record {
      count = length-set c.rest.digests c.rest.i c.node.result ∙ same.count;
      done = pairs_more_in_place c.args.digests.now c.rest.digests c.rest.i no_digest c.node.result same.count (omega arith) c.node.ensures same.done same.left;
      left = left_in_place c.args.digests.now c.rest.digests c.rest.i c.node.result same.left;
    }

pub returns : goal.returns
returns c =
    let same = c.rest.invariant in
    let end : c.rest.i ≡ length c.args.digests.now / 2 = omega arith in
    ap (λ (k : ℕ). take k c.rest.digests) (sym end) ∙ same.done ∙ pairs-take c.rest.i c.args.digests.now (omega arith)
