use Rattle.std.proofs.Common.{◌≡◌, ◌∙◌, ◌+◌, ◌<◌, ℕ, ap, sym, refl, arith, length, take, get_or}
use Rattle.std.proofs.lemmas.List.{take_more, take_more_set, length-take-le, take_all}
use Rattle.namespace_id.specs.Digests.{no_digest}
use Rattle.namespace_id.specs.Sizes.{most_leaves}
use Rattle.nmt_proofs.specs.Openings.{intervals_from}
use Rattle.nmt_proofs.specs.Pieces.{shown_pieces}
use Rattle.nmt_proofs.proofs.Sets.SetLemmas.{interval_more, next_end, aligned_end}
use Rattle.nmt_proofs.proofs.opening.put_intervals.Goals as goal

pub loop-i-init : goal.loop-i-init
unfolding intervals_from
loop-i-init c = record { pieces = refl; end = refl }

-- so it is a place of the greatest tree, or its end
pub overflow_add-at : goal.overflow_add-at
overflow_add-at c = omega (arith, next_end c.args.from c.loop-i.at c.args.sizes.now c.loop-i.i c.loop-i-test.true c.loop-i.invariant.end, aligned_end c.args.from most_leaves (c.loop-i.i + 1) c.args.sizes.now c.requires.places)

pub loop-i-preserved : goal.loop-i-preserved
loop-i-preserved c =
    let i : ℕ = c.loop-i.i in
    let in_pieces : i < length c.loop-i.pieces = omega arith in
    let in_sizes : i < length c.args.sizes.now = c.loop-i-test.true in
    let in_digests : i < length c.args.digests.now = omega arith in
    let many : length (take i c.args.sizes.now) ≡ i = length-take-le i c.args.sizes.now (omega arith) in
    let next : _ = interval_more c.args.from (take i c.loop-i.pieces) _ (take i c.args.sizes.now) _ (take i c.args.digests.now) _
    (get_or c.args.sizes.now i 0) (get_or c.args.digests.now i no_digest) _
    (take_more_set c.loop-i.pieces i _ in_pieces) (take_more c.args.sizes.now i 0 in_sizes) (take_more c.args.digests.now i no_digest in_digests)
    (length-take-le i c.args.digests.now (omega arith) ∙ sym many)
    c.loop-i.invariant.end refl refl c.loop-i.invariant.pieces in
    record { pieces = next; end = next_end c.args.from c.loop-i.at c.args.sizes.now c.loop-i.i c.loop-i-test.true c.loop-i.invariant.end }

pub returns : goal.returns
returns c =
    let done : length c.args.sizes.now ≡ c.loop-i.i = omega arith in
    ap (λ (k : ℕ). shown_pieces (take k c.loop-i.pieces)) done
    ∙ c.loop-i.invariant.pieces
    ∙ (λ k. intervals_from c.args.from (take_all c.loop-i.i c.args.sizes.now (omega arith) k) (take_all c.loop-i.i c.args.digests.now (omega arith) k))
