use Rattle.std.proofs.Common.{◌≡◌, ◌∙◌, ◌+◌, ◌<◌, ℕ, ap, ap₂, sym, refl, arith, length, take, List, get_or, replicate}
use Rattle.std.proofs.lemmas.List.{take_more, take_more_set, length-take-le, length-replicate, replicate_more, take_all}
use Rattle.namespace_id.specs.Sizes.{most_leaves}
use Rattle.nmt_proofs.specs.Openings.{intervals_from}
use Rattle.nmt_proofs.specs.Pieces.{shown_pieces}
use Rattle.nmt_proofs.proofs.Sets.SetLemmas.{interval_more, next_end, aligned_end}
use Rattle.nmt_proofs.proofs.making.put_sizes.Goals as goal

pub loop-i-init : goal.loop-i-init
unfolding intervals_from
loop-i-init c = record { so_far = refl; end = refl }

-- the next end is at most that of the greatest tree
pub overflow_add-at : goal.overflow_add-at
overflow_add-at c = omega (arith, next_end c.args.from c.loop-i.at c.args.sizes.now c.loop-i.i c.loop-i-test.true c.loop-i.invariant.end, aligned_end c.args.from most_leaves (c.loop-i.i + 1) c.args.sizes.now c.requires.places)

pub loop-i-preserved : goal.loop-i-preserved
loop-i-preserved c =
    let i : ℕ = c.loop-i.i in
    let in_pieces : i < length c.loop-i.pieces = omega arith in
    let in_sizes : i < length c.args.sizes.now = c.loop-i-test.true in
    let next : _ = interval_more c.args.from (take i c.loop-i.pieces) _ (take i c.args.sizes.now) _ (replicate i c.args.digest) _
    (get_or c.args.sizes.now i 0) c.args.digest _
    (take_more_set c.loop-i.pieces i _ in_pieces) (take_more c.args.sizes.now i 0 in_sizes) (sym (replicate_more i c.args.digest))
    (length-replicate i c.args.digest ∙ sym (length-take-le i c.args.sizes.now (omega arith)))
    c.loop-i.invariant.end refl refl c.loop-i.invariant.so_far in
    record { so_far = next; end = next_end c.args.from c.loop-i.at c.args.sizes.now i in_sizes c.loop-i.invariant.end }

pub returns : goal.returns
returns c =
    let done : length c.args.sizes.now ≡ c.loop-i.i = omega arith in
    ap shown_pieces (sym (take_all c.loop-i.i c.loop-i.pieces (omega arith)))
    ∙ c.loop-i.invariant.so_far
    ∙ ap₂ (λ (x : List ℕ) (y : ℕ). intervals_from c.args.from x (replicate y c.args.digest)) (take_all c.loop-i.i c.args.sizes.now (omega arith)) (sym done)
