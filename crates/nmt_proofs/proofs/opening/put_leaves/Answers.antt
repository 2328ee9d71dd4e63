use Rattle.std.proofs.Common.{◌≡◌, ◌∙◌, ◌<◌, ℕ, ap, sym, refl, arith, length, take, List, [], get_or}
use Rattle.std.proofs.lemmas.List.{take_more, take_more_set, length-take-le, take_all}
use Rattle.namespace_id.specs.declared.shares.Share.{Share}
use Rattle.nmt_proofs.specs.Openings.{shadow, leaves_from}
use Rattle.nmt_proofs.specs.Pieces.{shown_pieces}
use Rattle.nmt_proofs.proofs.Neighbors.RangeLemmas.{leaf_more}
use Rattle.nmt_proofs.proofs.opening.put_leaves.Goals as goal

pub loop-i-init : goal.loop-i-init
unfolding leaves_from
loop-i-init c = refl

pub loop-i-preserved : goal.loop-i-preserved
loop-i-preserved c =
    let none : Share = record { 0 = [] } in
    let in_pieces : c.loop-i.i < length c.loop-i.pieces = omega arith in
    let in_shares : c.loop-i.i < length c.args.shares.now = c.loop-i-test.true in
    leaf_more c.args.from c.args.name.now c.loop-i.i (take c.loop-i.i c.loop-i.pieces) _ (take c.loop-i.i c.args.shares.now) _ (get_or c.args.shares.now c.loop-i.i none) _
    (take_more_set c.loop-i.pieces c.loop-i.i _ in_pieces) (take_more c.args.shares.now c.loop-i.i none in_shares)
    (length-take-le c.loop-i.i c.args.shares.now (omega arith)) refl refl c.leaf.ensures c.loop-i.invariant

pub returns : goal.returns
returns c =
    let done : length c.args.shares.now ≡ c.loop-i.i = omega arith in
    ap (λ (k : ℕ). shown_pieces (take k c.loop-i.pieces)) done
    ∙ c.loop-i.invariant
    ∙ ap (λ (l : List Share). shadow (leaves_from c.args.from c.args.name.now l))
    (ap (λ (k : ℕ). take k c.args.shares.now) (sym done) ∙ take_all (length c.args.shares.now) c.args.shares.now (omega arith))
