use Rattle.std.proofs.Common.{◌≡◌, ◌∙◌, ◌<◌, ℕ, ap, sym, refl, arith, length, take, [], get_or}
use Rattle.std.proofs.lemmas.List.{take_more, take_more_set, length-take-le, take_all}
use Rattle.namespace_id.specs.declared.namespaces.Namespace.{Namespace}
use Rattle.namespace_id.specs.declared.shares.Share.{Share}
use Rattle.nmt_proofs.specs.Openings.{shadow, leaves_at}
use Rattle.nmt_proofs.specs.Pieces.{shown_pieces}
use Rattle.nmt_proofs.proofs.Sets.SetLemmas.{set_more}
use Rattle.nmt_proofs.proofs.opening.put_set.Goals as goal

pub loop-i-init : goal.loop-i-init
unfolding leaves_at
loop-i-init c = refl

pub loop-i-preserved : goal.loop-i-preserved
loop-i-preserved c =
    let i : ℕ = c.loop-i.i in
    let no_name : Namespace = record { 0 = [] } in
    let none : Share = record { 0 = [] } in
    let in_pieces : i < length c.loop-i.pieces = omega arith in
    let in_places : i < length c.args.places.now = c.loop-i-test.true in
    let in_names : i < length c.args.names.now = omega arith in
    let in_shares : i < length c.args.shares.now = omega arith in
    let many : length (take i c.args.places.now) ≡ i = length-take-le i c.args.places.now (omega arith) in
    set_more (take i c.loop-i.pieces) _ (take i c.args.places.now) _ (take i c.args.names.now) _ (take i c.args.shares.now) _
    (get_or c.args.places.now i 0) (get_or c.args.names.now i no_name) (get_or c.args.shares.now i none) _
    (take_more_set c.loop-i.pieces i _ in_pieces) (take_more c.args.places.now i 0 in_places) (take_more c.args.names.now i no_name in_names) (take_more c.args.shares.now i none in_shares)
    (length-take-le i c.args.names.now (omega arith) ∙ sym many) (length-take-le i c.args.shares.now (omega arith) ∙ sym many)
    refl refl c.leaf.ensures c.loop-i.invariant

pub returns : goal.returns
returns c =
    let done : length c.args.places.now ≡ c.loop-i.i = omega arith in
    ap (λ (k : ℕ). shown_pieces (take k c.loop-i.pieces)) done
    ∙ c.loop-i.invariant
    ∙ (λ k. shadow (leaves_at (take_all c.loop-i.i c.args.places.now (omega arith) k) (take_all c.loop-i.i c.args.names.now (omega arith) k) (take_all c.loop-i.i c.args.shares.now (omega arith) k)))
