use Rattle.std.proofs.Common.{◌≡◌, ◌∙◌, ◌<◌, ◌^◌, ℕ, List, ap, get_or, arith, refl, Some}
use Rattle.std.proofs.lemmas.Option.{MatchOption-at_some}
use Rattle.namespace_id.specs.declared.digests.Digest.{Digest}
use Rattle.namespace_id.specs.Digests.{no_digest}
use Rattle.nmt_tree.specs.Roots.{halvings}
use Rattle.nmt_tree.specs.Levels.{span}
use Rattle.nmt_tree.specs.Trees.{AreTreeLeaves}
use Rattle.nmt_tree.proofs.CountLemmas.{power_halvings}
use Rattle.nmt_proofs.specs.Parts.{given}
use Rattle.nmt_proofs.specs.Openings.{outside, one_digest}
use Rattle.nmt_proofs.specs.Complete.{absence_break}
use Rattle.nmt_proofs.specs.Making.{spans, leaf_nodes}
use Rattle.nmt_proofs.proofs.Parts.SingleLemmas.{length-outside-one}
use Rattle.nmt_proofs.proofs.Agreement.MadeLemmas.{one_opens}
use Rattle.nmt_proofs.proofs.Agreement.OtherLeafLemmas.{made_absence}
use Rattle.nmt_proofs.proofs.making.make_absent.Goals as goal

pub nodes_beside-requires-clause-few : goal.nodes_beside-requires-clause-few
nodes_beside-requires-clause-few c = omega (arith, length-outside-one c.halvings-depth.result 0 c.args.pos (given c.full_digest-leaf.result), c.halvings-depth.ensures.bound)

-- the digest is that of the leaf at the place
leaf : (c : goal.After-nodes_beside) (leaves : List Digest) → c.args.tree.now.leaves ≡ Some leaves → c.full_digest-leaf.result ≡ get_or leaves c.args.pos no_digest
unfolding span
leaf c = c.full_digest-leaf.ensures

-- the list has the nodes beside that digest
beside : (c : goal.After-nodes_beside) (leaves : List Digest) → c.args.tree.now.leaves ≡ Some leaves
    → c.nodes_beside.result ≡ spans leaves (outside (halvings c.args.tree.now.count) 0 (one_digest c.args.pos c.full_digest-leaf.result))
beside c leaves e =
    let depth : c.halvings-depth.result ≡ halvings c.args.tree.now.count = c.halvings-depth.ensures.value ∙ ap (λ (k : ℕ). halvings k) c.len.ensures.value in
    c.nodes_beside.ensures leaves e ∙ ap (λ (k : ℕ). spans leaves (outside k 0 (one_digest c.args.pos c.full_digest-leaf.result))) depth

-- so it has those of the leaf
nodes : (c : goal.After-nodes_beside) (leaves : List Digest) → c.args.tree.now.leaves ≡ Some leaves → c.nodes_beside.result ≡ leaf_nodes c.args.tree.now.count leaves c.args.pos
nodes c leaves e = beside c leaves e ∙ ap (λ (d : Digest). spans leaves (outside (halvings c.args.tree.now.count) 0 (one_digest c.args.pos d))) (leaf c leaves e)

-- the place is below the number of leaves
place : (c : goal.After-nodes_beside) → c.args.pos < 2 ^ halvings c.args.tree.now.count
place c = omega (arith, power_halvings c.args.tree.now.count c.len.ensures.count)

-- the leaves of the tree
leaves_of : (c : goal.After-nodes_beside) (leaves : List Digest) → c.args.tree.now.leaves ≡ Some leaves → AreTreeLeaves c.args.tree.now.count leaves
leaves_of c leaves e = MatchOption-at_some _ _ leaves e c.len.ensures.leaves

pub returns-clause-leaf : goal.returns-clause-leaf
returns-clause-leaf c = leaf c

pub returns-clause-nodes : goal.returns-clause-nodes
returns-clause-nodes c = nodes c

pub returns-clause-opens : goal.returns-clause-opens
returns-clause-opens c = λ leaves e.
    one_opens (halvings c.args.tree.now.count) c.args.pos leaves c.nodes_beside.result (given (get_or leaves c.args.pos no_digest)) (given (get_or leaves c.args.pos no_digest))
    (place c) refl refl (leaves_of c leaves e).ordered (nodes c leaves e)

pub returns-clause-complete : goal.returns-clause-complete
returns-clause-complete c = λ leaves e name names shares of el between.
    let h : ℕ = halvings c.args.tree.now.count in
    ap (absence_break h c.args.pos name c.full_digest-leaf.result)
    (beside c leaves e ∙ ap (λ (l : List Digest). spans l (outside h 0 (one_digest c.args.pos c.full_digest-leaf.result))) el)
    ∙ made_absence h c.args.pos name names shares c.full_digest-leaf.result of (place c) between
    (leaf c leaves e ∙ ap (λ (l : List Digest). get_or l c.args.pos no_digest) el)
