use Rattle.std.proofs.Common.{◌≡◌, ◌∙◌, ◌<◌, ◌^◌, ℕ, List, ap, sym, length, get_or, arith, refl, Some}
use Rattle.std.proofs.lemmas.List.{length-take-le}
use Rattle.std.proofs.lemmas.Option.{MatchOption-at_some}
use Rattle.namespace_id.specs.declared.digests.Digest.{Digest}
use Rattle.nmt_tree.specs.Roots.{halvings}
use Rattle.nmt_tree.specs.Trees.{AreTreeLeaves}
use Rattle.nmt_tree.proofs.CountLemmas.{power_halvings}
use Rattle.namespace_id.proofs.StringLemmas.{front}
use Rattle.nmt_proofs.specs.Parts.{given, leaf}
use Rattle.namespace_id.specs.Digests.{no_digest}
use Rattle.nmt_proofs.specs.Openings.{outside, one_digest}
use Rattle.nmt_proofs.specs.Making.{spans, leaf_nodes}
use Rattle.nmt_proofs.proofs.Parts.SingleLemmas.{length-outside-one}
use Rattle.nmt_proofs.proofs.Parts.ShadowLemmas.{outside-parts}
use Rattle.nmt_proofs.proofs.Agreement.MadeLemmas.{one_opens}
use Rattle.nmt_proofs.proofs.making.make_leaf.Goals as goal

pub put_nodes-requires-clause-count : goal.put_nodes-requires-clause-count
put_nodes-requires-clause-count c =
    let depth : c.halvings-depth.result ≡ halvings c.args.tree.now.count = c.halvings-depth.ensures.value ∙ ap (λ (k : ℕ). halvings k) c.len.ensures.value in
    let power : 2 ^ c.halvings-depth.result ≡ c.args.tree.now.count = ap (λ (k : ℕ). 2 ^ k) depth ∙ power_halvings c.args.tree.now.count c.len.ensures.count in
    length-take-le _ _ (omega arith) ∙ sym (length-outside-one c.halvings-depth.result 0 c.args.pos (given c.full_digest.result))

-- the path has the nodes outside of the place
nodes : (c : goal.After-path_of) (leaves : List Digest) → c.args.tree.now.leaves ≡ Some leaves → c.path_of.result ≡ leaf_nodes c.args.tree.now.count leaves c.args.pos
nodes c leaves e =
    let depth : c.halvings-depth.result ≡ halvings c.args.tree.now.count = c.halvings-depth.ensures.value ∙ ap (λ (k : ℕ). halvings k) c.len.ensures.value in
    let len : length c.put_nodes.new.nodes ≡ c.halvings-depth.result = c.put_nodes.auto.nodes ∙ length-take-le _ _ (omega arith) in
    c.path_of.ensures ∙ front c.put_nodes.new.nodes _ c.halvings-depth.result len
    ∙ c.put_nodes.ensures leaves e
    ∙ ap (λ (k : ℕ). spans leaves (outside k 0 (one_digest c.args.pos c.full_digest.result))) depth
    ∙ ap (λ (l : List (ℕ × ℕ)). spans leaves l) (outside-parts (λ x. given c.full_digest.result) (halvings c.args.tree.now.count) 0 (one_digest c.args.pos (get_or leaves c.args.pos no_digest)))

-- the place is below the number of leaves
place : (c : goal.After-path_of) → c.args.pos < 2 ^ halvings c.args.tree.now.count
place c = omega (arith, power_halvings c.args.tree.now.count c.len.ensures.count)

-- the leaves of the tree
leaves_of : (c : goal.After-path_of) (leaves : List Digest) → c.args.tree.now.leaves ≡ Some leaves → AreTreeLeaves c.args.tree.now.count leaves
leaves_of c leaves e = MatchOption-at_some _ _ leaves e c.len.ensures.leaves

pub returns-clause-nodes : goal.returns-clause-nodes
returns-clause-nodes c = nodes c

pub returns-clause-digest : goal.returns-clause-digest
returns-clause-digest c = λ leaves e.
    one_opens (halvings c.args.tree.now.count) c.args.pos leaves c.path_of.result (given (get_or leaves c.args.pos no_digest)) (given (get_or leaves c.args.pos no_digest))
    (place c) refl refl (leaves_of c leaves e).ordered (nodes c leaves e)

pub returns-clause-leaf : goal.returns-clause-leaf
returns-clause-leaf c = λ leaves e name share same.
    one_opens (halvings c.args.tree.now.count) c.args.pos leaves c.path_of.result (leaf name share) (given (get_or leaves c.args.pos no_digest))
    (place c) same refl (leaves_of c leaves e).ordered (nodes c leaves e)
