use Rattle.std.proofs.Common.{None}
use Rattle.nmt_tree.specs.Roots.{halvings}
use Rattle.nmt_proofs.specs.Openings.{one_leaf}
use Rattle.nmt_proofs.proofs.PartialLemmas.{tree_cause, keeps_all}
use Rattle.nmt_proofs.proofs.Parts.PublicLemmas.{opens}
use Rattle.nmt_proofs.proofs.Parts.CauseLemmas.{node_count, unordered, other_root, never_incomplete}
use Rattle.nmt_proofs.proofs.partial.PartialTree.open_ahead.Goals as goal

-- each clause by the cause of the answer, in terms of the leaf and of what contracts see
pub returns-clause-accepts : goal.returns-clause-accepts
returns-clause-accepts c =
    opens (halvings c.args.self.now.count) (one_leaf c.args.pos c.args.name.now c.args.share.now) c.args.nodes.now c.args.self.now.root c.open_under.result
    (tree_cause c.args.self.now c.self.inside.count c.self.inside.nodes.items c.write_rest.new.nodes.items c.deref_mut.result.now c.args.pos c.args.name.now c.args.share.now c.args.leaf.now c.args.nodes.now c.open_under.result
    c.self.view_is c.deref_mut.ensures.value c.write_rest.ensures.root c.requires.leaf c.open_under.ensures.cause)

pub returns-clause-node_count : goal.returns-clause-node_count
returns-clause-node_count c =
    node_count c.open_under.result _ _ _ None
    (tree_cause c.args.self.now c.self.inside.count c.self.inside.nodes.items c.write_rest.new.nodes.items c.deref_mut.result.now c.args.pos c.args.name.now c.args.share.now c.args.leaf.now c.args.nodes.now c.open_under.result
    c.self.view_is c.deref_mut.ensures.value c.write_rest.ensures.root c.requires.leaf c.open_under.ensures.cause)

pub returns-clause-unordered : goal.returns-clause-unordered
returns-clause-unordered c =
    unordered c.open_under.result _ _ _ None
    (tree_cause c.args.self.now c.self.inside.count c.self.inside.nodes.items c.write_rest.new.nodes.items c.deref_mut.result.now c.args.pos c.args.name.now c.args.share.now c.args.leaf.now c.args.nodes.now c.open_under.result
    c.self.view_is c.deref_mut.ensures.value c.write_rest.ensures.root c.requires.leaf c.open_under.ensures.cause)

pub returns-clause-other_root : goal.returns-clause-other_root
returns-clause-other_root c =
    other_root c.open_under.result _ _ _ None
    (tree_cause c.args.self.now c.self.inside.count c.self.inside.nodes.items c.write_rest.new.nodes.items c.deref_mut.result.now c.args.pos c.args.name.now c.args.share.now c.args.leaf.now c.args.nodes.now c.open_under.result
    c.self.view_is c.deref_mut.ensures.value c.write_rest.ensures.root c.requires.leaf c.open_under.ensures.cause)

pub returns-clause-never : goal.returns-clause-never
returns-clause-never c =
    never_incomplete c.open_under.result _ _ _
    (tree_cause c.args.self.now c.self.inside.count c.self.inside.nodes.items c.write_rest.new.nodes.items c.deref_mut.result.now c.args.pos c.args.name.now c.args.share.now c.args.leaf.now c.args.nodes.now c.open_under.result
    c.self.view_is c.deref_mut.ensures.value c.write_rest.ensures.root c.requires.leaf c.open_under.ensures.cause)

-- all nodes are there then
pub invariant_of-self : goal.invariant_of-self
invariant_of-self c = keeps_all c.self.inside.count c.write_rest.new.nodes c.open_under.new.nodes c.write_rest.ensures.keeps c.write_rest.ensures.partial c.open_under.ensures.partial
