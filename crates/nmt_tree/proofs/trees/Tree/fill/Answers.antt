use Rattle.std.proofs.Common.{◌≡◌, ◌∙◌, ◌++◌, ap, sym, length, arith, take, drop, Some, None, cond, Bool, List}
use Rattle.namespace_id.specs.declared.digests.Digest.{Digest}
use Rattle.nmt_tree.specs.Levels.{leaf_digests}
use Rattle.nmt_tree.specs.Trees.{StoredTree}
use Rattle.namespace_id.proofs.StringLemmas.{front}
use Rattle.nmt_tree.proofs.TreeLemmas.{IsFilled, filled_with_names, strict_root_some, strict_root_none}
use Rattle.nmt_tree.proofs.trees.Tree.fill.Goals as goal

-- the tree holds all levels over the leaves
filled : (c : goal.After-self-3-1)
    → IsFilled c.self.inside.count (take c.self.inside.digests.len (c.put_tree.new.digests ++ drop (length c.put_tree.new.digests) c.self.inside.digests.items))
    (leaf_digests c.args.names.now c.args.shares.now)
filled c =
    let count : c.self.inside.count ≡ c.args.self.now.count = ap (λ (s : StoredTree). s.count) c.self.view_is in
    let len : length c.put_tree.new.digests ≡ c.self.inside.digests.len = omega arith in
    let whole : take c.self.inside.digests.len (c.put_tree.new.digests ++ drop (length c.put_tree.new.digests) c.self.inside.digests.items) ≡ c.put_tree.new.digests =
    front c.put_tree.new.digests _ c.self.inside.digests.len len in
    filled_with_names c.self.inside.count _ c.args.names.now c.args.shares.now c.self.invariant.is_count (c.requires.names ∙ sym count) (c.requires.shares ∙ sym count)
    c.namespaces_law.ensures (sym c.are_ordered.ensures ∙ c.if-not-are_ordered.false) (omega (arith, c.self.invariant.room, ap length whole)) (whole ∙ c.put_tree.ensures)

pub returns-then-not-are_ordered-clause-root : goal.returns-then-not-are_ordered-clause-root
returns-then-not-are_ordered-clause-root c = strict_root_none _ c.args.names.now c.args.shares.now (sym c.are_ordered.ensures ∙ c.if-not-are_ordered.true)

pub invariant_of-self-2 : goal.invariant_of-self-2
invariant_of-self-2 c = (filled c).is_tree

pub returns-clause-leaves : goal.returns-clause-leaves
returns-clause-leaves c =
    ap (λ (l : List Digest). Some l) (filled c).leaves_are
    ∙ ap (λ (b : Bool). cond b (Some (leaf_digests c.args.names.now c.args.shares.now)) None) (sym c.if-not-are_ordered.false ∙ c.are_ordered.ensures)

pub returns-clause-root : goal.returns-clause-root
returns-clause-root c =
    let count : c.self.inside.count ≡ c.args.self.now.count = ap (λ (s : StoredTree). s.count) c.self.view_is in
    strict_root_some c.self.inside.count _ c.args.names.now c.args.shares.now c.self.invariant.is_count (c.requires.names ∙ sym count) (c.requires.shares ∙ sym count)
    (sym c.are_ordered.ensures ∙ c.if-not-are_ordered.false) (filled c).leaves_are
