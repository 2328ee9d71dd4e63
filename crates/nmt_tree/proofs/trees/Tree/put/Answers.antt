use Rattle.std.proofs.Common.{◌≡◌, ◌∙◌, ◌++◌, ℕ, ap, sym, subst, length, arith, take, drop, Some, List}
use Rattle.namespace_id.specs.declared.digests.Digest.{Digest}
use Rattle.nmt_tree.specs.Roots.{halvings}
use Rattle.nmt_tree.specs.Levels.{HasOrderedJoins, levels}
use Rattle.nmt_tree.specs.Trees.{StoredTree}
use Rattle.namespace_id.proofs.StringLemmas.{front}
use Rattle.nmt_tree.proofs.TreeLemmas.{IsFilled, filled_tree}
use Rattle.nmt_tree.proofs.trees.Tree.put.Goals as goal

-- the tree holds all levels over the leaves
filled : (c : goal.After-self-2-1)
    → IsFilled c.self.inside.count (take c.self.inside.digests.len (c.put_above.new.digests ++ drop (length c.put_above.new.digests) c.self.inside.digests.items)) c.args.leaves.now
filled c =
    let count : c.self.inside.count ≡ c.args.self.now.count = ap (λ (s : StoredTree). s.count) c.self.view_is in
    let same : length c.args.leaves.now ≡ c.self.inside.count = c.requires.number ∙ sym count in
    let len : length c.put_above.new.digests ≡ c.self.inside.digests.len = omega arith in
    let whole : take c.self.inside.digests.len (c.put_above.new.digests ++ drop (length c.put_above.new.digests) c.self.inside.digests.items) ≡ c.put_above.new.digests =
    front c.put_above.new.digests _ c.self.inside.digests.len len in
    filled_tree c.self.inside.count _ c.args.leaves.now c.self.invariant.is_count same
    (subst (λ (k : ℕ). HasOrderedJoins c.args.leaves.now 0 (halvings k)) (sym count) c.requires.ordered)
    (omega (arith, c.self.invariant.room, ap length whole)) (whole ∙ c.put_above.ensures ∙ ap (λ (k : ℕ). levels (halvings k) c.args.leaves.now) same)

pub invariant_of-self : goal.invariant_of-self
invariant_of-self c = (filled c).is_tree

pub returns-clause-leaves : goal.returns-clause-leaves
returns-clause-leaves c = ap (λ (l : List Digest). Some l) (filled c).leaves_are
