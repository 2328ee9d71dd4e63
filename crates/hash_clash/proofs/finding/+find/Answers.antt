use Rattle.std.proofs.Common.{◌∙◌, sym}
use Rattle.hash_clash.proofs.FindLemmas.{of_leaves, of_roots, of_left, of_right, given_first, leaf_alone, join_alone, joined_at}
use Rattle.hash_clash.proofs.finding.+find.Goals.{in_default-via-in-Leaf+in_default, in_default-via-in-Join+in_default, in_default-via-in_default}
use Rattle.hash_clash.proofs.finding.+find.Goals as goal

pub returns-in-Leaf-Leaf : goal.returns-in-Leaf-Leaf
returns-in-Leaf-Leaf t c = of_leaves _ _ _ _ _ _ _ _ _ c.in-Leaf-Leaf.ensures c.in-Leaf-Leaf.ensures' c.of_leaf.ensures c.of_leaf-in-Leaf-Leaf.ensures c.differing.ensures

pub returns-then-is_some : goal.returns-then-is_some
returns-then-is_some t c =
    of_roots _ _ _ _ _ _ _ _ _
    (joined_at c.args.depth c.args.start c.leaf_count.result c.args.a _ _ c.in-Join-Join.ensures c.leaf_count.ensures)
    (joined_at c.args.depth c.args.start c.leaf_count.result c.args.b _ _ c.in-Join-Join.ensures' c.leaf_count.ensures)
    c.node_text-text.ensures c.node_text-other_text.ensures c.differing-found.ensures (sym c.is_some.ensures ∙ c.if-is_some.true)

pub returns-then-is_some-2 : goal.returns-then-is_some-2
returns-then-is_some-2 t c =
    of_left _ _ _ _ _ _ _ _ _ _
    (joined_at c.args.depth c.args.start c.leaf_count.result c.args.a _ _ c.in-Join-Join.ensures c.leaf_count.ensures)
    (joined_at c.args.depth c.args.start c.leaf_count.result c.args.b _ _ c.in-Join-Join.ensures' c.leaf_count.ensures)
    c.node_text-text.ensures c.node_text-other_text.ensures c.differing-found.ensures (sym c.is_some.ensures ∙ c.if-is_some.false)
    c.find-found.ensures (sym c.is_some-in-Join-Join.ensures ∙ c.if-is_some-2.true)

pub returns-else-is_some-2 : goal.returns-else-is_some-2
returns-else-is_some-2 t c =
    of_right _ _ _ _ _ _ _ _ _ _ _
    (joined_at c.args.depth c.args.start c.leaf_count.result c.args.a _ _ c.in-Join-Join.ensures c.leaf_count.ensures)
    (joined_at c.args.depth c.args.start c.leaf_count.result c.args.b _ _ c.in-Join-Join.ensures' c.leaf_count.ensures)
    c.node_text-text.ensures c.node_text-other_text.ensures c.differing-found.ensures (sym c.is_some.ensures ∙ c.if-is_some.false)
    c.find-found.ensures (sym c.is_some-in-Join-Join.ensures ∙ c.if-is_some-2.false) c.find.ensures

-- not two leaves and not two joins
pub returns-in_default : goal.returns-in_default
returns-in_default t c = elim c.in_default.branch [
  | in_default-via-in-Leaf+in_default w ↦ leaf_alone c.args.depth c.args.start _ _ _ c.args.b c.look-2.result w.in_default.ensures c.look-2.ensures w.in_default.not-Leaf-1
  | in_default-via-in-Join+in_default w ↦ join_alone c.args.depth c.args.start _ _ _ c.args.b c.look-2.result w.in_default.ensures.part c.look-2.ensures w.in_default.not-Join-1
  | in_default-via-in_default w ↦ given_first _ _ _ w.in_default.ensures
]
