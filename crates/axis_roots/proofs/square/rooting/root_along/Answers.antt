use Rattle.std.proofs.Common.{◌≡◌, ◌*◌, ◌∙◌, length, sym, subst, arith, ℕ, IsTrue}
use Rattle.namespace_id.proofs.PowerLemmas.{double_power}
use Rattle.nmt_tree.specs.Roots.{is_leaf_count}
use Rattle.axis_roots.proofs.Grids.RootingLemmas.{strict_there, strict_missing}
use Rattle.axis_roots.proofs.square.rooting.root_along.Goals as goal

pub fold_root-requires : goal.fold_root-requires
fold_root-requires c =
    let long : 2 * c.args.k ≡ length c.read_leaves.new.line = omega arith in
    subst (λ (n : ℕ). IsTrue (is_leaf_count n)) long (double_power c.args.k c.requires.width)

pub returns-then-are_ordered : goal.returns-then-are_ordered
returns-then-are_ordered c = λ shares are leaves.
    strict_there c.args.k shares c.args.axis c.args.index (length c.read_leaves.new.line) c.read_leaves.new.line c.fold_root.result
    c.requires.width are (c.read_leaves.ensures shares leaves) (omega arith) c.fold_root.ensures (sym c.are_ordered.ensures ∙ c.if-are_ordered.true)

pub returns-else-are_ordered : goal.returns-else-are_ordered
returns-else-are_ordered c = λ shares are leaves.
    strict_missing c.args.k shares c.args.axis c.args.index c.read_leaves.new.line are (c.read_leaves.ensures shares leaves)
    (sym c.are_ordered.ensures ∙ c.if-are_ordered.false)
