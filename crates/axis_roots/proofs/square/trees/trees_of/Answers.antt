use Rattle.std.proofs.Common.{◌∙◌, sym, arith, below_more}
use Rattle.axis_roots.specs.Grids.{is_ordered_axis}
use Rattle.axis_roots.specs.Trees.{axis_stored}
use Rattle.axis_roots.proofs.Grids.HeaderLemmas.{some_if}
use Rattle.axis_roots.proofs.Grids.StoredLemmas.{trees_missing, trees_there}
use Rattle.axis_roots.proofs.square.trees.trees_of.Goals as goal
use Rattle.namespace_id.proofs.AscentLemmas.{mapped_none, mapped_more}

pub loop-index-init : goal.loop-index-init
loop-index-init c = record {
  ordered = λ i h. absurd (omega arith);
  stored = mapped_none (axis_stored c.args.grid.now.k c.args.grid.now.shares c.args.axis) c.in-Ok.trees.items c.in-Ok.ensures.items;
}

pub returns-in_default-2 : goal.returns-in_default-2
returns-in_default-2 c =
    trees_missing c.args.grid.now.k c.args.grid.now.shares c.args.axis c.loop-index.index c.in_ok-tree.field-0 (omega (arith, c.width-count.ensures.value))
    c.in_ok-tree.ensures c.in_default-2.is

pub loop-index-preserved : goal.loop-index-preserved
loop-index-preserved c =
    let found = some_if (is_ordered_axis c.args.grid.now.k c.args.grid.now.shares c.args.axis c.loop-index.index)
    (axis_stored c.args.grid.now.k c.args.grid.now.shares c.args.axis c.loop-index.index) c.in-Some.tree (sym c.in_ok-tree.ensures ∙ c.in-Some.is) in record {
      ordered = below_more _ _ c.loop-index.invariant.ordered found.0;
      stored = c.in-Ok-push.ensures.items
          ∙ mapped_more (axis_stored c.args.grid.now.k c.args.grid.now.shares c.args.axis) c.loop-index.index c.loop-index.trees.items c.in-Some.tree
          c.loop-index.invariant.stored found.1;
    }

pub returns : goal.returns
returns c =
    trees_there c.args.grid.now.k c.loop-index.index c.args.grid.now.shares c.args.axis c.loop-index.trees.items c.loop-index.invariant.ordered
    c.loop-index.invariant.stored (omega (arith, c.width-count.ensures.value))
