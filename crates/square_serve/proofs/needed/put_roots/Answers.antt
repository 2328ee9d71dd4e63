use Rattle.std.proofs.Common.{◌∙◌, ◌<◌, ◌*◌, ℕ, ap, arith, length-set}
use Rattle.std.proofs.lemmas.List.{get_or_default}
use Rattle.namespace_id.specs.Digests.{no_digest}
use Rattle.axis_roots.specs.Grids.{axis_root}
use Rattle.axis_roots.specs.Trees.{no_tree, stored_root}
use Rattle.axis_roots.proofs.Grids.RootingLemmas.{root-leaves}
use Rattle.square_serve.proofs.NeededLemmas.{filled_next, mapped_all}
use Rattle.square_serve.proofs.needed.put_roots.Goals as goal

-- one root more
pub loop-index-preserved : goal.loop-index-preserved
loop-index-preserved c =
    let index : ℕ = c.loop-index.index in
    let within : index < 2 * c.args.grid.now.k = omega (arith, c.loop-index-test.true, c.width-index-end.ensures.value) in
    record {
      leaves = c.make_tree.ensures.leaves;
      trees = c.make_tree.ensures.trees;
      line = omega (arith, c.loop-index.invariant.line);
      count = length-set c.loop-index.roots index c.root_in.result ∙ c.loop-index.invariant.count;
      roots = filled_next (axis_root c.args.grid.now.k c.args.grid.now.shares c.args.axis) no_digest c.loop-index.roots index c.root_in.result
          (omega (arith, within, c.loop-index.invariant.count))
          (c.root_in.ensures
          ∙ ap stored_root (get_or_default c.make_tree.new.trees index c.index-trees-index.result no_tree (omega (arith, within, c.make_tree.ensures.trees.count)) ∙ c.make_tree.ensures.made)
          ∙ root-leaves c.args.grid.now.k c.args.grid.now.shares c.args.axis index c.width-index-end.ensures.grid.width)
          c.loop-index.invariant.roots;
    }

-- there is one for each axis
pub returns-clause-roots : goal.returns-clause-roots
returns-clause-roots c =
    mapped_all (axis_root c.args.grid.now.k c.args.grid.now.shares c.args.axis) (2 * c.args.grid.now.k) no_digest c.loop-index.roots
    c.loop-index.invariant.count (λ i h. c.loop-index.invariant.roots i (omega (arith, h, c.loop-index-test.false, c.width-index-end.ensures.value)))
