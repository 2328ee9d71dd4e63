use Rattle.std.proofs.Common.{◌∙◌, ℕ, ◌*◌, ap, sym, subst, arith, true≢false}
use Rattle.namespace_id.specs.Shares.{AreShares}
use Rattle.namespace_id.specs.declared.cells.Axis.TheVariants.{Row, Col}
use Rattle.square_serve.proofs.NeededLemmas.{none_alone, no_leaves, no_trees}
use Rattle.square_serve.proofs.needed.NeededTrees.of.Goals as goal
use Rattle.square_layout.specs.Blocks.{SquareShares}

pub returns : goal.returns
returns c = record {
  shares = subst AreShares (c.deref.ensures.value ∙ ap (λ (g : SquareShares). g.shares) c.grid.view_is) c.shares_law.ensures;
  ordered = c.requires;
  leaves = no_leaves c.args.grid.now.k _ c.args.grid.now.shares c.in-Ok.leaves.items (c.in-Ok.ensures.items_if_clones_equal (none_alone _ (λ d cloned. elim cloned [ ])))
      (ap (λ (k : ℕ). 2 * k * (2 * k)) c.width-side.ensures.value);
  rows = no_trees c.args.grid.now.k _ c.args.grid.now.shares Row c.in_ok-empty_trees.field-0.items c.in_ok-empty_trees.ensures (ap (λ (k : ℕ). 2 * k) c.width-side.ensures.value);
  cols = no_trees c.args.grid.now.k _ c.args.grid.now.shares Col c.in_ok-empty_trees-2.field-0.items c.in_ok-empty_trees-2.ensures (ap (λ (k : ℕ). 2 * k) c.width-side.ensures.value);
  line = omega (arith, c.in-Ok-vec.ensures.len, c.width-side.ensures.value);
  header = record { width = c.in_ok-blank_header.ensures; roots = λ put. absurd (true≢false (sym put)) };
}
