use Rattle.std.proofs.Common.{◌≡◌, ◌∙◌, ◌<◌, ◌*◌, ℕ, length, get_or, not, sym, ap, subst, arith}
use Rattle.std.specs.Prelude.{IsSome}
use Rattle.std.proofs.lemmas.List.{get_or_default}
use Rattle.namespace_id.specs.declared.cells.Axis.TheVariants.{Row}
use Rattle.nmt_tree.specs.Trees.{StoredTree}
use Rattle.square_layout.specs.Blocks.{SquareShares}
use Rattle.axis_roots.specs.Lines.{line_names}
use Rattle.axis_roots.specs.Trees.{no_tree}
use Rattle.square_serve.specs.Needed.{IsNeededTree}
use Rattle.square_serve.proofs.HeaderLemmas.{row_filled, rows_put, rows_made}
use Rattle.square_serve.proofs.NeededLemmas.{rooted_stored, filled_stored, filled_needed}
use Rattle.square_serve.proofs.row_trees.make_tree.Goals as goal

pub returns-then-is_none-clause-trees : goal.returns-then-is_none-clause-trees
returns-then-is_none-clause-trees c =
    let square = c.args.square.now in
    let own = c.requires.trees.own in
    let trees = c.args.trees.now in
    let place : c.args.row < length trees = omega (arith, c.requires.trees.count, c.requires.row) in
    let width : c.square.inside.k ≡ square.k = ap (λ (s : SquareShares). s.k) c.square.view_is in
    let was : get_or trees c.args.row c.index-trees-row.result ≡ get_or trees c.args.row no_tree = get_or_default trees c.args.row c.index-trees-row.result no_tree place in
    let count : c.fill.new.self.count ≡ 2 * square.k = c.fill.ensures.count ∙ ap (λ (t : StoredTree). t.count) was ∙ (c.requires.trees.each c.args.row c.requires.row).count in
    let leaves = row_filled square own c.args.row c.requires.row c.extend_row.new.line c.extend_row.ensures.line c.name_leaves.new.names c.fill.new.self.leaves
    (c.name_leaves.ensures ∙ ap (λ (n : ℕ). line_names n Row c.args.row c.extend_row.new.line) width) c.fill.ensures.leaves in
    rows_put square trees c.args.row c.fill.new.self c.requires.trees c.requires.row
    (filled_needed square.k own.1.grid Row c.args.row c.fill.new.self (filled_stored square.k own.1.grid Row c.args.row c.fill.new.self count leaves))

pub returns-then-is_none-clause-made : goal.returns-then-is_none-clause-made
returns-then-is_none-clause-made c =
    let square = c.args.square.now in
    let own = c.requires.trees.own in
    let trees = c.args.trees.now in
    let place : c.args.row < length trees = omega (arith, c.requires.trees.count, c.requires.row) in
    let width : c.square.inside.k ≡ square.k = ap (λ (s : SquareShares). s.k) c.square.view_is in
    let was : get_or trees c.args.row c.index-trees-row.result ≡ get_or trees c.args.row no_tree = get_or_default trees c.args.row c.index-trees-row.result no_tree place in
    let count : c.fill.new.self.count ≡ 2 * square.k = c.fill.ensures.count ∙ ap (λ (t : StoredTree). t.count) was ∙ (c.requires.trees.each c.args.row c.requires.row).count in
    let leaves = row_filled square own c.args.row c.requires.row c.extend_row.new.line c.extend_row.ensures.line c.name_leaves.new.names c.fill.new.self.leaves
    (c.name_leaves.ensures ∙ ap (λ (n : ℕ). line_names n Row c.args.row c.extend_row.new.line) width) c.fill.ensures.leaves in
    rows_made square own trees c.args.row c.fill.new.self place (filled_stored square.k own.1.grid Row c.args.row c.fill.new.self count leaves)

-- a tree that isn't empty stays
pub returns-else-is_none-clause-trees : goal.returns-else-is_none-clause-trees
returns-else-is_none-clause-trees c =
    let square = c.args.square.now in
    let trees = c.args.trees.now in
    let place : c.args.row < length trees = omega (arith, c.requires.trees.count, c.requires.row) in
    let tree = get_or trees c.args.row c.index-trees-row.result in
    let was : tree ≡ get_or trees c.args.row no_tree = get_or_default trees c.args.row c.index-trees-row.result no_tree place in
    rows_put square trees c.args.row tree c.requires.trees c.requires.row
    (subst (IsNeededTree square.k c.requires.trees.own.1.grid Row c.args.row) (sym was) (c.requires.trees.each c.args.row c.requires.row))

pub returns-else-is_none-clause-made : goal.returns-else-is_none-clause-made
returns-else-is_none-clause-made c =
    let square = c.args.square.now in
    let own = c.requires.trees.own in
    let trees = c.args.trees.now in
    let place : c.args.row < length trees = omega (arith, c.requires.trees.count, c.requires.row) in
    let tree = get_or trees c.args.row c.index-trees-row.result in
    let was : tree ≡ get_or trees c.args.row no_tree = get_or_default trees c.args.row c.index-trees-row.result no_tree place in
    let some : IsSome c.root.result = c.is_none.ensures ∙ ap not c.if-is_none.false in
    rows_made square own trees c.args.row tree place
    (rooted_stored square.k own.1.grid Row c.args.row tree (subst IsSome c.root.ensures some)
    (subst (IsNeededTree square.k own.1.grid Row c.args.row) (sym was) (c.requires.trees.each c.args.row c.requires.row)))
