-- Squares that have a header, and their extensions.
use Rattle.std.proofs.Common.{◌≡◌, ◌∙◌, ◌<◌, ℕ, List, Bool, true, false, cond, inl, inr, length, get_or, set, sym, ap, subst, arith}
use Rattle.std.specs.Prelude.{Some, None, Option}
use Rattle.namespace_id.specs.declared.cells.Axis.TheVariants.{Row}
use Rattle.namespace_id.specs.declared.namespaces.Namespace.{Namespace}
use Rattle.namespace_id.specs.declared.digests.Digest.{Digest}
use Rattle.nmt_tree.specs.Roots.{is_ordered}
use Rattle.nmt_tree.specs.Levels.{leaf_digests}
use Rattle.axis_roots.specs.Lines.{line_names}
use Rattle.axis_roots.specs.Trees.{axis_leaves, axis_stored, no_tree}
use Rattle.nmt_tree.specs.Trees.{StoredTree}
use Rattle.std.proofs.lemmas.Bool.{cases_eq}
use Rattle.std.proofs.lemmas.List.{get_or-set_same, get_or-set_other, length-set}
use Rattle.namespace_id.specs.declared.shares.Share.{Share}
use Rattle.square_layout.specs.Blocks.{SquareShares, IsSquare}
use Rattle.axis_roots.specs.Grids.{Extends, HasNoHeader, axis_shares, are_ordered_axes, grid_roots}
use Rattle.axis_roots.proofs.Grids.ExtensionLemmas.{extension_once}
use Rattle.axis_roots.proofs.Grids.HeaderLemmas.{some_if, ordered_axis, header_made, header_not_made}
use Rattle.square_serve.specs.declared.row_trees.RowTrees.{RowTrees}
use Rattle.square_serve.specs.declared.rows.RowNames.{RowNames}
use Rattle.square_serve.specs.RowNames.{row_names}
use Rattle.square_serve.specs.Rows.{HasHeader, AreNeededRows, AreRowTrees, AreHeldRows}
use Rattle.square_serve.specs.Needed.{IsNeededTree}
use Rattle.square_serve.proofs.WantedLemmas.{roots_made}

-- a square along whose extension no namespaces fall has a header
pub has_header : (square : SquareShares) (grid : List Share) → IsSquare square → Extends square.k square.shares grid → are_ordered_axes square.k grid ≡ true
    → HasHeader square
has_header square grid whole extends ordered =
    (grid_roots square.k grid, header_made square grid (grid_roots square.k grid) whole extends (roots_made square.k grid ordered))

-- one along whose extension some fall has none
pub has_none : (square : SquareShares) (grid : List Share) → Extends square.k square.shares grid → are_ordered_axes square.k grid ≡ false → HasNoHeader square
has_none square grid extends falls = λ header is.
    header_not_made square grid header extends (ap (λ (b : Bool). cond b (Some (grid_roots square.k grid)) None) falls) is

-- every extension of a square that has a header is the header's
pub own_grid : (square : SquareShares) (own : HasHeader square) (grid : List Share) → Extends square.k square.shares grid → own.1.grid ≡ grid
own_grid square own grid extends = extension_once square.k square.shares own.1.grid grid own.1.whole.width own.1.extends extends

-- along it no namespaces fall
pub own_ordered : (square : SquareShares) → HasHeader square → (grid : List Share) → Extends square.k square.shares grid → are_ordered_axes square.k grid ≡ true
own_ordered square own grid extends =
    ap (are_ordered_axes square.k) (sym (own_grid square own grid extends))
    ∙ (some_if (are_ordered_axes square.k own.1.grid) (grid_roots square.k own.1.grid) own.0 own.1.roots).0

-- ---- what is kept beside a square

-- the namespaces that are told are those of each extension
pub own_names : (square : SquareShares) (told : List RowNames) (made : RowTrees) → AreHeldRows square told made → (grid : List Share) → Extends square.k square.shares grid
    → told ≡ row_names square.k grid
own_names square told made held grid extends = held.names ∙ ap (row_names square.k) (own_grid square held.trees.rows.own grid extends)

-- they stay where trees are made
pub held_kept : (square : SquareShares) (told : List RowNames) (old new : RowTrees) → AreHeldRows square told old → AreRowTrees square new → AreHeldRows square told new
held_kept square told old new held trees = record {
  trees = trees;
  names = own_names square told old held trees.rows.own.1.grid trees.rows.own.1.extends;
}

-- ---- the tree of a row

module _ (square : SquareShares) (own : HasHeader square) (row : ℕ) (h : row < square.k) (line : List Share)
    (is : (grid : List Share) → Extends square.k square.shares grid → line ≡ axis_shares square.k grid Row row) where
  -- none of the row's namespaces falls
  row_ordered : is_ordered (line_names square.k Row row line) ≡ true
  row_ordered =
      ap (λ (l : List Share). is_ordered (line_names square.k Row row l)) (is own.1.grid own.1.extends)
      ∙ ordered_axis square.k own.1.grid (own_ordered square own own.1.grid own.1.extends) Row row (omega (arith, h))

  -- so a tree that was filled with the row has its leaves
  pub row_filled : (names : List Namespace) (leaves : Option (List Digest)) → names ≡ line_names square.k Row row line
      → leaves ≡ cond (is_ordered names) (Some (leaf_digests names line)) None → leaves ≡ Some (axis_leaves square.k own.1.grid Row row)
  row_filled names leaves named filled =
      filled ∙ ap (λ (l : List Namespace). cond (is_ordered l) (Some (leaf_digests l line)) None) named
      ∙ ap (λ (b : Bool). cond b (Some (leaf_digests (line_names square.k Row row line) line)) None) row_ordered
      ∙ ap (λ (l : List Share). Some (leaf_digests (line_names square.k Row row l) l)) (is own.1.grid own.1.extends)

-- one more tree of a row
pub rows_put : (square : SquareShares) (trees : List StoredTree) (row : ℕ) (tree : StoredTree) (needed : AreNeededRows square trees) → row < square.k
    → IsNeededTree square.k needed.own.1.grid Row row tree → AreNeededRows square (set trees row tree)
rows_put square trees row tree needed h is = record {
  own = needed.own;
  count = length-set trees row tree ∙ needed.count;
  each = λ other lt. elim (cases_eq other row) [
    | inl here ↦
        subst (IsNeededTree square.k needed.own.1.grid Row other)
        (sym (ap (λ (n : ℕ). get_or (set trees row tree) n no_tree) here ∙ get_or-set_same trees row tree no_tree (omega (arith, h, needed.count))))
        (subst (λ (n : ℕ). IsNeededTree square.k needed.own.1.grid Row n tree) (sym here) is)
    | inr apart ↦
        subst (IsNeededTree square.k needed.own.1.grid Row other) (sym (get_or-set_other trees row other tree no_tree apart)) (needed.each other lt)
  ];
}

-- it is that of the row in every extension
pub rows_made : (square : SquareShares) (own : HasHeader square) (trees : List StoredTree) (row : ℕ) (tree : StoredTree) → row < length trees
    → tree ≡ axis_stored square.k own.1.grid Row row → (grid : List Share) → Extends square.k square.shares grid
    → get_or (set trees row tree) row no_tree ≡ axis_stored square.k grid Row row
rows_made square own trees row tree h is grid extends =
    get_or-set_same trees row tree no_tree h ∙ is ∙ ap (λ (g : List Share). axis_stored square.k g Row row) (own_grid square own grid extends)
