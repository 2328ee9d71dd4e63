-- Stored trees of rows and columns, and their roots.
use Rattle.std.proofs.Common.{◌≡◌, ◌∙◌, ℕ, ◌+◌, ◌*◌, ◌<◌, List, length, map, Bool, true, false, cond, refl, sym, ap, ap₂, subst, arith, IsTrue}
use Rattle.std.specs.Prelude.{Option, Some, None, IsSome}
use Rattle.std.specs.List.{list_all}
use Rattle.std.proofs.lemmas.List.{length-map}
use Rattle.std.proofs.lemmas.Simd.{map-map}
use Rattle.namespace_id.specs.declared.cells.Axis.{Axis}
use Rattle.namespace_id.specs.declared.cells.Axis.TheVariants.{Row, Col}
use Rattle.namespace_id.specs.declared.shares.Share.{Share}
use Rattle.namespace_id.specs.declared.digests.Digest.{Digest}
use Rattle.namespace_id.specs.Shares.{IsShare, AreShares}
use Rattle.namespace_id.specs.Cells.{is_width}
use Rattle.namespace_id.specs.Lists.{ascending}
use Rattle.nmt_tree.specs.Roots.{halvings}
use Rattle.nmt_tree.specs.Levels.{HasOrderedJoins}
use Rattle.nmt_tree.specs.Trees.{StoredTree}
use Rattle.nmt_tree.proofs.JoinLemmas.{joins_ordered}
use Rattle.namespace_id.proofs.AscendingLemmas.{length-ascending}
use Rattle.namespace_id.proofs.PowerLemmas.{double_halvings}
use Rattle.axis_roots.specs.Grids.{share_at, axis_cells, leaf_over, axis_names, axis_shares, axis_roots, is_ordered_axis, are_ordered_axes, header_of_grid}
use Rattle.axis_roots.specs.Trees.{AxisTrees, AreTrees, AreFilled, axis_leaves, axis_stored, stored_along, stored_root, trees_of_grid, no_tree, tree_at}
use Rattle.axis_roots.proofs.Grids.AxisLemmas.{get_or-mapped, length-along}
use Rattle.axis_roots.proofs.Grids.WordLemmas.{each-map, share_anywhere}
use Rattle.axis_roots.proofs.Grids.LineLemmas.{line_names-are, length-line_names, axis_leaves-cells}
use Rattle.axis_roots.proofs.Grids.HeaderLemmas.{some_if, none_if, ordered_axis}
use Rattle.axis_roots.proofs.Grids.RootingLemmas.{root-leaves, one_falls, all_ordered}

-- ---- trees

-- the shares along an axis are shares
pub axis_shares-are : (k : ℕ) (shares : List Share) (axis : Axis) (i : ℕ) → AreShares shares → AreShares (axis_shares k shares axis i)
axis_shares-are k shares axis i are =
    each-map IsShare (share_at (2 * k) shares) (axis_cells k axis i) (λ cell. share_anywhere shares (cell.row * (2 * k) + cell.col) are)

-- an axis has 2k leaves
pub length-leaves : (k : ℕ) (shares : List Share) (axis : Axis) (i : ℕ) → length (axis_leaves k shares axis i) ≡ 2 * k
length-leaves k shares axis i = ap length (axis_leaves-cells k shares axis i) ∙ length-along k (leaf_over k shares) axis i

-- every join over the leaves along an ordered axis is ordered
pub axis_joins : (k : ℕ) (shares : List Share) (axis : Axis) (i : ℕ) → IsTrue (is_width k) → AreShares shares → is_ordered_axis k shares axis i ≡ true
    → HasOrderedJoins (axis_leaves k shares axis i) 0 (halvings (2 * k))
axis_joins k shares axis i width are ordered =
    let line : List Share = axis_shares k shares axis i in
    let long : length (axis_names k shares axis i) ≡ 2 * k = length-line_names k axis i line in
    joins_ordered (halvings (2 * k)) 0 (axis_names k shares axis i) line (line_names-are k axis i line (axis_shares-are k shares axis i are))
    (length-along k (share_at (2 * k) shares) axis i ∙ sym long) ordered (omega (arith, long, double_halvings k width))

-- the same of a line and a count that are those
pub line_joins : (k n : ℕ) (shares : List Share) (axis : Axis) (i : ℕ) (line : List Digest) → IsTrue (is_width k) → AreShares shares → is_ordered_axis k shares axis i ≡ true
    → line ≡ axis_leaves k shares axis i → n ≡ 2 * k → HasOrderedJoins line 0 (halvings n)
line_joins k n shares axis i line width are ordered is count =
    subst (λ (m : ℕ). HasOrderedJoins line 0 (halvings m)) (sym count)
    (subst (λ (l : List Digest). HasOrderedJoins l 0 (halvings (2 * k))) (sym is) (axis_joins k shares axis i width are ordered))

-- the tree that was filled with the leaves along an axis
pub stored_there : (k : ℕ) (shares : List Share) (axis : Axis) (i : ℕ) (line : List Digest) (tree : StoredTree) → is_ordered_axis k shares axis i ≡ true
    → line ≡ axis_leaves k shares axis i → tree.count ≡ 2 * k → tree.leaves ≡ Some line
    → Some tree ≡ cond (is_ordered_axis k shares axis i) (Some (axis_stored k shares axis i)) None
stored_there k shares axis i line tree ordered is count leaves =
    let same : tree ≡ axis_stored k shares axis i = λ j. record { count = count j; leaves = (leaves ∙ ap Some is) j } in
    ap Some same ∙ sym (ap (λ (b : Bool). cond b (Some (axis_stored k shares axis i)) None) ordered)

-- an axis that falls has none
pub stored_missing : (k : ℕ) (shares : List Share) (axis : Axis) (i : ℕ) → is_ordered_axis k shares axis i ≡ false
    → None ≡ cond (is_ordered_axis k shares axis i) (Some (axis_stored k shares axis i)) None
stored_missing k shares axis i falls = sym (ap (λ (b : Bool). cond b (Some (axis_stored k shares axis i)) None) falls)

-- where one axis falls, there are no trees
pub trees_missing : (k : ℕ) (shares : List Share) (axis : Axis) (i : ℕ) (made : Option StoredTree) → i < 2 * k
    → made ≡ cond (is_ordered_axis k shares axis i) (Some (axis_stored k shares axis i)) None → made ≡ None
    → None ≡ cond (list_all (is_ordered_axis k shares axis) (ascending 0 (2 * k))) (Some (stored_along k shares axis)) None
trees_missing k shares axis i made h is none =
    ap (λ (b : Bool). cond b (Some (stored_along k shares axis)) None)
    (one_falls k (2 * k) shares axis i h (none_if (is_ordered_axis k shares axis i) (axis_stored k shares axis i) (sym is ∙ none)))

-- where none falls, there are those of all
pub trees_there : (k n : ℕ) (shares : List Share) (axis : Axis) (made : List StoredTree) → ((i : ℕ) → i < n → is_ordered_axis k shares axis i ≡ true)
    → made ≡ map (axis_stored k shares axis) (ascending 0 n) → n ≡ 2 * k
    → Some made ≡ cond (list_all (is_ordered_axis k shares axis) (ascending 0 (2 * k))) (Some (stored_along k shares axis)) None
trees_there k n shares axis made each is count =
    ap Some (is ∙ ap (λ (m : ℕ). map (axis_stored k shares axis) (ascending 0 m)) count)
    ∙ ap (λ (b : Bool). cond b (Some (stored_along k shares axis)) None) (all_ordered k (2 * k) shares axis (λ i h. each i (omega arith)))

-- both kinds of trees are those of a square
pub are_trees : (k n : ℕ) (shares : List Share) (rows cols : List StoredTree) → n ≡ k → IsTrue (is_width n)
    → rows ≡ stored_along k shares Row → cols ≡ stored_along k shares Col → AreTrees (record { k = n; rows = rows; cols = cols })
are_trees k n shares rows cols same width by_rows by_cols =
    let long : (axis : Axis) → length (stored_along k shares axis) ≡ 2 * n
    = λ axis. length-map (ascending 0 (2 * k)) (axis_stored k shares axis) ∙ length-ascending (2 * k) 0 ∙ ap (λ (m : ℕ). 2 * m) (sym same) in
    let filled : (axis : Axis) → AreFilled (stored_along k shares axis)
    = λ axis. each-map (λ (tree : StoredTree). IsSome tree.leaves) (axis_stored k shares axis) (ascending 0 (2 * k)) (λ i. refl) in
    record {
      width = width;
      rows = ap length by_rows ∙ long Row;
      cols = ap length by_cols ∙ long Col;
      filled_rows = subst AreFilled (sym by_rows) (filled Row);
      filled_cols = subst AreFilled (sym by_cols) (filled Col);
    }

-- the tree of one axis among all of them
get_or-stored : (k : ℕ) (shares : List Share) (axis : Axis) (i : ℕ) → i < 2 * k
    → tree_at (record { k = k; rows = stored_along k shares Row; cols = stored_along k shares Col }) axis i ≡ axis_stored k shares axis i
get_or-stored k shares Row i h = get_or-mapped (axis_stored k shares Row) (2 * k) i no_tree h
get_or-stored k shares Col i h = get_or-mapped (axis_stored k shares Col) (2 * k) i no_tree h

-- the trees of a grid are those over the leaves of each axis, and none of these falls
pub tree_along : (k : ℕ) (shares : List Share) (trees : AxisTrees) → trees_of_grid k shares ≡ Some trees → (axis : Axis) (i : ℕ) → i < 2 * k
    → (tree_at trees axis i ≡ axis_stored k shares axis i) × (is_ordered_axis k shares axis i ≡ true)
tree_along k shares trees made axis i h =
    let whole : AxisTrees = record { k = k; rows = stored_along k shares Row; cols = stored_along k shares Col } in
    let found : (are_ordered_axes k shares ≡ true) × (trees ≡ whole) = some_if (are_ordered_axes k shares) whole trees made in
    (ap (λ (t : AxisTrees). tree_at t axis i) found.1 ∙ get_or-stored k shares axis i h, ordered_axis k shares found.0 axis i h)

-- ---- roots

-- the roots of the trees along an axis are the grid's
roots-stored : (k : ℕ) (shares : List Share) (axis : Axis) → IsTrue (is_width k) → map stored_root (stored_along k shares axis) ≡ axis_roots k shares axis
roots-stored k shares axis width =
    map-map stored_root (axis_stored k shares axis) (ascending 0 (2 * k))
    ∙ (λ j. map (λ i. root-leaves k shares axis i width j) (ascending 0 (2 * k)))

-- the header of a grid has the roots of its trees
pub header-stored : (k : ℕ) (shares : List Share) (trees : AxisTrees) → IsTrue (is_width trees.k) → trees_of_grid k shares ≡ Some trees
    → header_of_grid k shares ≡ Some (record { k = trees.k; rows = map stored_root trees.rows; cols = map stored_root trees.cols })
header-stored k shares trees width made =
    let whole : AxisTrees = record { k = k; rows = stored_along k shares Row; cols = stored_along k shares Col } in
    let found : (are_ordered_axes k shares ≡ true) × (trees ≡ whole) = some_if (are_ordered_axes k shares) whole trees made in
    let wide : IsTrue (is_width k) = subst (λ (t : AxisTrees). IsTrue (is_width t.k)) found.1 width in
    ap (λ (b : Bool). cond b (Some (record { k = k; rows = axis_roots k shares Row; cols = axis_roots k shares Col })) None) found.0
    ∙ ap₂ (λ (rows cols : List Digest). Some (record { k = k; rows = rows; cols = cols })) (sym (roots-stored k shares Row wide)) (sym (roots-stored k shares Col wide))
    ∙ ap (λ (t : AxisTrees). Some (record { k = t.k; rows = map stored_root t.rows; cols = map stored_root t.cols })) (sym found.1)
