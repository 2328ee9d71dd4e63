-- The tree over a row of the grid that a header is of, and rows that may not hold a namespace.
use Rattle.std.proofs.Common.{◌≡◌, ◌∙◌, ℕ, ◌*◌, ◌^◌, ◌<◌, List, [], length, map, true, false, Some, sym, ap, subst, arith}
use Rattle.std.specs.List.{flat_map, AllByRecursion}
use Rattle.std.proofs.lemmas.Bool.{true≢false, and_from}
use Rattle.namespace_id.specs.declared.namespaces.Namespace.{Namespace}
use Rattle.namespace_id.specs.declared.shares.Share.{Share}
use Rattle.namespace_id.specs.declared.digests.Digest.{Digest}
use Rattle.namespace_id.specs.declared.cells.Axis.TheVariants.{Row}
use Rattle.namespace_id.specs.Names.{is_at_most, is_parity}
use Rattle.namespace_id.specs.Shares.{AreShares}
use Rattle.namespace_id.specs.Digests.{least_of, greatest_of}
use Rattle.namespace_id.specs.Cells.{is_width}
use Rattle.namespace_id.specs.Lists.{ascending}
use Rattle.namespace_id.proofs.PowerLemmas.{double_halvings}
use Rattle.nmt_tree.specs.Roots.{halvings, is_ordered}
use Rattle.nmt_tree.specs.Levels.{HasOrderedJoins, span}
use Rattle.nmt_tree.specs.Spans.{name_at, IsOver, IsAbove}
use Rattle.nmt_tree.proofs.NameLemmas.{ordered_at}
use Rattle.nmt_tree.proofs.OverLemmas.{over_span}
use Rattle.nmt_tree.proofs.AboveLemmas.{above_span}
use Rattle.nmt_tree.proofs.JoinLemmas.{joins_ordered}
use Rattle.nmt_proofs.specs.Clashes.{AreLeaves}
use Rattle.data_header.specs.Headers.{Roots, root_of}
use Rattle.square_layout.specs.Blocks.{SquareShares}
use Rattle.axis_roots.specs.declared.answers.NsEntry.{NsEntry}
use Rattle.axis_roots.specs.Grids.{IsHeaderOf, share_at, axis_names, axis_shares, are_ordered_axes, header_of_grid}
use Rattle.axis_roots.specs.Trees.{axis_leaves}
use Rattle.axis_roots.proofs.Grids.AxisLemmas.{length-along}
use Rattle.axis_roots.proofs.Grids.LineLemmas.{line_leaves}
use Rattle.axis_roots.proofs.Grids.HeaderLemmas.{some_if, ordered_axis, header_width, header_root}
use Rattle.axis_roots.proofs.Grids.RootingLemmas.{root-leaves}
use Rattle.axis_roots.proofs.Grids.StoredLemmas.{axis_shares-are}
use Rattle.square_serve.specs.Shares.{row_shares, namespace_shares}
use Rattle.square_serve.specs.Answers.{shown_found, shown, is_wanted, wanted_rows}
use Rattle.square_serve.specs.Serving.{HeldParts, IsHeld}
use Rattle.square_serve.proofs.PassingLemmas.{row_by_row}
use Rattle.square_serve.proofs.RowLemmas.{row_shares-none}

-- a row of the original square in a grid of shares, of which the leaf namespaces never fall
pub record IsRow (k : ℕ) (grid : List Share) (row : ℕ) : Type 0 where
  pub width : is_width k ≡ true
  pub within : row < k
  pub leaves : AreLeaves (halvings (2 * k)) (axis_names k grid Row row) (axis_shares k grid Row row)
  pub ordered : is_ordered (axis_names k grid Row row) ≡ true

-- each row of the original square is one, where the grid has a header
pub row_of : (k : ℕ) (grid : List Share) (header : Roots) (row : ℕ) → is_width k ≡ true → AreShares (axis_shares k grid Row row) → header_of_grid k grid ≡ Some header
    → row < k → IsRow k grid row
row_of k grid header row width are made h = record {
  width = width;
  within = h;
  leaves = line_leaves k Row row (axis_shares k grid Row row) width (length-along k (share_at (2 * k) grid) Row row) are;
  ordered = ordered_axis k grid (some_if (are_ordered_axes k grid) _ header made).0 Row row (omega (arith, h));
}

-- so is each row of the square of a header
pub own_row : (header : Roots) (square : SquareShares) (own : IsHeaderOf header square) (row : ℕ) → row < square.k → IsRow square.k own.grid row
own_row header square own row h =
    row_of square.k own.grid header row own.whole.width (own.extends.codewords Row row (omega (arith, h))).shares own.roots h

-- and of a held square
pub held_row : (held : HeldParts) → IsHeld held → (row : ℕ) → row < held.k → IsRow held.k held.grid row
held_row held is row h = row_of held.k held.grid held.header row is.grid.width (axis_shares-are held.k held.grid Row row is.shares) is.roots h

module _ (k : ℕ) (grid : List Share) (row : ℕ) (is : IsRow k grid row) where
  -- it has as many shares as namespaces
  alike : length (axis_shares k grid Row row) ≡ length (axis_names k grid Row row)
  alike = is.leaves.share_count ∙ sym is.leaves.name_count

  -- every join over its leaves is ordered
  pub row_joins : HasOrderedJoins (axis_leaves k grid Row row) 0 (halvings (2 * k))
  row_joins =
      joins_ordered (halvings (2 * k)) 0 (axis_names k grid Row row) (axis_shares k grid Row row) is.leaves.name_bytes alike is.ordered (omega (arith, is.leaves.name_count))

  module _ (header : Roots) (made : header_of_grid k grid ≡ Some header) where
    -- the header's root of the row is the digest over its leaves
    row_root : span (axis_leaves k grid Row row) 0 (halvings (2 * k)) ≡ root_of header Row row
    row_root = root-leaves k grid Row row is.width ∙ sym (header_root k grid header made Row row (omega (arith, is.within)))

    -- what the namespaces of the root say
    pub root_over : IsOver (axis_names k grid Row row) 0 (halvings (2 * k)) (root_of header Row row)
    root_over =
        subst (IsOver (axis_names k grid Row row) 0 (halvings (2 * k))) row_root
        (over_span (halvings (2 * k)) 0 (axis_names k grid Row row) (axis_shares k grid Row row) is.leaves.name_bytes alike (omega (arith, is.leaves.name_count)))

    -- none of the row's but PARITY is above them
    pub root_above : IsAbove (axis_names k grid Row row) 0 (halvings (2 * k)) (root_of header Row row)
    root_above =
        subst (IsAbove (axis_names k grid Row row) 0 (halvings (2 * k))) row_root
        (above_span (halvings (2 * k)) 0 (axis_names k grid Row row) (axis_shares k grid Row row) is.leaves.name_bytes alike is.ordered (omega (arith, is.leaves.name_count)))

    -- a row in which a leaf has a namespace may hold it
    wanted_where : (name : Namespace) (i : ℕ) → is_parity name ≡ false → i < 2 * k → name_at (axis_names k grid Row row) i ≡ name → is_wanted header name row ≡ true
    wanted_where name i other lt here =
        let names : List Namespace = axis_names k grid Row row in
        let root : Digest = root_of header Row row in
        let size : 2 * k ≡ 2 ^ halvings (2 * k) = sym (double_halvings k is.width) in
        let low : is_at_most (name_at names 0) (name_at names i) ≡ true = ordered_at names 0 i is.ordered (omega arith) (omega (arith, lt, size, is.leaves.name_count)) in
        let high : is_at_most (name_at names i) (greatest_of root) ≡ true = root_above i (omega arith) (omega (arith, lt, size)) (ap is_parity here ∙ other) in
        and_from (is_at_most (least_of root) name) (is_at_most name (greatest_of root))
        (ap (λ (n : Namespace). is_at_most n name) root_over.least ∙ sym (ap (is_at_most (name_at names 0)) here) ∙ low)
        (sym (ap (λ (n : Namespace). is_at_most n (greatest_of root)) here) ∙ high)

-- ---- the square of a header

-- a row that may not hold a namespace has none of its shares
unwanted_none : (header : Roots) (name : Namespace) (square : SquareShares) (own : IsHeaderOf header square) (row : ℕ) → is_parity name ≡ false → row < square.k
    → is_wanted header name row ≡ false → row_shares square name row ≡ []
unwanted_none header name square own row other h unwanted =
    row_shares-none square own.grid name row own.extends h
    (λ i lt here. true≢false (sym (wanted_where square.k own.grid row (own_row header square own row h) header own.roots name i other lt here) ∙ unwanted))

-- where there is an entry for each row that may hold a namespace, and each shows its row's shares of it, all are shown
pub shown_rows : (header : Roots) (name : Namespace) (square : SquareShares) (own : IsHeaderOf header square) (answer : List NsEntry) → is_parity name ≡ false
    → map (λ entry. entry.row) answer ≡ wanted_rows header name → AllByRecursion (λ entry. shown_found entry.row entry.found ≡ row_shares square name entry.row) answer
    → shown answer ≡ namespace_shares square name
shown_rows header name square own answer other rows each =
    let width : header.k ≡ square.k = header_width square.k own.grid header own.roots in
    row_by_row (is_wanted header name) (row_shares square name) (λ entry. shown_found entry.row entry.found) (λ entry. entry.row) header.k 0 answer rows each
    (λ row low high unwanted. unwanted_none header name square own row other (omega (arith, high, width)) unwanted)
    ∙ ap (λ (n : ℕ). flat_map (row_shares square name) (ascending 0 n)) width
