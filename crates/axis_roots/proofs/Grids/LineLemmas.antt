-- The leaf namespaces of lines, and those of the rows and columns of a grid.
use Rattle.std.proofs.Common.{◌≡◌, ◌∙◌, ℕ, zero, suc, ◌+◌, ◌*◌, ◌<◌, List, [], ◌∷◌, length, get_or, take, drop, map, true, refl, sym, ap, arith, length-drop}
use Rattle.std.proofs.lemmas.List.{get_or-map, get_or-take, get_or-drop, length-map, length-take-le}
use Rattle.namespace_id.specs.declared.cells.Cell.{Cell}
use Rattle.namespace_id.specs.declared.cells.Axis.{Axis}
use Rattle.namespace_id.specs.declared.cells.Axis.TheVariants.{Row}
use Rattle.namespace_id.specs.declared.namespaces.Namespace.{Namespace}
use Rattle.namespace_id.specs.declared.shares.Share.{Share}
use Rattle.namespace_id.specs.declared.digests.Digest.{Digest}
use Rattle.namespace_id.specs.Names.{AreNamespaces, parity}
use Rattle.namespace_id.specs.Shares.{AreShares}
use Rattle.namespace_id.specs.Cells.{is_width, leaf_namespace}
use Rattle.namespace_id.specs.Lists.{ascending}
use Rattle.namespace_id.proofs.ShareLemmas.{name_of-is}
use Rattle.namespace_id.proofs.AscendingLemmas.{length-ascending, get_or-ascending}
use Rattle.namespace_id.proofs.NumberLemmas.{row_before}
use Rattle.namespace_id.proofs.PowerLemmas.{double_halvings}
use Rattle.nmt_tree.specs.Digests.{leaf_digest}
use Rattle.nmt_tree.specs.Roots.{halvings}
use Rattle.nmt_tree.specs.Levels.{leaf_digests}
use Rattle.nmt_proofs.specs.Clashes.{AreLeaves}
use Rattle.axis_roots.specs.Lines.{blank, cell_on, line_names}
use Rattle.axis_roots.specs.Grids.{share_at, axis_cells, axis_shares, axis_names, leaf_over}
use Rattle.axis_roots.proofs.Grids.AxisLemmas.{get_or-along, is_along}
use Rattle.axis_roots.proofs.Grids.WordLemmas.{share_anywhere}

-- a line has 2k namespaces
pub length-line_names : (k : ℕ) (axis : Axis) (i : ℕ) (line : List Share) → length (line_names k axis i line) ≡ 2 * k
unfolding line_names
length-line_names k axis i line =
    length-map (ascending 0 (2 * k)) (λ pos. leaf_namespace k (cell_on axis i pos) (get_or line pos blank)) ∙ length-ascending (2 * k) 0

-- the one at a place
pub get_or-line_names : (k : ℕ) (axis : Axis) (i : ℕ) (line : List Share) (pos : ℕ) (d : Namespace) → pos < 2 * k
    → get_or (line_names k axis i line) pos d ≡ leaf_namespace k (cell_on axis i pos) (get_or line pos blank)
unfolding line_names
get_or-line_names k axis i line pos d h =
    let start : 0 + pos ≡ pos = omega arith in
    let name : ℕ → Namespace = λ p. leaf_namespace k (cell_on axis i p) (get_or line p blank) in
    get_or-map name (ascending 0 (2 * k)) pos 0 d (omega (arith, length-ascending (2 * k) 0))
    ∙ ap name (get_or-ascending (2 * k) 0 pos h ∙ start)

-- those of some places are namespaces
names_from : (k : ℕ) (axis : Axis) (i : ℕ) (line : List Share) → AreShares line → (n first : ℕ)
    → AreNamespaces (map (λ pos. leaf_namespace k (cell_on axis i pos) (get_or line pos blank)) (ascending first n))
unfolding ascending
names_from k axis i line are zero first = tt
names_from k axis i line are (suc n) first =
    (name_of-is k (cell_on axis i first) (get_or line first blank) (share_anywhere line first are), names_from k axis i line are n (suc first))

-- so all of them are
pub line_names-are : (k : ℕ) (axis : Axis) (i : ℕ) (line : List Share) → AreShares line → AreNamespaces (line_names k axis i line)
unfolding line_names
line_names-are k axis i line are = names_from k axis i line are (2 * k) 0

-- the leaves over a line of 2k shares
pub line_leaves : (k : ℕ) (axis : Axis) (i : ℕ) (line : List Share) → is_width k ≡ true → length line ≡ 2 * k → AreShares line
    → AreLeaves (halvings (2 * k)) (line_names k axis i line) line
line_leaves k axis i line width long are = record {
  name_count = length-line_names k axis i line ∙ sym (double_halvings k width);
  share_count = long ∙ sym (double_halvings k width);
  name_bytes = line_names-are k axis i line are;
  share_bytes = are;
}

-- ---- rows and columns of a grid

-- the name at a place of an axis
pub get_or-axis_names : (k : ℕ) (shares : List Share) (axis : Axis) (i pos : ℕ) (d : Namespace) → pos < 2 * k
    → get_or (axis_names k shares axis i) pos d ≡ leaf_namespace k (cell_on axis i pos) (share_at (2 * k) shares (cell_on axis i pos))
get_or-axis_names k shares axis i pos d h =
    get_or-line_names k axis i (axis_shares k shares axis i) pos d h
    ∙ ap (leaf_namespace k (cell_on axis i pos)) (get_or-along k (share_at (2 * k) shares) axis i pos blank h)

-- the names along an axis, by its cells
pub axis_names-cells : (k : ℕ) (shares : List Share) (axis : Axis) (i : ℕ)
    → axis_names k shares axis i ≡ map (λ cell. leaf_namespace k cell (share_at (2 * k) shares cell)) (axis_cells k axis i)
axis_names-cells k shares axis i =
    is_along k (λ cell. leaf_namespace k cell (share_at (2 * k) shares cell)) axis i parity (axis_names k shares axis i)
    (length-line_names k axis i (axis_shares k shares axis i)) (λ pos h. get_or-axis_names k shares axis i pos parity h)

-- the digests of leaves are those of their names and shares
mapped_leaves : (name : Cell → Namespace) (share : Cell → Share) (cells : List Cell)
    → map (λ cell. leaf_digest (name cell) (share cell)) cells ≡ leaf_digests (map name cells) (map share cells)
unfolding leaf_digests
mapped_leaves name share [] = refl
mapped_leaves name share (cell ∷ cells) = ap (λ (l : List Digest). leaf_digest (name cell) (share cell) ∷ l) (mapped_leaves name share cells)

-- the digests of the leaves along an axis, by its cells
pub axis_leaves-cells : (k : ℕ) (shares : List Share) (axis : Axis) (i : ℕ)
    → leaf_digests (axis_names k shares axis i) (axis_shares k shares axis i) ≡ map (leaf_over k shares) (axis_cells k axis i)
axis_leaves-cells k shares axis i =
    ap (λ (names : List Namespace). leaf_digests names (axis_shares k shares axis i)) (axis_names-cells k shares axis i)
    ∙ sym (mapped_leaves (λ cell. leaf_namespace k cell (share_at (2 * k) shares cell)) (share_at (2 * k) shares) (axis_cells k axis i))

-- the shares of a row are neighbors in a row-major list
pub row_taken : (k row : ℕ) (shares : List Share) → length shares ≡ 2 * k * (2 * k) → row < 2 * k
    → take (2 * k) (drop (row * (2 * k)) shares) ≡ axis_shares k shares Row row
row_taken k row shares size h =
    let n : ℕ = 2 * k in
    is_along k (share_at n shares) Row row blank (take n (drop (row * n) shares))
    (length-take-le n (drop (row * n) shares) (omega (arith, length-drop (row * n) shares, row_before row n n h)))
    (λ pos lt. get_or-take n (drop (row * n) shares) pos blank lt ∙ get_or-drop (row * n) shares pos blank)
