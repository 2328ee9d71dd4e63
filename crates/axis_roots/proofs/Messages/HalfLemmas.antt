-- Samples made from the left half of the extension of a square.
use Rattle.std.proofs.Common.{◌≡◌, ◌∙◌, ℕ, ◌*◌, ◌<◌, List, true, sym, ap, subst, subst₂, IsTrue}
use Rattle.std.specs.Prelude.{Option, Some}
use Rattle.namespace_id.specs.declared.cells.Cell.{Cell}
use Rattle.namespace_id.specs.declared.cells.Axis.{Axis}
use Rattle.namespace_id.specs.declared.shares.Share.{Share}
use Rattle.namespace_id.specs.declared.digests.Digest.{Digest}
use Rattle.namespace_id.specs.Cells.{is_in_square}
use Rattle.nmt_proofs.specs.Making.{leaf_nodes}
use Rattle.data_header.specs.Headers.{Roots}
use Rattle.square_layout.specs.Blocks.{SquareShares}
use Rattle.axis_roots.specs.declared.message.messages.Message.{Message}
use Rattle.axis_roots.specs.Messages.{position, index, root_for}
use Rattle.axis_roots.specs.Openings.{OpensAt, IsProved}
use Rattle.axis_roots.specs.Grids.{share_at, Extends, AreLeafDigests, axis_root, is_ordered_axis, are_ordered_axes, grid_roots, header_of_grid, IsHeaderOf}
use Rattle.axis_roots.specs.Trees.{axis_leaves, message_at}
use Rattle.axis_roots.specs.Halves.{AreOrderedLeaves}
use Rattle.axis_roots.proofs.Grids.NumberLemmas.{index-lt}
use Rattle.axis_roots.proofs.Grids.ExtensionLemmas.{extension_once}
use Rattle.axis_roots.proofs.Grids.HeaderLemmas.{some_if, ordered_axis, header_width, header_root}
use Rattle.axis_roots.proofs.Grids.QuarterLemmas.{extension_shares}
use Rattle.axis_roots.proofs.Messages.MessageLemmas.{message_opens}

-- the digests of the leaves over the extension of a square that has a header are those over every extension of it
pub each_digests : (header : Roots) (square : SquareShares) (leaves : List Digest) (own : IsHeaderOf header square) → AreLeafDigests square.k own.grid leaves
    → (grid : List Share) → Extends square.k square.shares grid → AreLeafDigests square.k grid leaves
each_digests header square leaves own are grid extends =
    subst (λ (g : List Share). AreLeafDigests square.k g leaves)
    (extension_once square.k square.shares own.grid grid own.whole.width own.extends extends) are

-- so are digests that are those
pub kept_digests : (header : Roots) (square : SquareShares) (leaves kept : List Digest) (own : IsHeaderOf header square) → AreLeafDigests square.k own.grid leaves
    → kept ≡ leaves → (grid : List Share) → Extends square.k square.shares grid → AreLeafDigests square.k grid kept
kept_digests header square leaves kept own are same grid extends =
    subst (λ (l : List Digest). AreLeafDigests square.k grid l) (sym same) (each_digests header square leaves own are grid extends)

-- along none of its rows and columns namespaces fall
pub ordered_digests : (header : Roots) (square : SquareShares) (leaves : List Digest) (own : IsHeaderOf header square) → AreLeafDigests square.k own.grid leaves
    → AreOrderedLeaves square.k leaves
ordered_digests header square leaves own are = record {
  grid = own.grid;
  shares = extension_shares square.k square.shares own.grid own.whole.width own.extends;
  ordered = (some_if (are_ordered_axes square.k own.grid) (grid_roots square.k own.grid) header own.roots).0;
  digests = are;
}

-- the sample of each cell of the extension is proved under the header of its square
pub own_proved : (header : Roots) (square : SquareShares) (grid : List Share) (cell : Cell) (axis : Axis) → IsHeaderOf header square
    → Extends square.k square.shares grid → IsTrue (is_in_square square.k cell) → IsProved header (message_at square.k grid cell axis)
own_proved header square grid cell axis own extends within =
    let k : ℕ = square.k in
    let i : ℕ = index axis cell in
    let m : Message = message_at k grid cell axis in
    let same : own.grid ≡ grid = extension_once k square.shares own.grid grid own.whole.width own.extends extends in
    let made : header_of_grid k grid ≡ Some header = ap (header_of_grid k) (sym same) ∙ own.roots in
    let at : i < 2 * k = index-lt k axis cell within in
    let ordered : is_ordered_axis k grid axis i ≡ true =
    ordered_axis k grid (some_if (are_ordered_axes k grid) (grid_roots k grid) header made).0 axis i at in
    let root : root_for header m ≡ axis_root k grid axis i = header_root k grid header made axis i at in
    subst₂ (λ (n : ℕ) (root : Digest). OpensAt n m root) (sym (header_width k grid header made)) (sym root)
    (message_opens k grid cell axis (record { width = own.whole.width; count = extends.size })
    (extension_shares k square.shares grid own.whole.width extends) within ordered)

-- so is a sample that is that of each extension
pub made_proved : (header : Roots) (square : SquareShares) (cell : Cell) (axis : Axis) (m : Message) → IsHeaderOf header square → IsTrue (is_in_square square.k cell)
    → ((grid : List Share) → Extends square.k square.shares grid → m ≡ message_at square.k grid cell axis) → IsProved header m
made_proved header square cell axis m own within is =
    subst (IsProved header) (sym (is own.grid own.extends)) (own_proved header square own.grid cell axis own own.extends within)

-- the share of a cell and the nodes from the tree over its axis make its sample
pub message_made : (k n i pos : ℕ) (grid : List Share) (cell : Cell) (axis : Axis) (share : Share) (path : List Digest) (kept : Option (List Digest))
    → n ≡ 2 * k → i ≡ index axis cell → pos ≡ position axis cell → share ≡ share_at (2 * k) grid cell → kept ≡ Some (axis_leaves k grid axis i)
    → ((made : List Digest) → kept ≡ Some made → path ≡ leaf_nodes n made pos)
    → record { cell = cell; axis = axis; share = share; path = path } ≡ message_at k grid cell axis
message_made k n i pos grid cell axis share path kept count of_axis on_axis at leaves nodes =
    let made : path ≡ leaf_nodes (2 * k) (axis_leaves k grid axis (index axis cell)) (position axis cell) =
    nodes (axis_leaves k grid axis i) leaves
    ∙ (λ j. leaf_nodes (count j) (axis_leaves k grid axis (of_axis j)) (on_axis j)) in
    λ j. record { cell = cell; axis = axis; share = at j; path = made j }
