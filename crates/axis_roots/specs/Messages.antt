-- Samples, and when one is proved under a header (docs/RULES.md, "Proved samples").
use Rattle.std.specs.Prelude.{◌<◌, ◌≤◌, ◌^◌, ◌*◌, ℕ, List, length, Bool, Option, Some, None, if◌then◌else◌}
use Rattle.namespace_id.specs.declared.cells.Cell.{Cell}
use Rattle.namespace_id.specs.declared.cells.Axis.{Axis}
use Rattle.namespace_id.specs.declared.cells.Axis.TheVariants.{Row, Col}
use Rattle.namespace_id.specs.declared.digests.Digest.{Digest}
use Rattle.namespace_id.specs.declared.shares.Share.{Share}
use Rattle.namespace_id.specs.Shares.{IsShare}
use Rattle.namespace_id.specs.Digests.{AreDigests}
use Rattle.namespace_id.specs.Sizes.{most_depth}
use Rattle.namespace_id.specs.Cells.{is_in_square, leaf_namespace}
use Rattle.nmt_tree.specs.Digests.{leaf_digest}
use Rattle.nmt_tree.specs.Roots.{halvings}
use Rattle.nmt_proofs.specs.Openings.{Shown, one_leaf, has_count, has_order, has_root}
use Rattle.data_header.specs.Headers.{Roots, root_of}
use Rattle.axis_roots.specs.declared.message.messages.Message.{Message}
use Rattle.axis_roots.specs.declared.message.messages.CheckRefusal.{CheckRefusal}
use Rattle.axis_roots.specs.declared.message.messages.CheckRefusal.TheVariants.{OutOfSquare, NodeCount, Unordered, OtherRoot}

-- every sample has numbers of two bytes, a share, and up to `most_depth` digests
pub record IsMessage (m : Message) : Type 0 where
  pub row : m.cell.row < 2 ^ 16
  pub col : m.cell.col < 2 ^ 16
  pub share : IsShare m.share
  pub few : length m.path ≤ most_depth
  pub nodes : AreDigests m.path

-- the place of a cell on its row or its column
abbrev pub position : Axis → Cell → ℕ
position Row cell = cell.col
position Col cell = cell.row

-- which row or column runs through a cell
abbrev pub index : Axis → Cell → ℕ
index Row cell = cell.row
index Col cell = cell.col

-- what a sample shows of an axis of a square of width k: its share at its place, under the leaf
-- namespace of its cell
abbrev pub shown_by : ℕ → Message → List Shown
shown_by k m = one_leaf (position m.axis m.cell) (leaf_namespace k m.cell m.share) m.share

-- the digest of the leaf that a share makes at a cell of a square of width k
abbrev pub shown_leaf : ℕ → Cell → Share → Digest
shown_leaf k cell share = leaf_digest (leaf_namespace k cell share) share

-- the header's root of the sample's axis through its cell
abbrev pub root_for : Roots → Message → Digest
root_for header m = root_of header m.axis (index m.axis m.cell)

-- ---- the four checks, in their order

-- whether the cell of a sample is in the square
abbrev pub is_inside : Roots → Message → Bool
is_inside header m = is_in_square header.k m.cell

-- whether a sample has as many nodes as a row or a column of 2k leaves has halvings
abbrev pub has_node_count : Roots → Message → Bool
has_node_count header m = has_count (halvings (2 * header.k)) (shown_by header.k m) m.path

-- whether every join of the tree that a sample opens is ordered
abbrev pub has_ordered_joins : Roots → Message → Bool
has_ordered_joins header m = has_order (halvings (2 * header.k)) (shown_by header.k m) m.path

-- whether a sample opens the header's root of its axis
abbrev pub is_under_root : Roots → Message → Bool
is_under_root header m = has_root (halvings (2 * header.k)) (shown_by header.k m) m.path (root_for header m)

-- the refusal of a sample: for the first of the four checks that fails, none where all hold
abbrev pub message_refusal : Roots → Message → Option CheckRefusal
message_refusal header m =
    if is_inside header m
    then (if has_node_count header m
    then (if has_ordered_joins header m
    then (if is_under_root header m then None else Some OtherRoot)
    else Some Unordered)
    else Some NodeCount)
    else Some OutOfSquare
