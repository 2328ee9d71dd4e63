-- The strings that are hashed on the way to a data root, each at its place, and what a proof and a square say of one
-- another (docs/RULES.md, "Commitment proofs").
use Rattle.std.specs.Prelude.{◌≡◌, ◌⊎◌, ◌<◌, ℕ, suc, ◌+◌, ◌-◌, ◌*◌, ◌/◌, List, [], ◌∷◌, ◌++◌, take, drop, Bool, Option, Some, None, if◌then◌else◌}
use Rattle.namespace_id.specs.declared.cells.Axis.{Axis}
use Rattle.namespace_id.specs.declared.cells.Axis.TheVariants.{Row}
use Rattle.namespace_id.specs.declared.shares.Share.{Share}
use Rattle.namespace_id.specs.declared.digests.Digest.{Digest}
use Rattle.nmt_tree.specs.Roots.{halvings}
use Rattle.nmt_proofs.specs.Parts.{Part, given, leaf, join, digest_of}
use Rattle.nmt_proofs.specs.Openings.{opened}
use Rattle.nmt_proofs.specs.Clashes.{IsClash, leaf_text, join_text}
use Rattle.data_header.specs.Headers.{Roots}
use Rattle.data_header.specs.DataRoots.{root_halvings, root_place}
use Rattle.square_layout.specs.Blocks.{SquareShares}
use Rattle.axis_roots.specs.Messages.{index}
use Rattle.axis_roots.specs.Own.{opened_by}
use Rattle.axis_roots.specs.Grids.{Extends, IsHeaderOf, share_at, axis_tree}
use Rattle.blob_commit.specs.Cuts.{levels_of}
use Rattle.blob_commit.specs.Commitments.{commitment_over}
use Rattle.blob_commit.specs.DataTrees.{ending, climbed, full, plain_text_at, turns_to}
use Rattle.blob_commit.specs.Proofs.{RowParts, CommitParts, RootedParts, part_of_row, shown_in}

-- a place: turns in the data tree, and from the end of these, where a new tree begins, turns in the tree of an axis
pub record Place : Type 0 where
  pub up : List Bool
  pub inner : Option (List Bool)

-- the string of a namespaced Merkle tree at the end of left (false) and right (true) turns from its root
abbrev pub tree_string : List Bool → Part → Option (List ℕ)
tree_string [] (given digest) = None
tree_string [] (leaf name share) = Some (leaf_text name share)
tree_string [] (join left right) = Some (join_text (digest_of left) (digest_of right))
tree_string (turn ∷ turns) (given digest) = None
tree_string (turn ∷ turns) (leaf name share) = None
tree_string (turn ∷ turns) (join left right) = if turn then tree_string turns right else tree_string turns left

-- ---- the strings of a proof

-- the turns from a data root to an axis root
abbrev pub turns_for : ℕ → Axis → ℕ → List Bool
turns_for k axis index = turns_to (root_halvings k) (root_place k axis index)

-- an axis root with the hashes that lead from it to the data root, and the part of its tree that is opened, have this
-- string at this place
abbrev pub AxisText : ℕ → Axis → ℕ → Digest → List (List ℕ) → Part → Place → List ℕ → Type 0
AxisText k axis index root hashes part place text =
    ((place.inner ≡ None) × (plain_text_at place.up (climbed (root_place k axis index) (ending root) hashes) ≡ Some text))
    ⊎ ((turns : List Bool) × (place.inner ≡ Some turns) × (place.up ≡ turns_for k axis index)
    × (tree_string turns part ≡ Some text))

-- the tree that a row of a commitment proof opens
abbrev pub row_tree : ℕ → ℕ → ℕ → ℕ → RowParts → Part
row_tree k levels at left row = opened (halvings (2 * k)) 0 (shown_in k levels at left row) row.nodes

-- one of the rows has this string at this place
abbrev pub RowsText : ℕ → ℕ → ℕ → ℕ → ℕ → List RowParts → Place → List ℕ → Type 0
RowsText k levels index at left [] place text = ⊥
RowsText k levels index at left (row ∷ rows) place text =
    AxisText k Row index row.root row.up (row_tree k levels at left row) place text
    ⊎ RowsText k levels (suc index) (at + part_of_row k at left) (left - part_of_row k at left) rows place text

-- a commitment proof has this string at this place
abbrev pub CommitText : CommitParts → Place → List ℕ → Type 0
CommitText proof place text =
    RowsText proof.k (levels_of proof.count) (proof.start / proof.k) proof.start proof.count proof.rows place text

-- a root proof has this string at this place
abbrev pub RootedText : RootedParts → Place → List ℕ → Type 0
RootedText proof place text =
    AxisText proof.k proof.message.axis (index proof.message.axis proof.message.cell) proof.root proof.up
    (opened_by proof.k proof.message) place text

-- ---- the strings of a square

-- a square has this string at this place: in the data tree over the roots of its header, or in the tree over the leaves along
-- a row or a column of its extension
abbrev pub SquareText : SquareShares → Place → List ℕ → Type 0
SquareText square place text =
    ((header : Roots) × IsHeaderOf header square × (place.inner ≡ None)
    × (plain_text_at place.up (full (root_halvings header.k) (header.rows ++ header.cols)) ≡ Some text))
    ⊎ ((axis : Axis) × (i : ℕ) × (grid : List Share) × (turns : List Bool) × (i < 2 * square.k)
    × Extends square.k square.shares grid × (place.inner ≡ Some turns) × (place.up ≡ turns_for square.k axis i)
    × (tree_string turns (axis_tree square.k grid axis i) ≡ Some text))

-- what has strings at places and a square name a collision: at some place both have one, and these are a collision
abbrev pub PlacesNameClash : (Place → List ℕ → Type 0) → SquareShares → Type 0
PlacesNameClash HasText square =
    (place : Place) × (left : List ℕ) × (right : List ℕ) × HasText place left × SquareText square place right
    × IsClash left right

-- ---- what is proved of proofs under a square's data root

-- the width is the square's, and the commitment is that of the square's shares in the range
pub record CommitsOwn (proof : CommitParts) (square : SquareShares) : Type 0 where
  pub width : proof.k ≡ square.k
  pub commitment : proof.commitment ≡ commitment_over (take proof.count (drop proof.start square.shares))

-- the width is the square's, and the share is the one that its extension has at the cell
pub record RootedOwn (proof : RootedParts) (square : SquareShares) : Type 0 where
  pub width : proof.k ≡ square.k
  pub grid : List Share
  pub extends : Extends square.k square.shares grid
  pub share : proof.message.share ≡ share_at (2 * square.k) grid proof.message.cell

-- under the data root of a square's header a commitment proof is of the square's shares, or they name a collision
abbrev pub IsOwnCommit : Roots → CommitParts → Type 0
IsOwnCommit header proof =
    (square : SquareShares) → IsHeaderOf header square → CommitsOwn proof square ⊎ PlacesNameClash (CommitText proof) square

-- under the data root of a square's header a root proof is of the extension's share, or they name a collision
abbrev pub IsOwnRooted : Roots → RootedParts → Type 0
IsOwnRooted header proof =
    (square : SquareShares) → IsHeaderOf header square → RootedOwn proof square ⊎ PlacesNameClash (RootedText proof) square
