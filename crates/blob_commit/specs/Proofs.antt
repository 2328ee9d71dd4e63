-- Commitment proofs and root proofs, and when they hold under a data root (docs/RULES.md, "Commitment proofs").
use Rattle.std.specs.Prelude.{◌≡◌, ℕ, suc, ◌+◌, ◌-◌, ◌*◌, ◌/◌, ◌%◌, ◌==◌, ◌&&◌, min, nat_lt, nat_le, List, [], ◌∷◌, ◌++◌, length, Bool, true}
use Rattle.std.specs.List.{AllByRecursion}
use Rattle.namespace_id.specs.declared.cells.Axis.TheVariants.{Row}
use Rattle.namespace_id.specs.declared.digests.Digest.{Digest}
use Rattle.namespace_id.specs.Bytes.{IsString}
use Rattle.namespace_id.specs.Digests.{IsDigest, AreDigests}
use Rattle.namespace_id.specs.Cells.{is_width}
use Rattle.share_split.specs.Widths.{subtree_width_of}
use Rattle.nmt_tree.specs.Roots.{halvings}
use Rattle.nmt_proofs.specs.Openings.{Shown, intervals_from, Opens}
use Rattle.data_header.specs.DataRoots.{OpensRoot}
use Rattle.axis_roots.specs.declared.message.messages.Message.{Message}
use Rattle.axis_roots.specs.Messages.{IsMessage, index}
use Rattle.axis_roots.specs.Openings.{OpensAt}
use Rattle.blob_commit.specs.Cuts.{cut_by, levels_of}
use Rattle.blob_commit.specs.Commitments.{root_of_digests}

-- a row of a commitment proof as contracts see it: its root, the hashes that lead from that to the data root, the
-- digests of subtrees, and the nodes that open them
pub record RowParts : Type 0 where
  pub root : Digest
  pub up : List (List ℕ)
  pub subtrees : List Digest
  pub nodes : List Digest

-- a commitment proof as contracts see it: the width, the range of shares by the index of its first and their number, the
-- commitment, and the rows that the range touches
pub record CommitParts : Type 0 where
  pub k : ℕ
  pub start : ℕ
  pub count : ℕ
  pub commitment : List ℕ
  pub rows : List RowParts

-- a root proof as contracts see it: the width, a sample, and the root of its axis with the hashes that lead to the data root
pub record RootedParts : Type 0 where
  pub k : ℕ
  pub message : Message
  pub root : Digest
  pub up : List (List ℕ)

-- the digests and hashes of a row have their lengths
pub record IsRow (row : RowParts) : Type 0 where
  pub root : IsDigest row.root
  pub up : AllByRecursion (IsString 32) row.up
  pub subtrees : AreDigests row.subtrees
  pub nodes : AreDigests row.nodes

-- so have those of a proof
pub record IsCommit (proof : CommitParts) : Type 0 where
  pub commitment : IsString 32 proof.commitment
  pub rows : AllByRecursion IsRow proof.rows

-- and those of a root proof
pub record IsRooted (proof : RootedParts) : Type 0 where
  pub message : IsMessage proof.message
  pub root : IsDigest proof.root
  pub up : AllByRecursion (IsString 32) proof.up

-- ---- shapes

-- whether a range lies in a square of width k, isn't empty, and begins at a multiple of the width of its subtrees
abbrev pub is_range : ℕ → ℕ → ℕ → Bool
is_range k start count = nat_lt 0 count && nat_le (start + count) (k * k) && (start % subtree_width_of count == 0)

-- how many of `left` shares from the index `at` on lie in its row
abbrev pub part_of_row : ℕ → ℕ → ℕ → ℕ
part_of_row k at left = min left (k - at % k)

-- the index of the first share and the number of shares that are left behind rows
abbrev pub rest_behind : ℕ → ℕ → ℕ → List RowParts → ℕ × ℕ
rest_behind k at left [] = (at, left)
rest_behind k at left (row ∷ rows) = rest_behind k (at + part_of_row k at left) (left - part_of_row k at left) rows

-- the sizes of the subtrees in that row
abbrev pub row_sizes : ℕ → ℕ → ℕ → ℕ → List ℕ
row_sizes k levels at left = cut_by levels (part_of_row k at left)

-- whether rows are those that `left` shares from an index on touch, and each has a digest for each subtree in it
unfoldable pub fits_rows : ℕ → ℕ → ℕ → ℕ → List RowParts → Bool
fits_rows k levels at left [] = left == 0
fits_rows k levels at left (row ∷ rows) =
    nat_lt 0 left && (length row.subtrees == length (row_sizes k levels at left))
    && fits_rows k levels (at + part_of_row k at left) (left - part_of_row k at left) rows

-- whether a proof has its shape
abbrev pub has_commit_shape : CommitParts → Bool
has_commit_shape proof =
    is_width proof.k && is_range proof.k proof.start proof.count
    && fits_rows proof.k (levels_of proof.count) proof.start proof.count proof.rows

-- ---- when they hold

-- the hashes of each row lead from its root to the data root
abbrev pub RowsLead : List ℕ → ℕ → ℕ → List RowParts → Type 0
RowsLead root k index [] = Unit {0}
RowsLead root k index (row ∷ rows) = OpensRoot root k Row index row.root row.up × RowsLead root k (suc index) rows

-- what a row shows: the digests of the subtrees in it
abbrev pub shown_in : ℕ → ℕ → ℕ → ℕ → RowParts → List Shown
shown_in k levels at left row = intervals_from (at % k) (row_sizes k levels at left) row.subtrees

-- the nodes of each row open its subtrees under its root
abbrev pub RowsOpen : ℕ → ℕ → ℕ → ℕ → List RowParts → Type 0
RowsOpen k levels at left [] = Unit {0}
RowsOpen k levels at left (row ∷ rows) =
    Opens (halvings (2 * k)) (shown_in k levels at left row) row.nodes row.root
    × RowsOpen k levels (at + part_of_row k at left) (left - part_of_row k at left) rows

-- the digests of all subtrees, in order
unfoldable pub subtrees_of : List RowParts → List Digest
subtrees_of [] = []
subtrees_of (row ∷ rows) = row.subtrees ++ subtrees_of rows

-- a commitment proof holds under a data root: it has its shape, the root of each row leads to the data root, its subtrees
-- open under that, and the commitment is the plain Merkle root over all subtrees
pub record CommitHolds (root : List ℕ) (proof : CommitParts) : Type 0 where
  pub shape : has_commit_shape proof ≡ true
  pub lead : RowsLead root proof.k (proof.start / proof.k) proof.rows
  pub opens : RowsOpen proof.k (levels_of proof.count) proof.start proof.count proof.rows
  pub commitment : root_of_digests (subtrees_of proof.rows) ≡ proof.commitment

-- a root proof holds under a data root: its cell is in the square, the root of its axis leads to the data root, and the
-- sample opens under that
pub record RootedHolds (root : List ℕ) (proof : RootedParts) : Type 0 where
  pub lead : OpensRoot root proof.k proof.message.axis (index proof.message.axis proof.message.cell) proof.root proof.up
  pub opens : OpensAt proof.k proof.message proof.root
