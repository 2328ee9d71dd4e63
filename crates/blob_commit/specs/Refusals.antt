-- Why commitment proofs and root proofs are refused (docs/RULES.md, "Commitment proofs").
use Rattle.std.specs.Prelude.{◌≡◌, ◌++◌, false, ℕ, suc, ◌+◌, ◌-◌, ◌*◌, ◌/◌, ◌==◌, ◌&&◌, nat_lt, List, [], ◌∷◌, length, Bool, Option, Some, None, if◌then◌else◌}
use Rattle.std.specs.Option.{option_map_or}
use Rattle.std.specs.Str.{bytes_eq}
use Rattle.namespace_id.specs.declared.cells.Axis.{Axis}
use Rattle.namespace_id.specs.declared.cells.Axis.TheVariants.{Row}
use Rattle.namespace_id.specs.declared.digests.Digest.{Digest}
use Rattle.namespace_id.specs.Cells.{is_width, is_in_square}
use Rattle.nmt_tree.specs.Roots.{halvings}
use Rattle.nmt_proofs.specs.declared.opening.OpenRefusal.{OpenRefusal}
use Rattle.nmt_proofs.specs.Causes.{set_refusal}
use Rattle.data_header.specs.DataRoots.{root_halvings, root_place, leaf_hash, led}
use Rattle.axis_roots.specs.Messages.{shown_by, index}
use Rattle.blob_commit.specs.Commitments.{root_of_digests}
use Rattle.blob_commit.specs.Cuts.{levels_of}
use Rattle.blob_commit.specs.Proofs.{RowParts, CommitParts, RootedParts, part_of_row, shown_in, subtrees_of, has_commit_shape, RowsLead, RowsOpen, rest_behind}
use Rattle.blob_commit.specs.declared.proving.CommitRefusal.{CommitRefusal}
use Rattle.blob_commit.specs.declared.proving.CommitRefusal.TheVariants.{Shape, Root, Nodes, Commitment}
use Rattle.blob_commit.specs.declared.rooting.RootedRefusal.{RootedRefusal}
use Rattle.blob_commit.specs.declared.rooting.RootedRefusal.TheVariants as V

-- whether hashes lead from an axis root to a data root
abbrev pub is_led : List ℕ → ℕ → Axis → ℕ → Digest → List (List ℕ) → Bool
is_led root k axis index digest hashes =
    is_width k && nat_lt index (2 * k) && (length hashes == root_halvings k)
    && bytes_eq (led (root_place k axis index) (leaf_hash digest) hashes) root

-- the number of the first row whose hashes don't lead to the data root
unfoldable pub first_unled : List ℕ → ℕ → ℕ → ℕ → List RowParts → Option ℕ
first_unled root k index number [] = None
first_unled root k index number (row ∷ rows) =
    if is_led root k Row index row.root row.up then first_unled root k (suc index) (suc number) rows else Some number

-- why the subtrees of a row don't open
abbrev pub row_refusal : ℕ → ℕ → ℕ → ℕ → RowParts → Option OpenRefusal
row_refusal k levels at left row =
    set_refusal (halvings (2 * k)) (shown_in k levels at left row) row.nodes row.root

-- the number of the first row whose subtrees don't open, and why
unfoldable pub first_unopened : ℕ → ℕ → ℕ → ℕ → ℕ → List RowParts → Option (ℕ × OpenRefusal)
first_unopened k levels at left number [] = None
first_unopened k levels at left number (row ∷ rows) =
    option_map_or (λ why. Some (number, why)) (row_refusal k levels at left row)
    (first_unopened k levels (at + part_of_row k at left) (left - part_of_row k at left) (suc number) rows)

-- that of a commitment proof
abbrev pub unled_row : List ℕ → CommitParts → Option ℕ
unled_row root proof = first_unled root proof.k (proof.start / proof.k) 0 proof.rows

-- that of a commitment proof
abbrev pub unopened_row : CommitParts → Option (ℕ × OpenRefusal)
unopened_row proof = first_unopened proof.k (levels_of proof.count) proof.start proof.count 0 proof.rows

-- whether its commitment is the plain Merkle root over all its subtrees
abbrev pub has_commitment : CommitParts → Bool
has_commitment proof = bytes_eq (root_of_digests (subtrees_of proof.rows)) proof.commitment

-- the refusal of a commitment proof: for the first of the four checks that fails, none where all hold
abbrev pub commit_refusal : List ℕ → CommitParts → Option CommitRefusal
commit_refusal root proof =
    if has_commit_shape proof then
    option_map_or (λ i. Some (Root i)) (unled_row root proof)
    (option_map_or (λ w. Some (Nodes w.0 w.1)) (unopened_row proof)
    (if has_commitment proof then None else Some Commitment))
    else Some Shape

-- whether a root proof has a width and a cell in its square
abbrev pub has_rooted_shape : RootedParts → Bool
has_rooted_shape proof = is_width proof.k && is_in_square proof.k proof.message.cell

-- whether the hashes of a root proof lead from the root of its axis to the data root
abbrev pub is_rooted_led : List ℕ → RootedParts → Bool
is_rooted_led root proof =
    is_led root proof.k proof.message.axis (index proof.message.axis proof.message.cell) proof.root proof.up

-- why the sample of a root proof doesn't open
abbrev pub sample_refusal : RootedParts → Option OpenRefusal
sample_refusal proof =
    set_refusal (halvings (2 * proof.k)) (shown_by proof.k proof.message) proof.message.path proof.root

-- the refusal of a root proof
abbrev pub rooted_refusal : List ℕ → RootedParts → Option RootedRefusal
rooted_refusal root proof =
    if has_rooted_shape proof then
    (if is_rooted_led root proof then option_map_or (λ why. Some (V.Path why)) (sample_refusal proof) None
    else Some V.Root)
    else Some V.Shape

-- the first of some rows whose hashes don't lead to the data root, counted from 0: those of all before it do
pub record IsFirstUnled (root : List ℕ) (k index : ℕ) (rows : List RowParts) (i : ℕ) : Type 0 where
  pub before : List RowParts
  pub row : RowParts
  pub after : List RowParts
  pub parts : rows ≡ before ++ row ∷ after
  pub number : i ≡ length before
  pub lead : RowsLead root k index before
  pub unled : is_led root k Row (index + length before) row.root row.up ≡ false

-- the first of some rows whose subtrees don't open, counted from 0, and why: those of all before it do
pub record IsFirstUnopened (k levels start count : ℕ) (rows : List RowParts) (i : ℕ) (why : OpenRefusal) : Type 0 where
  pub before : List RowParts
  pub row : RowParts
  pub after : List RowParts
  pub parts : rows ≡ before ++ row ∷ after
  pub number : i ≡ length before
  pub opens : RowsOpen k levels start count before
  pub refused : row_refusal k levels (rest_behind k start count before).0 (rest_behind k start count before).1 row ≡ Some why
