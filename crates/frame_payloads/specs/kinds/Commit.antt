-- The payload of a commitment proof (docs/FORMATS.md, "Payloads").
use Rattle.std.specs.Prelude.{◌≤◌, ◌<◌, ◌^◌, ℕ, List, ◌∷◌, length, nat_lt, Option, Some, None, if◌then◌else◌, ◌==◌, ◌||◌, Bool, ◌++◌}
use Rattle.std.specs.Int.{w16, w32, to_be_bytes}
use Rattle.std.specs.List.{AllByRecursion, flat_map, list_any}
use Rattle.namespace_id.specs.Sizes.{hash_size, digest_size, greatest_width, most_nodes}
use Rattle.namespace_id.specs.Bytes.{IsString}
use Rattle.data_header.specs.Paths.{most_hashes}
use Rattle.blob_commit.specs.Proofs.{RowParts, CommitParts, IsRow}
use Rattle.frame_fields.specs.Fields.{◌>>=◌, string_at, big_endian_at, digest, digest_list_at, path_at, hashes_at, list_at}
use Rattle.frame_payloads.specs.codec.Texts.{path_bytes, list_bytes, digest_list}

-- the most rows of a commitment proof, as many as the greatest square has
abbrev pub most_rows : ℕ
most_rows = greatest_width

-- the most subtrees in a row, as many as it has original shares in the greatest square
abbrev pub most_row_subtrees : ℕ
most_row_subtrees = greatest_width

-- ---- the values that there are

-- a row has digests and hashes of their lengths, and no more hashes and nodes than its type holds
pub record IsRowSent (row : RowParts) : Type 0 where
  pub is : IsRow row
  pub few_hashes : length row.up ≤ most_hashes
  pub few_nodes : length row.nodes ≤ most_nodes

-- a commitment proof has numbers of their widths, a hash, and such rows
pub record IsCommitSent (proof : CommitParts) : Type 0 where
  pub k : proof.k < 2 ^ 16
  pub start : proof.start < 2 ^ 32
  pub count : proof.count < 2 ^ 32
  pub commitment : IsString hash_size proof.commitment
  pub rows : AllByRecursion IsRowSent proof.rows

-- ---- what is written

-- hashes behind their count in a byte
abbrev pub hash_bytes : List (List ℕ) → List ℕ
hash_bytes hashes = length hashes ∷ flat_map (λ h. h) hashes

-- a row: its root, the hashes that lead from it to the data root, its subtrees, and the nodes that open these
abbrev pub row_bytes : RowParts → List ℕ
row_bytes row = row.root.0 ++ hash_bytes row.up ++ digest_list row.subtrees ++ path_bytes row.nodes

-- the width, the index of the first share and the number of shares, the commitment, and the rows behind their count
abbrev pub commit_payload : CommitParts → List ℕ
commit_payload proof =
    to_be_bytes w16 proof.k ++ to_be_bytes w32 proof.start ++ to_be_bytes w32 proof.count ++ proof.commitment
    ++ list_bytes w16 row_bytes proof.rows

-- ---- what can be written

-- whether a row has more subtrees than can be written
abbrev pub is_long_row : RowParts → Bool
is_long_row row = nat_lt most_row_subtrees (length row.subtrees)

-- whether a commitment proof has more rows than can be written, or more subtrees in one of them
abbrev pub is_long_commit : CommitParts → Bool
is_long_commit proof = nat_lt most_rows (length proof.rows) || list_any is_long_row proof.rows

-- ---- what is read

-- a row
unfoldable pub row_at : List ℕ → Option (RowParts × List ℕ)
row_at bytes = do
  root ← string_at digest_size bytes
  up ← hashes_at root.1
  subtrees ← digest_list_at most_row_subtrees up.1
  nodes ← path_at most_nodes subtrees.1
  Some (record { root = digest root.0; up = up.0; subtrees = subtrees.0; nodes = nodes.0 }, nodes.1)

-- rows behind their count
abbrev pub rows_at : List ℕ → Option (List RowParts × List ℕ)
rows_at bytes = list_at w16 most_rows row_at bytes

-- a commitment proof that is all of the bytes
unfoldable pub commit_at : List ℕ → Option CommitParts
commit_at bytes = do
  k ← big_endian_at w16 bytes
  start ← big_endian_at w32 k.1
  count ← big_endian_at w32 start.1
  commitment ← string_at hash_size count.1
  rows ← rows_at commitment.1
  if length rows.1 == 0
      then Some (record { k = k.0; start = start.0; count = count.0; commitment = commitment.0; rows = rows.0 })
      else None
