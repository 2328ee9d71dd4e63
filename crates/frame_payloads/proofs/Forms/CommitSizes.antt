-- How long the payloads of a commitment proof and of a root proof are, and which commitment proofs aren't too long.
use Rattle.std.proofs.Common.{◌≡◌, ◌∙◌, ℕ, ◌+◌, ◌*◌, ◌≤◌, false, ltb, List, [], ◌∷◌, ◌++◌, length, length-append, Some, refl, arith, ltb-false, le-ltb}
use Rattle.std.specs.Int.{w16, to_be_bytes}
use Rattle.std.specs.List.{AllByRecursion, list_any}
use Rattle.std.proofs.lemmas.Bool.{or_parts, or_from}
use Rattle.namespace_id.specs.Sizes.{hash_size, digest_size, most_nodes}
use Rattle.data_header.specs.Paths.{most_hashes}
use Rattle.blob_commit.specs.Proofs.{RowParts, CommitParts, RootedParts, IsRow, IsRooted}
use Rattle.frame_payloads.specs.Payloads.{max_payload, IsSize}
use Rattle.frame_payloads.specs.codec.Texts.{path_bytes, list_bytes, digest_list}
use Rattle.frame_payloads.specs.kinds.Message.{message_payload}
use Rattle.frame_payloads.specs.kinds.Commit.{most_rows, most_row_subtrees, IsRowSent, IsCommitSent, is_long_row, is_long_commit, hash_bytes, row_bytes, commit_payload}
use Rattle.frame_payloads.specs.kinds.Rooted.{rooted_payload}
use Rattle.frame_payloads.proofs.Fields.Digests.{length-digest_bytes}
use Rattle.frame_payloads.proofs.Fields.Hashes.{length-hash_bytes}
use Rattle.frame_payloads.proofs.Fields.Lengths.{written_within, texts_few}
use Rattle.frame_payloads.proofs.Fields.Short.{all_short}
use Rattle.frame_payloads.proofs.Forms.Rows.{IsShortRow}
use Rattle.frame_payloads.proofs.Forms.PayloadSizes.{length-message}

-- ---- commitment proofs

-- a row has 94 bytes, 32 for each hash, and 90 for each subtree and each node
pub length-row : (row : RowParts) → IsRow row → length (row_bytes row) ≡ 94 + 32 * length row.up + 90 * length row.subtrees + 90 * length row.nodes
length-row row is =
    let led : List ℕ = row.root.0 ++ hash_bytes row.up in
    let sum : length (row_bytes row) ≡ length (led ++ digest_list row.subtrees) + length (path_bytes row.nodes) = length-append (led ++ digest_list row.subtrees) (path_bytes row.nodes) in
    let sum_led : length (led ++ digest_list row.subtrees) ≡ length led + length (digest_list row.subtrees) = length-append led (digest_list row.subtrees) in
    omega (arith, sum, sum_led, length-append row.root.0 (hash_bytes row.up), is.root.size_is, length-hash_bytes row.up is.up, length-digest_bytes row.subtrees is.subtrees, length-digest_bytes row.nodes is.nodes)

-- the most bytes of a row
abbrev most_row : ℕ
most_row = 94 + hash_size * most_hashes + digest_size * most_row_subtrees + digest_size * most_nodes

-- one that can be written has no more
row_few : (row : RowParts) → IsShortRow row → length (row_bytes row) ≤ most_row
row_few row is =
    let few : length row.subtrees ≤ most_row_subtrees = ltb-false most_row_subtrees (length row.subtrees) is.1 in
    omega (arith, few, is.0.few_hashes, is.0.few_nodes, length-row row is.0.is)

-- a commitment proof that isn't too long has a payload within its limit
pub commit_few : (proof : CommitParts) → IsCommitSent proof → is_long_commit proof ≡ false → length (commit_payload proof) ≤ max_payload
commit_few proof is short =
    let parts = or_parts (ltb most_rows (length proof.rows)) (list_any is_long_row proof.rows) short in
    let few : length proof.rows ≤ most_rows = ltb-false most_rows (length proof.rows) parts.0 in
    omega (
      arith,
      few,
      is.commitment.size_is,
      texts_few row_bytes IsShortRow most_row row_few proof.rows (all_short IsRowSent is_long_row proof.rows is.rows parts.1),
      length-append proof.commitment (list_bytes w16 row_bytes proof.rows),
    )

-- rows of few subtrees aren't too long
rows_short : (rows : List RowParts) → AllByRecursion (λ row. length row.subtrees ≤ most_row_subtrees) rows → list_any is_long_row rows ≡ false
rows_short [] all = refl
rows_short (row ∷ rows) all = or_from (is_long_row row) (list_any is_long_row rows) (le-ltb _ _ all.0) (rows_short rows all.1)

-- nor is a commitment proof that has few such rows
pub commit_short : (proof : CommitParts) → length proof.rows ≤ most_rows → AllByRecursion (λ row. length row.subtrees ≤ most_row_subtrees) proof.rows → is_long_commit proof ≡ false
commit_short proof few all = or_from (ltb most_rows (length proof.rows)) (list_any is_long_row proof.rows) (le-ltb _ _ few) (rows_short proof.rows all)

-- ---- root proofs

-- the payload of a root proof has 611 bytes, 90 for each node of its sample, and 32 for each hash
length-rooted : (proof : RootedParts) → IsRooted proof → 611 + 90 * length proof.message.path + 32 * length proof.up ≡ length (rooted_payload proof)
length-rooted proof is =
    let front : List ℕ = to_be_bytes w16 proof.k ++ message_payload proof.message in
    let sum : length (rooted_payload proof) ≡ length (front ++ proof.root.0) + length (hash_bytes proof.up) = length-append (front ++ proof.root.0) (hash_bytes proof.up) in
    let sum_front : length (front ++ proof.root.0) ≡ length front + length proof.root.0 = length-append front proof.root.0 in
    let number : length front ≡ 2 + length (message_payload proof.message) = length-append (to_be_bytes w16 proof.k) (message_payload proof.message) in
    omega (arith, sum, sum_front, number, is.root.size_is, length-message proof.message is.message.share is.message.nodes, length-hash_bytes proof.up is.up)

-- a root proof has a spelling, and this is its payload's length
pub rooted_sized : (proof : RootedParts) (n : ℕ) → IsRooted proof → length proof.up ≤ most_hashes → n ≡ 611 + 90 * length proof.message.path + 32 * length proof.up → IsSize false (rooted_payload proof) (Some n)
rooted_sized proof n is few e =
    let size : n ≡ length (rooted_payload proof) = e ∙ length-rooted proof is in
    (size, written_within false n (rooted_payload proof) refl size (omega (arith, e, few, is.message.few)))
