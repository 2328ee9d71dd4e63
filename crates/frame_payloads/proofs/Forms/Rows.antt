-- A row of a commitment proof that is read is the one that was written, and one that was written is read.
use Rattle.std.proofs.Common.{◌≡◌, ◌++◌, false, ℕ, List, length-append, refl, arith, ltb-false, le-ltb}
use Rattle.blob_commit.specs.Proofs.{RowParts}
use Rattle.namespace_id.specs.Sizes.{most_nodes}
use Rattle.frame_payloads.specs.codec.Texts.{path_bytes, digest_list}
use Rattle.frame_payloads.specs.kinds.Commit.{most_row_subtrees, IsRowSent, is_long_row, hash_bytes, row_bytes, row_at}
use Rattle.frame_payloads.proofs.Fields.Fields.{AreMaps, ◌▸◌, made_field}
use Rattle.frame_payloads.proofs.Fields.Bases.{digest90, hashes, digests16, path}
use Rattle.frame_payloads.proofs.Fields.Texts.{IsField}

-- a row that can be written
abbrev pub IsShortRow : RowParts → Type 0
IsShortRow row = IsRowSent row × (is_long_row row ≡ false)

-- a row is a root, hashes, subtrees, and nodes
maps : AreMaps {R = RowParts × List ℕ} (digest90 ▸ hashes ▸ digests16 most_row_subtrees (omega arith) ▸ path most_nodes)
    (λ x. record { root = x.0.0.0; up = x.0.0.1; subtrees = x.0.1; nodes = x.1 }) (λ r. (((r.root, r.up), r.subtrees), r.nodes)) IsShortRow
maps = record {
  there = λ x is. (
    (
      record { is = record { root = is.0.0.0; up = is.0.0.1.1; subtrees = is.0.1.0; nodes = is.1.1 }; few_hashes = is.0.0.1.0; few_nodes = is.1.0 },
      le-ltb _ _ is.0.1.1,
    ),
    refl,
  );
  back = λ r is. ((((is.0.is.root, (is.0.few_hashes, is.0.is.up)), (is.0.is.subtrees, ltb-false _ _ is.1)), (is.0.few_nodes, is.0.is.nodes)), refl);
}

-- a row is a field
pub row_field : IsField row_at row_bytes IsShortRow
unfolding row_at
row_field = made_field maps row_at row_bytes (λ bytes. refl) (λ r. refl) (λ r. omega (arith, length-append (r.root.0 ++ hash_bytes r.up ++ digest_list r.subtrees) (path_bytes r.nodes)))
