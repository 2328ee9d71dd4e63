-- What the reader of a message RowNamespaceData gathers before it takes memory: how many shares lie at the front, and their proof.
use Rattle.std.specs.Prelude.{ℕ, List, [], ◌∷◌, Option, Some, None}
use Rattle.namespace_id.specs.declared.digests.Digest.{Digest}
use Rattle.axis_roots.specs.declared.answers.NsEntry.{NsEntry}
use Rattle.celestia_pb.specs.declared.row_data.RowParts.{RowParts}
use Rattle.celestia_pb.specs.RowShares.{tagged_shares}
use Rattle.celestia_pb.specs.RowProofs.{RowProofParts}
use Rattle.celestia_pb.specs.declared.row_proof.RowProof.{RowProof}
use Rattle.celestia_pb.specs.RowData.{found_by}

-- a leaf hash, if there is one
abbrev pub hashes_of : Option Digest → List Digest
hashes_of None = []
hashes_of (Some hash) = hash ∷ []

-- what a proof has
abbrev pub proof_parts : RowProof → RowProofParts
proof_parts proof = (proof.start, (proof.nodes, hashes_of proof.hash))

-- the entry of a row
abbrev pub entry_by : ℕ → RowParts → List ℕ → NsEntry
entry_by row parts bytes =
    record { row = row; found = found_by (tagged_shares parts.count bytes) parts.proof.start parts.proof.nodes (hashes_of parts.proof.hash) }
