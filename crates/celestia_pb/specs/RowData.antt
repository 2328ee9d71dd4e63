-- What is found in a row as Celestia's message RowNamespaceData: the shares in fields 1, their proof, or that of the namespace's
-- absence, in field 2. The row isn't in it: it is that of the request.
use Rattle.std.specs.Prelude.{ℕ, ◌==◌, ◌&&◌, nat_lt, nat_le, Bool, true, List, [], ◌∷◌, ◌++◌, length, Option, Some, None, Result, Ok, Err, if◌then◌else◌}
use Rattle.namespace_id.specs.declared.digests.Digest.{Digest}
use Rattle.namespace_id.specs.declared.shares.Share.{Share}
use Rattle.namespace_id.specs.Sizes.{greatest_width}
use Rattle.proto_fields.specs.Spelled.{bytes_field}
use Rattle.axis_roots.specs.declared.answers.Found.{Found}
use Rattle.axis_roots.specs.declared.answers.Found.TheVariants.{Range, Absence}
use Rattle.axis_roots.specs.declared.answers.NsEntry.{NsEntry}
use Rattle.celestia_pb.specs.Reading.{then_read, with_offset}
use Rattle.celestia_pb.specs.Messages.{optional_message}
use Rattle.celestia_pb.specs.RowShares.{shares_text, shares_at}
use Rattle.celestia_pb.specs.RowProofs.{RowProofParts, row_proof_text, row_proof_left}

-- whether what is found has a message: an absence does, and a range of at least one share and at most as many as a row of the
-- widest square has
abbrev pub found_has_message : Found → Bool
found_has_message (Range start shares nodes) = nat_lt 0 (length shares) && nat_le (length shares) greatest_width
found_has_message (Absence pos leaf nodes) = true

-- ---- written

-- the message of shares, and of their proof with these nodes and leaf hashes
abbrev pub row_text : List Share → ℕ → List Digest → List Digest → List ℕ
row_text shares start nodes hashes = shares_text shares ++ bytes_field 2 (row_proof_text start (length shares) nodes hashes)

-- the message of what is found in a row
abbrev pub found_message : Found → List ℕ
found_message (Range start shares nodes) = row_text shares start nodes []
found_message (Absence pos leaf nodes) = row_text [] pos nodes (leaf ∷ [])

-- ---- read

-- shares and what their proof has: with a leaf hash it is an absence
abbrev pub found_by : List Share → ℕ → List Digest → List Digest → Found
found_by shares start nodes [] = Range start shares nodes
found_by shares start nodes (leaf ∷ hashes) = Absence start leaf nodes

-- the entry of a row, where the proof is there and nothing follows
abbrev pub row_end : ℕ → List Share → Option RowProofParts → List ℕ → Result NsEntry ℕ
row_end row shares None rest = Err (length rest)
row_end row shares (Some proof) rest =
    if length rest == 0 then Ok (record { row = row; found = found_by shares proof.0 proof.1.0 proof.1.1 }) else Err (length rest)

-- where the shares were read
abbrev pub row_proof : ℕ → List Share → List ℕ → Result NsEntry ℕ
row_proof row shares bytes = then_read (row_end row shares) (optional_message (λ rest part. row_proof_left (length shares) part) 2 bytes)

-- the entry of a row that a message is, or how many bytes are left from the first field that is wrong on
abbrev pub row_left : ℕ → List ℕ → Result NsEntry ℕ
row_left row bytes = then_read (row_proof row) (shares_at greatest_width bytes)

-- the entry of a row that a message is, or the offset of the first field that is wrong
abbrev pub row_value : ℕ → List ℕ → Result NsEntry ℕ
row_value row bytes = with_offset (length bytes) (row_left row bytes)
