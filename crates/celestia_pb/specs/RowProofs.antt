-- nmt's message Proof as the answer for a row has it: of shares from a place on, or, where no share is shown, of a namespace's
-- absence, by the hash of the leaf at a place. The first place stands in field 1, the one behind the last in field 2, the nodes
-- from left to right in fields 3, the leaf hash of an absence in field 4, and in field 5 that the parity namespace is passed over.
use Rattle.std.specs.Prelude.{ℕ, ◌+◌, ◌^◌, ◌==◌, ◌&&◌, nat_lt, Bool, List, ◌++◌, length, Result, Ok, Err, if◌then◌else◌}
use Rattle.namespace_id.specs.declared.digests.Digest.{Digest}
use Rattle.namespace_id.specs.Sizes.{most_nodes}
use Rattle.proto_fields.specs.Canonical.{number_text}
use Rattle.celestia_pb.specs.Reading.{then_read}
use Rattle.celestia_pb.specs.Messages.{number_left}
use Rattle.celestia_pb.specs.Digests.{digests_text, digests_at}
use Rattle.celestia_pb.specs.Inclusions.{is_stop, is_flag}

-- how many leaves a proof of so many shares is of: of none it is of the leaf whose hash is told
abbrev pub leaf_count : ℕ → ℕ
leaf_count count = if count == 0 then 1 else count

-- how many leaf hashes it has
abbrev pub hash_count : ℕ → ℕ
hash_count count = if count == 0 then 1 else 0

-- ---- written

-- the proof of so many shares, with these nodes and leaf hashes
abbrev pub row_proof_text : ℕ → ℕ → List Digest → List Digest → List ℕ
row_proof_text start count nodes hashes =
    number_text 1 start
    ++ (number_text 2 (start + leaf_count count) ++ (digests_text 3 nodes ++ (digests_text 4 hashes ++ number_text 5 1)))

-- ---- read

-- a first place has two bytes
abbrev pub is_short : ℕ → Bool
is_short start = nat_lt start (2 ^ 16)

-- whether nothing is left, and the place behind the last, the flag and as many leaf hashes as there have to be are there
abbrev pub has_all_parts : ℕ → ℕ → ℕ → ℕ → ℕ → ℕ → Bool
has_all_parts count start stop hashes flag left =
    (left == 0) && ((stop == start + leaf_count count) && ((hashes == hash_count count) && (flag == 1)))

-- a first place, nodes and leaf hashes
abbrev pub RowProofParts : Type 0
RowProofParts = ℕ × (List Digest × List Digest)

-- where the flag was read
abbrev pub row_proof_end : ℕ → ℕ → ℕ → List Digest → List Digest → ℕ → List ℕ → Result RowProofParts ℕ
row_proof_end count start stop nodes hashes flag rest =
    if has_all_parts count start stop (length hashes) flag (length rest) then Ok (start, (nodes, hashes)) else Err (length rest)

-- where the leaf hashes were read
abbrev pub row_proof_flag : ℕ → ℕ → ℕ → List Digest → List Digest → List ℕ → Result RowProofParts ℕ
row_proof_flag count start stop nodes hashes bytes = then_read (row_proof_end count start stop nodes hashes) (number_left is_flag 5 bytes)

-- where the nodes were read
abbrev pub row_proof_hashes : ℕ → ℕ → ℕ → List Digest → List ℕ → Result RowProofParts ℕ
row_proof_hashes count start stop nodes bytes = then_read (row_proof_flag count start stop nodes) (digests_at 4 (hash_count count) bytes)

-- where the place behind the last was read
abbrev pub row_proof_nodes : ℕ → ℕ → ℕ → List ℕ → Result RowProofParts ℕ
row_proof_nodes count start stop bytes = then_read (row_proof_hashes count start stop) (digests_at 3 most_nodes bytes)

-- where the first place was read
abbrev pub row_proof_stop : ℕ → ℕ → List ℕ → Result RowProofParts ℕ
row_proof_stop count start bytes = then_read (row_proof_nodes count start) (number_left (is_stop start (leaf_count count)) 2 bytes)

-- the first place, the nodes and the leaf hashes of the proof of so many shares that a message is, or how many bytes are left from
-- the first field that is wrong on
abbrev pub row_proof_left : ℕ → List ℕ → Result RowProofParts ℕ
row_proof_left count bytes = then_read (row_proof_stop count) (number_left is_short 1 bytes)
