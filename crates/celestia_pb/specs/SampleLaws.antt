-- A sample of a cell has one message, and the message says the same to every reader of protobuf.
use Rattle.std.specs.Prelude.{◌≡◌, ℕ, ◌+◌, ◌<◌, ◌^◌, List, [], ◌∷◌, Some, Ok}
use Rattle.namespace_id.specs.declared.cells.Cell.{Cell}
use Rattle.namespace_id.specs.declared.digests.Digest.{Digest}
use Rattle.namespace_id.specs.declared.shares.Share.{Share}
use Rattle.namespace_id.specs.Bytes.{AreBytes}
use Rattle.namespace_id.specs.Digests.{AreDigests}
use Rattle.namespace_id.specs.Shares.{IsShare}
use Rattle.proto_fields.specs.Fields.{FieldParts, fields_of, all_bytes, last_number}
use Rattle.celestia_pb.specs.declared.sample.Sample.{Sample}
use Rattle.celestia_pb.specs.Laws.{bytes_of_all}
use Rattle.celestia_pb.specs.Inclusions.{inclusion_text}
use Rattle.celestia_pb.specs.Samples.{IsSample, share_message, axis_number, place_on, sample_text, sample_value}
use Rattle.namespace_id.specs.Cells.{IsCell}

-- the message of a sample is read as the sample
abbrev pub SampleIsRead : Type 0
SampleIsRead = (cell : Cell) (sample : Sample) → IsCell cell → IsSample sample → sample_value cell (sample_text cell sample) ≡ Ok sample

-- what is read as a sample is one, and the bytes are its message
abbrev pub ReadIsSample : Type 0
ReadIsSample = (cell : Cell) (bytes : List ℕ) (sample : Sample) → AreBytes bytes → sample_value cell bytes ≡ Ok sample
    → IsSample sample × (bytes ≡ sample_text cell sample)

-- lenient reading has one share and one proof, and the number of the axis
abbrev pub SampleIsCommon : Type 0
SampleIsCommon = (cell : Cell) (bytes : List ℕ) (sample : Sample) → AreBytes bytes → sample_value cell bytes ≡ Ok sample
    → (fields : List FieldParts) × (fields_of bytes ≡ Some fields)
    × (all_bytes 1 fields ≡ share_message sample.share ∷ [])
    × (all_bytes 2 fields ≡ inclusion_text (place_on sample.axis cell) 1 sample.path ∷ [])
    × (last_number 3 fields ≡ axis_number sample.axis)

-- of the message of a share it has the bytes of the share
abbrev pub ShareIsCommon : Type 0
ShareIsCommon = (share : Share) → IsShare share
    → (fields : List FieldParts) × (fields_of (share_message share) ≡ Some fields) × (all_bytes 1 fields ≡ share.0 ∷ [])

-- of that of a proof both places, the nodes, no leaf hash, and the flag
abbrev pub ProofIsCommon : Type 0
ProofIsCommon = (start count : ℕ) (nodes : List Digest) → start + count < 2 ^ 64 → AreDigests nodes
    → (fields : List FieldParts) × (fields_of (inclusion_text start count nodes) ≡ Some fields)
    × (last_number 1 fields ≡ start) × (last_number 2 fields ≡ start + count)
    × (all_bytes 3 fields ≡ bytes_of_all nodes) × (all_bytes 4 fields ≡ []) × (last_number 5 fields ≡ 1)
