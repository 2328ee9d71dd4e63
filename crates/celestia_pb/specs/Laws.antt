-- A value has one message, and the message says the same to every reader of protobuf.
use Rattle.std.specs.Prelude.{◌≡◌, ℕ, List, map, Some, Ok}
use Rattle.namespace_id.specs.declared.digests.Digest.{Digest}
use Rattle.namespace_id.specs.Bytes.{AreBytes}
use Rattle.data_header.specs.Headers.{Roots, IsHeader}
use Rattle.proto_fields.specs.Fields.{FieldParts, fields_of, all_bytes}
use Rattle.celestia_pb.specs.Headers.{dah_text, dah_value}

-- the bytes of digests
abbrev pub bytes_of_all : List Digest → List (List ℕ)
bytes_of_all digests = map (λ (digest : Digest). digest.0) digests

-- the message of a header is read as the header
abbrev pub DahIsRead : Type 0
DahIsRead = (header : Roots) → IsHeader header → dah_value (dah_text header) ≡ Ok header

-- what is read as a header is one, and the bytes are its message
abbrev pub ReadIsDah : Type 0
ReadIsDah = (bytes : List ℕ) (header : Roots) → AreBytes bytes → dah_value bytes ≡ Ok header
    → IsHeader header × (bytes ≡ dah_text header)

-- lenient reading has its row roots in fields 1, its column roots in fields 2, and no other of these
abbrev pub DahIsCommon : Type 0
DahIsCommon = (bytes : List ℕ) (header : Roots) → AreBytes bytes → dah_value bytes ≡ Ok header
    → (fields : List FieldParts) × (fields_of bytes ≡ Some fields)
    × (all_bytes 1 fields ≡ bytes_of_all header.rows) × (all_bytes 2 fields ≡ bytes_of_all header.cols)
