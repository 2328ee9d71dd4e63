-- A claim has one message for each flag, and the message says the same to every reader of protobuf.
use Rattle.std.specs.Prelude.{◌≡◌, ℕ, ◌+◌, ◌*◌, ◌<◌, ◌≤◌, ◌^◌, true, List, [], ◌∷◌, length, map, Some, Ok}
use Rattle.namespace_id.specs.declared.digests.Digest.{Digest}
use Rattle.namespace_id.specs.Bytes.{AreBytes}
use Rattle.namespace_id.specs.Digests.{AreDigests}
use Rattle.namespace_id.specs.Sizes.{hash_size}
use Rattle.proto_fields.specs.Fields.{FieldParts, fields_of, all_bytes, last_number}
use Rattle.axis_roots.specs.declared.message.messages.Message.{Message}
use Rattle.axis_roots.specs.Messages.{IsMessage, position}
use Rattle.axis_roots.specs.Claims.{ClaimParts, IsClaim}
use Rattle.celestia_pb.specs.Laws.{bytes_of_all}
use Rattle.celestia_pb.specs.Samples.{axis_number}
use Rattle.celestia_pb.specs.BefpEntries.{proof_text, befp_entry, befp_place, places_of}
use Rattle.celestia_pb.specs.Befp.{claim_has_message, befp_text, befp_value}

-- a claim is made of shares and digests, and has a message
pub record ClaimHasMessage (k : ℕ) (claim : ClaimParts) : Type 0 where
  pub is : IsClaim claim
  pub has : claim_has_message k claim ≡ true

-- the message of a claim is read as the claim, with the flag and without it
abbrev pub BefpIsRead : Type 0
BefpIsRead = (flag k : ℕ) (hash : List ℕ) (height : ℕ) (claim : ClaimParts) → flag ≤ 1 → length hash ≡ hash_size → height < 2 ^ 64 → ClaimHasMessage k claim
    → befp_value hash height (befp_text flag k hash height claim) ≡ Ok claim

-- bytes are the message of a claim, of this hash and this height
pub record IsBefp (hash : List ℕ) (height : ℕ) (bytes : List ℕ) (claim : ClaimParts) : Type 0 where
  pub flag : ℕ
  pub k : ℕ
  pub marked : flag ≤ 1
  pub has : ClaimHasMessage k claim
  pub text : bytes ≡ befp_text flag k hash height claim

-- what is read as a claim has a message, which the bytes are
abbrev pub ReadIsBefp : Type 0
ReadIsBefp = (hash : List ℕ) (height : ℕ) (bytes : List ℕ) (claim : ClaimParts) → AreBytes bytes → befp_value hash height bytes ≡ Ok claim
    → IsBefp hash height bytes claim

-- lenient reading has one hash, the height, the bytes of each place, the index of the axis and its number
abbrev pub BefpIsCommon : Type 0
BefpIsCommon = (hash : List ℕ) (height : ℕ) (bytes : List ℕ) (claim : ClaimParts) → AreBytes bytes → befp_value hash height bytes ≡ Ok claim
    → (is : IsBefp hash height bytes claim) × (fields : List FieldParts) × (fields_of bytes ≡ Some fields)
    × (all_bytes 1 fields ≡ hash ∷ []) × (last_number 2 fields ≡ height)
    × (all_bytes 3 fields ≡ map (befp_place is.flag) (places_of claim.axis (2 * is.k) 0 claim.cells))
    × (last_number 4 fields ≡ claim.index) × (last_number 5 fields ≡ axis_number claim.axis)

-- of a place with a share it has the share, one proof, and the number of the axis that this is along
abbrev pub EntryIsCommon : Type 0
EntryIsCommon = (flag : ℕ) (m : Message) → IsMessage m
    → (fields : List FieldParts) × (fields_of (befp_entry flag m) ≡ Some fields)
    × (all_bytes 1 fields ≡ m.share.0 ∷ []) × (all_bytes 2 fields ≡ proof_text flag (position m.axis m.cell) m.path ∷ [])
    × (last_number 3 fields ≡ axis_number m.axis)

-- of the message of a proof it has both places, the nodes, no leaf hash, and the flag
abbrev pub FlaggedIsCommon : Type 0
FlaggedIsCommon = (flag start : ℕ) (nodes : List Digest) → flag < 2 ^ 64 → start + 1 < 2 ^ 64 → AreDigests nodes
    → (fields : List FieldParts) × (fields_of (proof_text flag start nodes) ≡ Some fields)
    × (last_number 1 fields ≡ start) × (last_number 2 fields ≡ start + 1)
    × (all_bytes 3 fields ≡ bytes_of_all nodes) × (all_bytes 4 fields ≡ []) × (last_number 5 fields ≡ flag)
