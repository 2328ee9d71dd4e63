-- The payload of a root proof (docs/FORMATS.md, "Payloads").
use Rattle.std.specs.Prelude.{◌≤◌, ◌<◌, ◌^◌, ℕ, List, length, Option, Some, None, if◌then◌else◌, ◌==◌, ◌++◌}
use Rattle.std.specs.Int.{w16, to_be_bytes}
use Rattle.namespace_id.specs.Sizes.{digest_size}
use Rattle.data_header.specs.Paths.{most_hashes}
use Rattle.blob_commit.specs.Proofs.{RootedParts, IsRooted}
use Rattle.frame_fields.specs.Fields.{◌>>=◌, string_at, big_endian_at, digest, hashes_at}
use Rattle.frame_fields.specs.Messages.{message_front}
use Rattle.frame_payloads.specs.kinds.Message.{message_payload}
use Rattle.frame_payloads.specs.kinds.Commit.{hash_bytes}

-- a root proof has a width of two bytes, a sample, a digest and hashes, and no more hashes than its type holds
pub record IsRootedSent (proof : RootedParts) : Type 0 where
  pub k : proof.k < 2 ^ 16
  pub is : IsRooted proof
  pub few_hashes : length proof.up ≤ most_hashes

-- the width, the sample, the root of its axis, and the hashes that lead from that to the data root
abbrev pub rooted_payload : RootedParts → List ℕ
rooted_payload proof =
    to_be_bytes w16 proof.k ++ message_payload proof.message ++ proof.root.0 ++ hash_bytes proof.up

-- a root proof that is all of the bytes
unfoldable pub rooted_at : List ℕ → Option RootedParts
rooted_at bytes = do
  k ← big_endian_at w16 bytes
  message ← message_front k.1
  root ← string_at digest_size message.1
  up ← hashes_at root.1
  if length up.1 == 0
      then Some (record { k = k.0; message = message.0; root = digest root.0; up = up.0 })
      else None
