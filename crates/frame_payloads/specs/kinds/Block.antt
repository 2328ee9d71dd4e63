-- The payload of a block (docs/FORMATS.md, "Payloads").
use Rattle.std.specs.Prelude.{ℕ, List, ◌∷◌, length, Option, Some, None, if◌then◌else◌, ◌==◌, Bool, ◌++◌, false}
use Rattle.std.specs.Option.{option_map_or}
use Rattle.std.specs.Int.{w16, to_be_bytes}
use Rattle.namespace_id.specs.Sizes.{namespace_size}
use Rattle.square_layout.specs.Blocks.{BlockParts}
use Rattle.share_split.specs.Blobs.{NamedBytes, signer_size, version_of, signer_bytes}
use Rattle.frame_fields.specs.Fields.{◌>>=◌, big_endian_at, byte_at, string_at}
use Rattle.frame_payloads.specs.kinds.Units.{unit_bytes, unit_at, counted_bytes, counted_at}

-- a blob: its namespace, its share version, its signer where that is 1, and its bytes
abbrev pub blob_bytes : NamedBytes → List ℕ
blob_bytes blob =
    blob.namespace.0 ++ version_of blob.signer ∷ (signer_bytes blob.signer ++ unit_bytes blob.bytes)

-- the width that is asked for, 0 for none
abbrev pub width_number : Option ℕ → ℕ
width_number width = option_map_or (λ k. k) width 0

-- a width or 0, and three lists: units, units of payments, blobs
abbrev pub block_payload : BlockParts → List ℕ
block_payload b =
    to_be_bytes w16 (width_number b.width) ++ counted_bytes unit_bytes b.units
    ++ counted_bytes unit_bytes b.pay_units ++ counted_bytes blob_bytes b.blobs

-- whether a width of 0 is asked for
abbrev pub asks_for_zero : Option ℕ → Bool
asks_for_zero width = option_map_or (λ k. k == 0) width false

-- a signer
abbrev pub signed_at : List ℕ → Option (Option (List ℕ) × List ℕ)
signed_at bytes = do
  signer ← string_at signer_size bytes
  Some (Some signer.0, signer.1)

-- a share version, and the signer behind it where it is 1; there is none where it is 0, and no other version
unfoldable pub signer_at : List ℕ → Option (Option (List ℕ) × List ℕ)
signer_at bytes = do
  version ← byte_at bytes
  if version.0 == 0 then Some (None, version.1) else
      (if version.0 == 1 then signed_at version.1 else None)

-- a namespace, a share version, the signer where that is 1, and the bytes of a blob
unfoldable pub blob_at : List ℕ → Option (NamedBytes × List ℕ)
blob_at bytes = do
  name ← string_at namespace_size bytes
  signer ← signer_at name.1
  text ← unit_at signer.1
  Some (record { namespace = record { 0 = name.0 }; bytes = text.0; signer = signer.0 }, text.1)

-- the width that a number asks for, none for 0
abbrev pub asked_width : ℕ → Option ℕ
asked_width k = if k == 0 then None else Some k

-- a width or 0, and three lists: units, units of payments, blobs
unfoldable pub block_at : List ℕ → Option BlockParts
block_at bytes = do
  width ← big_endian_at w16 bytes
  units ← counted_at unit_at width.1
  pay_units ← counted_at unit_at units.1
  blobs ← counted_at blob_at pay_units.1
  if length blobs.1 == 0
      then Some (record {
        units = units.0;
        pay_units = pay_units.0;
        blobs = blobs.0;
        width = asked_width width.0;
      })
      else None
