-- Parts of values that both the text and the JSON of a frame show (docs/FORMATS.md, "Text of frames").
use Rattle.std.specs.Prelude.{ℕ, List, codes}
use Rattle.sha2.specs.Sha256.{sha256}
use Rattle.hex.specs.Hex.{encode_lower}
use Rattle.namespace_id.specs.declared.cells.Axis.{Axis}
use Rattle.namespace_id.specs.declared.cells.Axis.TheVariants.{Row, Col}
use Rattle.namespace_id.specs.declared.namespaces.Namespace.{Namespace}
use Rattle.namespace_id.specs.declared.digests.Digest.{Digest}
use Rattle.namespace_id.specs.declared.shares.Share.{Share}
use Rattle.namespace_id.specs.Shares.{name_in}

-- an axis in a word
abbrev pub axis_word : Axis → List ℕ
axis_word Row = codes "row"
axis_word Col = codes "col"

-- the 29 bytes of a namespace in lower-case hexadecimal digits
abbrev pub name_word : Namespace → List ℕ
name_word name = encode_lower name.0

-- the 90 bytes of a digest
abbrev pub digest_word : Digest → List ℕ
digest_word digest = encode_lower digest.0

-- the first 29 bytes of a share
abbrev pub share_name_word : Share → List ℕ
share_name_word share = name_word (name_in share)

-- the SHA-256 value of the 512 bytes of a share
abbrev pub share_hash_word : Share → List ℕ
share_hash_word share = encode_lower (sha256 share.0)
