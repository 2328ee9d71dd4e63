-- The shares of a blob (Celestia specifications, "Shares").
use Rattle.std.specs.Prelude.{ℕ, zero, suc, ◌+◌, ◌-◌, ◌*◌, nat_le, Bool, true, false, List, [], ◌∷◌, ◌++◌, length, take, drop, replicate, Option, Some, None, is_some, IfSome, if◌then◌else◌}
use Rattle.std.specs.Int.{w32, to_be_bytes, div_ceil}
use Rattle.namespace_id.specs.declared.namespaces.Namespace.{Namespace}
use Rattle.namespace_id.specs.declared.shares.Share.{Share}
use Rattle.namespace_id.specs.Bytes.{AreBytes, IsString}
use Rattle.namespace_id.specs.Names.{IsNamespace}
use Rattle.namespace_id.specs.Sizes.{namespace_size, share_size}

-- the place of the length of a sequence in its first share: behind the namespace and the info byte
abbrev pub length_place : ℕ
length_place = namespace_size + 1

-- the bytes of content in the first share of a sequence: without the namespace, the info byte and the length
abbrev pub first_content : ℕ
first_content = share_size - namespace_size - 1 - 4

-- the bytes of a signer
abbrev pub signer_size : ℕ
signer_size = 20

-- the bytes of content in the first share of a signed blob, in which the signer comes before the content
abbrev pub first_signed_content : ℕ
first_signed_content = first_content - signer_size

-- the bytes of content in a later share of a sequence: without the namespace and the info byte
abbrev pub later_content : ℕ
later_content = share_size - namespace_size - 1

-- the greatest length of a sequence: four bytes state it
abbrev pub max_sequence_length : ℕ
max_sequence_length = 4294967295

-- the info byte: the version in the upper 7 bits, the start of a sequence in the lowest
abbrev pub info : ℕ → Bool → ℕ
info version start = 2 * version + (if start then 1 else 0)

-- content filled with zeros up to a length
abbrev pub filled : ℕ → List ℕ → List ℕ
filled n content = take n (content ++ replicate n 0)

-- a share of a sequence: namespace, info byte, the fields behind it, and content filled with zeros to the
-- end of the share
unfoldable pub sequence_share : Namespace → ℕ → Bool → List ℕ → List ℕ → Share
sequence_share name version start fields content = record {
  0 = name.0 ++ (info version start ∷ (fields
      ++ filled (share_size - namespace_size - 1 - length fields) content));
}

-- the share version of a blob: 1 with a signer, 0 without one
abbrev pub version_of : Option (List ℕ) → ℕ
version_of None = 0
version_of (Some signer) = 1

-- the bytes of a signer, none where there is no signer
abbrev pub signer_bytes : Option (List ℕ) → List ℕ
signer_bytes None = []
signer_bytes (Some signer) = signer

-- the first share of a blob's sequence, whose fields are the length of the sequence and the signer, if there is
-- one
abbrev pub first_share : Namespace → Option (List ℕ) → ℕ → List ℕ → Share
first_share name signer size content =
    sequence_share name (version_of signer) true (to_be_bytes w32 size ++ signer_bytes signer) content

-- a later share of a blob's sequence, which has no fields
abbrev pub later_share : Namespace → ℕ → List ℕ → Share
later_share name version content = sequence_share name version false [] content

-- so many later shares, as much content in each as it holds
unfoldable pub later_shares : ℕ → Namespace → ℕ → List ℕ → List Share
later_shares zero name version bytes = []
later_shares (suc count) name version bytes =
    later_share name version (take later_content bytes)
    ∷ later_shares count name version (drop later_content bytes)

-- how many shares so many bytes take, of which the first share and each later one hold at most so many
abbrev pub count_from : ℕ → ℕ → ℕ → ℕ
count_from first later size = if nat_le size first then 1 else 1 + div_ceil (size - first) later

-- the bytes of content in the first share of a blob, which may be signed
abbrev pub first_blob_content : Bool → ℕ
first_blob_content signed = if signed then first_signed_content else first_content

-- how many shares a blob of so many bytes takes, which may be signed
abbrev pub share_count : ℕ → Bool → ℕ
share_count size signed = count_from (first_blob_content signed) later_content size

-- the shares of a blob: its namespace, its signer, if it has one, and its bytes
abbrev pub blob_shares_of : Namespace → Option (List ℕ) → List ℕ → List Share
blob_shares_of name signer bytes =
    first_share name signer (length bytes) (take (first_blob_content (is_some signer)) bytes)
    ∷ later_shares (share_count (length bytes) (is_some signer) - 1) name (version_of signer)
    (drop (first_blob_content (is_some signer)) bytes)

-- a blob as contracts see it
pub record NamedBytes : Type 0 where
  pub namespace : Namespace
  pub bytes : List ℕ
  pub signer : Option (List ℕ)

-- bytes under a namespace, and a signer of 20 bytes, if there is one
pub record IsNamed (blob : NamedBytes) : Type 0 where
  pub name : IsNamespace blob.namespace
  pub fits : AreBytes blob.bytes
  pub signer : IfSome blob.signer (IsString signer_size)
