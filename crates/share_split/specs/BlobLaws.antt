-- Laws of the shares of blobs and of padding.
use Rattle.std.specs.Prelude.{◌≡◌, ◌≤◌, ℕ, Bool, List, length, Option, is_some, IfSome}
use Rattle.namespace_id.specs.declared.namespaces.Namespace.{Namespace}
use Rattle.namespace_id.specs.Bytes.{AreBytes, IsString}
use Rattle.namespace_id.specs.Names.{IsNamespace}
use Rattle.namespace_id.specs.Shares.{IsShare, AreShares}
use Rattle.namespace_id.specs.Sizes.{most_shares}
use Rattle.share_split.specs.Blobs.{signer_size, max_sequence_length, share_count, blob_shares_of}
use Rattle.share_split.specs.Joined.{padding_share}

-- the shares of a blob are as many as counted
abbrev pub BlobSharesAreCounted : Type 0
BlobSharesAreCounted = (name : Namespace) (signer : Option (List ℕ)) (bytes : List ℕ)
    → length (blob_shares_of name signer bytes) ≡ share_count (length bytes) (is_some signer)

-- the shares of a blob are shares
abbrev pub BlobSharesAreShares : Type 0
BlobSharesAreShares = (name : Namespace) (signer : Option (List ℕ)) (bytes : List ℕ) → IsNamespace name
    → IfSome signer (IsString signer_size) → AreBytes bytes → AreShares (blob_shares_of name signer bytes)

-- so is padding
abbrev pub PaddingIsShare : Type 0
PaddingIsShare = (name : Namespace) → IsNamespace name → IsShare (padding_share name)

-- a blob that takes no more shares than the greatest square has is no longer than a sequence may be
abbrev pub FewSharesHoldASequence : Type 0
FewSharesHoldASequence = (size : ℕ) (signed : Bool) → share_count size signed ≤ most_shares → size ≤ max_sequence_length
