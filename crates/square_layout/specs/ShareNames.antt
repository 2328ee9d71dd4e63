-- Laws of the namespaces of shares.
use Rattle.std.specs.Prelude.{◌≡◌, ℕ, List, length, replicate, Option}
use Rattle.std.specs.List.{AllByRecursion}
use Rattle.namespace_id.specs.declared.namespaces.Namespace.{Namespace}
use Rattle.namespace_id.specs.declared.shares.Share.{Share}
use Rattle.namespace_id.specs.Shares.{name_in}
use Rattle.share_split.specs.Blobs.{blob_shares_of}
use Rattle.share_split.specs.Units.{unit_shares_of}
use Rattle.share_split.specs.Joined.{padding_share}

-- each share has this namespace
abbrev pub AreNamed : Namespace → List Share → Type 0
AreNamed name shares = AllByRecursion (λ share. name_in share ≡ name) shares

-- the shares of a blob have its namespace
abbrev pub BlobSharesAreNamed : Type 0
BlobSharesAreNamed = (name : Namespace) (signer : Option (List ℕ)) (bytes : List ℕ) → length name.0 ≡ 29
    → AreNamed name (blob_shares_of name signer bytes)

-- those of units have theirs
abbrev pub UnitSharesAreNamed : Type 0
UnitSharesAreNamed = (name : Namespace) (units : List (List ℕ)) → length name.0 ≡ 29
    → AreNamed name (unit_shares_of name units)

-- so has padding
abbrev pub PaddingIsNamed : Type 0
PaddingIsNamed = (count : ℕ) (name : Namespace) → length name.0 ≡ 29
    → AreNamed name (replicate count (padding_share name))
