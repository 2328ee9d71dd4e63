-- Shares (Celestia specifications, "Shares").
use Rattle.std.specs.Prelude.{ℕ, List, take}
use Rattle.std.specs.List.{AllByRecursion, flat_map}
use Rattle.namespace_id.specs.declared.namespaces.Namespace.{Namespace}
use Rattle.namespace_id.specs.declared.shares.Share.{Share}
use Rattle.namespace_id.specs.Bytes.{IsString}
use Rattle.namespace_id.specs.Sizes.{namespace_size, share_size}

-- the share that bytes are
abbrev pub share_of : List ℕ → Share
share_of bytes = record { 0 = bytes }

-- a share has 512 bytes
abbrev pub IsShare : Share → Type 0
IsShare share = IsString share_size share.0

-- each of these is a share
abbrev pub AreShares : List Share → Type 0
AreShares shares = AllByRecursion IsShare shares

-- the namespace that a share begins with
abbrev pub name_in : Share → Namespace
name_in share = record { 0 = take namespace_size share.0 }

-- the bytes of shares, one after another
abbrev pub share_bytes : List Share → List ℕ
share_bytes shares = flat_map (λ (share : Share). share.0) shares
