-- Shares of 512 bytes, each behind as many other bytes.
use Rattle.std.specs.Prelude.{ℕ, ◌+◌, List, take, drop}
use Rattle.namespace_id.specs.declared.shares.Share.{Share}
use Rattle.namespace_id.specs.Sizes.{share_size}
use Rattle.celestia_pb.specs.EntryLists.{entries}

-- the share behind so many bytes
abbrev pub share_behind : ℕ → List ℕ → Share
share_behind front bytes = record { 0 = take share_size (drop front bytes) }

-- so many shares, each behind so many bytes
abbrev pub shares_behind : ℕ → ℕ → List ℕ → List Share
shares_behind front count bytes = entries (share_behind front) (front + share_size) count bytes
