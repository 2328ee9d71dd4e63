-- How many bytes namespaces, shares, hashes and digests have, and how large squares and trees get (Celestia specifications, "Shares", "Data Structures").
use Rattle.std.specs.Prelude.{ℕ, ◌+◌, ◌*◌}

-- the bytes of a namespace: a version byte and a 28-byte id
abbrev pub namespace_size : ℕ
namespace_size = 29

-- the bytes of a share
abbrev pub share_size : ℕ
share_size = 512

-- the bytes of a SHA-256 value
abbrev pub hash_size : ℕ
hash_size = 32

-- the bytes of a namespaced hash: two namespaces and a SHA-256 value
abbrev pub digest_size : ℕ
digest_size = namespace_size + namespace_size + hash_size

-- the greatest width of a square (docs/RULES.md, "Widths")
abbrev pub greatest_width : ℕ
greatest_width = 512

-- the most shares of an original square
abbrev pub most_shares : ℕ
most_shares = greatest_width * greatest_width

-- the most leaves of a tree of namespaced hashes: the shares of an extended row or column
abbrev pub most_leaves : ℕ
most_leaves = 2 * greatest_width

-- the most levels of such a tree below its root
abbrev pub most_depth : ℕ
most_depth = 10

-- the most nodes of a proof of a range or of an absence, two for each level of a tree
abbrev pub most_nodes : ℕ
most_nodes = 2 * most_depth
