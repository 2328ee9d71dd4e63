-- Digests of leaves and nodes (Celestia specifications, "Data Structures").
use Rattle.std.specs.Prelude.{List, take, drop, []}
use Rattle.std.specs.List.{AllByRecursion}
use Rattle.namespace_id.specs.declared.namespaces.Namespace.{Namespace}
use Rattle.namespace_id.specs.declared.digests.Digest.{Digest}
use Rattle.namespace_id.specs.Bytes.{IsString}
use Rattle.namespace_id.specs.Sizes.{namespace_size, digest_size}

-- a digest has 90 bytes
abbrev pub IsDigest : Digest → Type 0
IsDigest digest = IsString digest_size digest.0

-- each of these is a digest
abbrev pub AreDigests : List Digest → Type 0
AreDigests digests = AllByRecursion IsDigest digests

-- the least namespace of a digest: its first 29 bytes
abbrev pub least_of : Digest → Namespace
least_of digest = record { 0 = take namespace_size digest.0 }

-- the greatest namespace of a digest: the 29 bytes after those
abbrev pub greatest_of : Digest → Namespace
greatest_of digest = record { 0 = take namespace_size (drop namespace_size digest.0) }

-- the digest that stands for none
abbrev pub no_digest : Digest
no_digest = record { 0 = [] }
