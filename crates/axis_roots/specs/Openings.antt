-- A sample that opens under a root, and one that is proved under a header.
use Rattle.std.specs.Prelude.{◌≡◌, ◌*◌, ℕ, true}
use Rattle.std.specs.List.{AllByRecursion-prop}
use Rattle.std.specs.Coded.{le_prop}
use Rattle.std.proofs.Math.Nat.{ℕ_set}
use Rattle.std.proofs.Math.Bool.{Bool-set}
use Rattle.namespace_id.specs.declared.digests.Digest.{Digest}
use Rattle.namespace_id.specs.Digests.{IsDigest}
use Rattle.namespace_id.specs.Cells.{is_width, is_in_square}
use Rattle.nmt_tree.specs.Roots.{halvings}
use Rattle.nmt_proofs.specs.Openings.{Opens}
use Rattle.axis_roots.specs.declared.message.messages.Message.{Message}
use Rattle.data_header.specs.Headers.{Roots}
use Rattle.axis_roots.specs.Messages.{IsMessage, shown_by, root_for}

-- the cell of a sample is in the square of width k, and its nodes open its share, under the leaf
-- namespace of the cell, at its place
pub record OpensAt (k : ℕ) (m : Message) (root : Digest) : Type 0 where
  pub width : is_width k ≡ true
  pub inside : is_in_square k m.cell ≡ true
  pub sized : IsMessage m
  pub opened : Opens (halvings (2 * k)) (shown_by k m) m.path root

-- two proofs that a digest has 90 bytes are one
IsDigest-prop : (digest : Digest) → IsProp (IsDigest digest)
IsDigest-prop digest = hlevel (le_prop, ℕ_set)

-- two proofs that a sample opens under a root are one
pub OpensAt-prop : (k : ℕ) (m : Message) (root : Digest) → IsProp (OpensAt k m root)
OpensAt-prop k m root = hlevel (le_prop, ℕ_set, Bool-set, AllByRecursion-prop IsDigest IsDigest-prop)

-- a sample is proved under a header: it opens under the header's root of its axis
abbrev pub IsProved : Roots → Message → Type 0
IsProved header m = OpensAt header.k m (root_for header m)
