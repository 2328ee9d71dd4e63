-- Stored trees: what they keep, and what contracts see of them.
use Rattle.std.specs.Prelude.{◌≡◌, IsTrue, Bool, true, ℕ, ◌+◌, ◌*◌, List, length, take, Option, Some, None, if◌then◌else◌}
use Rattle.std.specs.Option.{option_map}
use Rattle.namespace_id.specs.declared.digests.Digest.{Digest}
use Rattle.nmt_tree.specs.Roots.{is_leaf_count, halvings}
use Rattle.nmt_tree.specs.Levels.{span, HasOrderedJoins, levels}

-- a tree as contracts see it: how many leaves it is for, and their digests, none where it is empty
pub record StoredTree : Type 0 where
  pub count : ℕ
  pub leaves : Option (List Digest)

-- the digest over `size` leaves of a tree from one place on, none where it is empty
abbrev pub digest_over : StoredTree → ℕ → ℕ → Option Digest
digest_over tree from size = option_map (λ leaves. span leaves from (halvings size)) tree.leaves

-- the leaves of a tree that isn't empty: as many as it is for, and every join over them is ordered
pub record AreTreeLeaves (count : ℕ) (leaves : List Digest) : Type 0 where
  pub number : length leaves ≡ count
  pub ordered : HasOrderedJoins leaves 0 (halvings count)

-- what contracts see of a tree, by what it keeps: the leaves come first
abbrev pub stored_tree : ℕ → Bool → List Digest → StoredTree
stored_tree count is_full digests =
    record { count = count; leaves = (if is_full then Some (take count digests) else None) }

-- what a tree keeps: capacity for the digests of all levels, and these where it isn't empty
pub record IsTree (count : ℕ) (is_full : Bool) (digests : List Digest) : Type 0 where
  pub is_count : IsTrue (is_leaf_count count)
  pub room : length digests + 1 ≡ 2 * count
  pub filled : is_full ≡ true → digests ≡ levels (halvings count) (take count digests)
  pub ordered : is_full ≡ true → HasOrderedJoins (take count digests) 0 (halvings count)
