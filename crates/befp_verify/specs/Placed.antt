-- Openings at their places, as branches of a tree.
use Rattle.std.specs.Prelude.{◌≡◌, ◌≤◌, ℕ, List, map, length, Some}
use Rattle.std.specs.List.{AllByRecursion, Contains}
use Rattle.namespace_id.specs.declared.digests.Digest.{Digest}
use Rattle.hash_clash.specs.Collisions.{Strings}
use Rattle.nmt_proofs.specs.Clashes.{clash_at}
use Rattle.nmt_proofs.specs.Merging.{Branch, branch_tree, IsBranch}
use Rattle.befp_verify.specs.declared.compacting.Placed.{Placed}

-- an opening at its place
abbrev pub placed_of : Placed → Branch
placed_of p = record { pos = p.pos; name = p.opening.name; share = p.opening.share; nodes = p.opening.path }

-- openings at their places
abbrev pub placed_branches : List Placed → List Branch
placed_branches ps = map placed_of ps

-- an opening has so many nodes at least
abbrev pub HasNodes : ℕ → Placed → Type 0
HasNodes count p = count ≤ length p.opening.path

-- branches open under one root
abbrev pub AreUnderOne : ℕ → List Branch → Type 0
AreUnderOne depth branches = (root : Digest) × AllByRecursion (IsBranch depth root) branches

-- two of some branches name a collision
pub record NamesTwoOf (depth : ℕ) (branches : List Branch) (clash : Strings) : Type 0 where
  pub left : Branch
  pub right : Branch
  pub left_in : Contains branches left
  pub right_in : Contains branches right
  pub found : clash_at (branch_tree depth left) (branch_tree depth right) ≡ Some (clash.left, clash.right)
