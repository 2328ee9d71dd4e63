-- What a room for one row or column keeps.
use Rattle.std.specs.Prelude.{◌≡◌, ℕ, ◌*◌, ◌<◌, List, length, true, Option, IfSome}
use Rattle.namespace_id.specs.declared.cells.Axis.{Axis}
use Rattle.namespace_id.specs.declared.namespaces.Namespace.{Namespace}
use Rattle.namespace_id.specs.declared.shares.Share.{Share}
use Rattle.namespace_id.specs.Cells.{is_width}
use Rattle.nmt_tree.specs.Trees.{StoredTree}
use Rattle.axis_roots.specs.Trees.{line_stored}

-- a room as contracts see it: the width of its square, and the 2k shares that it holds
pub record RoomParts : Type 0 where
  pub k : ℕ
  pub shares : List Share

-- buffers for one axis of a square of width k: k positions with their shares, 2k shares, two lists of 2k namespaces, and
-- a tree of 2k leaves; where it is told of which axis the tree is, it is that over the shares
pub record IsAxisRoom (k code : ℕ) (known : List ℕ) (given shares : List Share) (names others : List Namespace)
    (tree : StoredTree) (held : Option (Axis × ℕ)) : Type 0 where
  pub width : is_width k ≡ true
  pub coded : code ≡ k
  pub positions : length known ≡ k
  pub known_shares : length given ≡ k
  pub line : length shares ≡ 2 * k
  pub leaf_names : length names ≡ 2 * k
  pub other_names : length others ≡ 2 * k
  pub leaves : tree.count ≡ 2 * k
  pub kept : IfSome held (λ x. (x.1 < 2 * k) × (tree ≡ line_stored k x.0 x.1 shares))
