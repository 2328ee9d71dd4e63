-- What a room for verifying keeps.
use Rattle.std.specs.Prelude.{◌≡◌, ℕ, ◌*◌, List, length, true}
use Rattle.namespace_id.specs.declared.namespaces.Namespace.{Namespace}
use Rattle.namespace_id.specs.declared.shares.Share.{Share}
use Rattle.namespace_id.specs.Cells.{is_width}

-- buffers for one axis of a square of width k: k positions with their shares, 2k shares, 2k namespaces
pub record IsRoomForAxis (k code : ℕ) (known : List ℕ) (shares all : List Share) (names : List Namespace) : Type 0 where
  pub width : is_width k ≡ true
  pub coded : code ≡ k
  pub positions : length known ≡ k
  pub known_shares : length shares ≡ k
  pub line : length all ≡ 2 * k
  pub leaf_names : length names ≡ 2 * k
