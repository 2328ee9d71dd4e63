-- What a feed has at a height whose header is that of a square (docs/RULES.md, "Following namespaces").
use Rattle.std.specs.Prelude.{◌≡◌, ◌⊎◌, ℕ, List, Some, None, Ok}
use Rattle.std.specs.List.{filter}
use Rattle.namespace_id.specs.declared.namespaces.Namespace.{Namespace}
use Rattle.share_split.specs.Walks.{blobs_joined}
use Rattle.data_header.specs.Headers.{Roots}
use Rattle.square_layout.specs.Blocks.{BlockParts, SquareShares, IsBlock}
use Rattle.square_layout.specs.Layout.{has_name, block_square}
use Rattle.square_layout.specs.Refusals.{layout_refusal}
use Rattle.axis_roots.specs.Grids.{IsHeaderOf}
use Rattle.blob_feed.specs.Feeds.{Item, AreItems, header_at, Read, FeedsAt, shares_in, FirstNames}

-- under a square's header it is what the square's shares are read as, or the first complete answer names a collision
abbrev pub FeedsOfSquare : (Namespace → Type 0) → Type 0
FeedsOfSquare wants = (items : List Item) (number : ℕ) (name : Namespace) (read : Read) (header : Roots)
    (square : SquareShares) → AreItems items → FeedsAt wants items number name (Some read)
    → header_at items number ≡ Some header → IsHeaderOf header square
    → (read ≡ blobs_joined (shares_in square name)) ⊎ FirstNames items number name square

-- under the header of a block's square it is the block's blobs of the namespace, or a collision is named
abbrev pub FeedsOfBlock : (Namespace → Type 0) → Type 0
FeedsOfBlock wants = (items : List Item) (number : ℕ) (name : Namespace) (read : Read) (header : Roots)
    (block : BlockParts) → AreItems items → FeedsAt wants items number name (Some read)
    → header_at items number ≡ Some header → IsHeaderOf header (block_square block)
    → layout_refusal block ≡ None → IsBlock block
    → (read ≡ Ok (filter (has_name name) block.blobs)) ⊎ FirstNames items number name (block_square block)
