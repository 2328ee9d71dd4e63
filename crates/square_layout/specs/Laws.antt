-- What stands in the square of a block.
use Rattle.std.specs.Prelude.{◌≡◌, ◌≤◌, ◌<◌, ◌++◌, ◌∷◌, ℕ, List, Some}
use Rattle.std.specs.List.{slice_get}
use Rattle.share_split.specs.Blobs.{NamedBytes}
use Rattle.share_split.specs.Joined.{padding_share}
use Rattle.square_layout.specs.Blocks.{BlockParts}
use Rattle.square_layout.specs.Layout.{in_order, start_after, end_of, padding_name, compact_end, laid}

-- between the end of what stands before a blob and its start padding stands
abbrev pub GapsArePadding : Type 0
GapsArePadding = (block : BlockParts) (before after : List NamedBytes) (blob : NamedBytes) (i : ℕ)
    → in_order block.blobs ≡ before ++ blob ∷ after → end_of (compact_end block) before ≤ i
    → i < start_after (end_of (compact_end block) before) blob
    → slice_get (laid block) i ≡ Some (padding_share (padding_name before))
