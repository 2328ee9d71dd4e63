-- Where the shares of a block stand in its square (Celestia specifications, "Square Layout").
use Rattle.std.specs.Prelude.{ℕ, ◌+◌, ◌-◌, ◌*◌, ◌==◌, nat_le, Bool, List, [], ◌∷◌, ◌++◌, length, replicate, is_some, false, if◌then◌else◌}
use Rattle.std.specs.Int.{div_ceil}
use Rattle.std.specs.Option.{option_map_or}
use Rattle.std.specs.Str.{bytes_eq}
use Rattle.namespace_id.specs.declared.namespaces.Namespace.{Namespace}
use Rattle.namespace_id.specs.declared.shares.Share.{Share}
use Rattle.namespace_id.specs.Names.{is_at_most, transaction, pay_for_blob, primary_reserved_padding, tail_padding}
use Rattle.namespace_id.specs.Doublings.{least_doubling}
use Rattle.share_split.specs.Widths.{subtree_width_of}
use Rattle.share_split.specs.Blobs.{NamedBytes, version_of, share_count, blob_shares_of}
use Rattle.share_split.specs.Units.{unit_shares_of, unit_share_count}
use Rattle.share_split.specs.Joined.{padding_of, padding_share}
use Rattle.square_layout.specs.Blocks.{BlockParts, SquareShares}

-- ---- the order of blobs

-- a blob among blobs that are in order and came after it: before the first whose namespace isn't smaller
unfoldable pub put_in : NamedBytes → List NamedBytes → List NamedBytes
put_in blob [] = blob ∷ []
put_in blob (other ∷ others) =
    if is_at_most blob.namespace other.namespace then blob ∷ other ∷ others else
    other ∷ put_in blob others

-- blobs by ascending namespace, and within one namespace as they came
unfoldable pub in_order : List NamedBytes → List NamedBytes
in_order [] = []
in_order (blob ∷ blobs) = put_in blob (in_order blobs)

-- whether a blob has this namespace
abbrev pub has_name : Namespace → NamedBytes → Bool
has_name name blob = bytes_eq name.0 blob.namespace.0

-- ---- their places

-- how many shares a blob takes
abbrev pub share_count_of : NamedBytes → ℕ
share_count_of blob = share_count (length blob.bytes) (is_some blob.signer)

-- where a blob starts if what precedes it ends at `end`: at the least multiple of the width of its
-- subtrees that isn't below
abbrev pub start_after : ℕ → NamedBytes → ℕ
start_after end blob = div_ceil end (subtree_width_of (share_count_of blob)) * subtree_width_of (share_count_of blob)

-- the padding behind a blob: of its namespace, and of the version of its shares where gaps have that, else of 0
abbrev pub gap_behind : Bool → NamedBytes → Share
gap_behind versioned blob = padding_of (if versioned then version_of blob.signer else 0) blob.namespace

-- the shares of blobs, each behind the padding before it, from place `end` on; the first padding is `gap`, and
-- the others are those behind the blobs
unfoldable pub placed_behind : Bool → Share → ℕ → List NamedBytes → List Share
placed_behind versioned gap end [] = []
placed_behind versioned gap end (blob ∷ blobs) =
    replicate (start_after end blob - end) gap
    ++ blob_shares_of blob.namespace blob.signer blob.bytes
    ++ placed_behind versioned (gap_behind versioned blob) (start_after end blob + share_count_of blob) blobs

-- these with padding of version 0 alone, whose first has this namespace
abbrev pub placed : Namespace → ℕ → List NamedBytes → List Share
placed name end blobs = placed_behind false (padding_share name) end blobs

-- the namespace of the last of some blobs, or this one where there is none
unfoldable pub last_name : Namespace → List NamedBytes → Namespace
last_name name [] = name
last_name name (blob ∷ blobs) = last_name blob.namespace blobs

-- the namespace of the padding behind these blobs, in order: that of the last of them,
-- PRIMARY_RESERVED_PADDING where there is none
abbrev pub padding_name : List NamedBytes → Namespace
padding_name blobs = last_name primary_reserved_padding blobs

-- where the last blob ends
unfoldable pub end_of : ℕ → List NamedBytes → ℕ
end_of end [] = end
end_of end (blob ∷ blobs) = end_of (start_after end blob + share_count_of blob) blobs

-- ---- the square

-- the compact shares of transactions, then those of payments for blobs
abbrev pub compact_part : BlockParts → List Share
compact_part block = unit_shares_of transaction block.units ++ unit_shares_of pay_for_blob block.pay_units

-- how many compact shares a block has: where they end
abbrev pub compact_end : BlockParts → ℕ
compact_end block = unit_share_count block.units + unit_share_count block.pay_units

-- all shares but the padding behind them
abbrev pub laid : BlockParts → List Share
laid block =
    compact_part block ++ placed primary_reserved_padding (compact_end block) (in_order block.blobs)

-- how many shares the layout has: up to the end of its last compact share or blob, and 1 for an empty block
abbrev pub needed : BlockParts → ℕ
needed block =
    if end_of (compact_end block) (in_order block.blobs) == 0 then 1 else
    end_of (compact_end block) (in_order block.blobs)

-- whether a square of this width holds so many shares
abbrev pub holds_shares : ℕ → ℕ → Bool
holds_shares count k = nat_le count (k * k)

-- the first of some widths, each twice the one before, whose square holds so many shares
abbrev pub holding_from : ℕ → ℕ → ℕ → ℕ
holding_from more k count = least_doubling (holds_shares count) more k

-- the width of the square: the least whose square holds the layout, or the one that is asked for
abbrev pub width_for : BlockParts → ℕ
width_for block = option_map_or (λ k. k) block.width (holding_from 9 1 (needed block))

-- the square of a block: the layout, and tail padding behind it
abbrev pub block_square : BlockParts → SquareShares
block_square block = record {
  k = width_for block;
  shares = laid block
      ++ replicate (width_for block * width_for block - length (laid block)) (padding_share tail_padding);
}
