-- The blobs of a namespace in the square of a block.
use Rattle.std.proofs.Common.{◌≡◌, ◌∙◌, ◌↔◌, ◌-◌, ◌*◌, List, [], ◌∷◌, length, replicate, Bool, true, false, cond, true≢false, Ok, refl, sym, ap, subst}
use Rattle.std.specs.List.{filter, AllByRecursion}
use Rattle.namespace_id.specs.declared.namespaces.Namespace.{Namespace}
use Rattle.namespace_id.specs.declared.shares.Share.{Share}
use Rattle.namespace_id.specs.Names.{IsNamespace, is_blob_namespace, transaction, pay_for_blob, primary_reserved_padding, tail_padding}
use Rattle.namespace_id.specs.Shares.{IsShare, AreShares}
use Rattle.share_split.specs.Blobs.{NamedBytes}
use Rattle.share_split.specs.Units.{unit_shares_of}
use Rattle.share_split.specs.Joined.{padding_share, IsBlob, AreBlobs}
use Rattle.share_split.specs.Walks.{blobs_joined}
use Rattle.square_layout.specs.Blocks.{BlockParts, IsSquare}
use Rattle.square_layout.specs.Layout.{has_name, in_order, placed, compact_end, laid, width_for, block_square}
use Rattle.square_layout.specs.ShareNames.{BlobSharesAreNamed, UnitSharesAreNamed, PaddingIsNamed}
use Rattle.square_serve.specs.Shares.{is_named}
use Rattle.blob_feed.specs.Feeds.{shares_in}
use Rattle.blob_feed.proofs.RowLemmas.{shares_in_square}
use Rattle.blob_feed.proofs.BlockLemmas.{none_named, between, placed_part}

-- ---- reserved namespaces

-- that of transactions isn't one of a blob
not_transaction : is_blob_namespace transaction.0 ≡ true → ⊥
not_transaction e = true≢false (sym e)

-- nor is that of payments for blobs
not_pay_for_blob : is_blob_namespace pay_for_blob.0 ≡ true → ⊥
not_pay_for_blob e = true≢false (sym e)

-- nor that of tail padding
not_tail : is_blob_namespace tail_padding.0 ≡ true → ⊥
not_tail e = true≢false (sym e)

-- a namespace of a blob is another one
other_than : (name other : Namespace) → is_blob_namespace name.0 ≡ true → (is_blob_namespace other.0 ≡ true → ⊥)
    → other ≡ name → ⊥
other_than name other blob not_one same =
    not_one (subst (λ (n : Namespace). is_blob_namespace n.0 ≡ true) (sym same) blob)

-- the shares of a namespace of a blob are among those of the blobs
among_blobs : UnitSharesAreNamed → PaddingIsNamed → (block : BlockParts) (name : Namespace)
    → is_blob_namespace name.0 ≡ true
    → filter (is_named name) (block_square block).shares
    ≡ filter (is_named name) (placed primary_reserved_padding (compact_end block) (in_order block.blobs))
among_blobs of_units of_padding block name blob =
    between name (unit_shares_of transaction block.units) (unit_shares_of pay_for_blob block.pay_units)
    (placed primary_reserved_padding (compact_end block) (in_order block.blobs))
    (replicate (width_for block * width_for block - length (laid block)) (padding_share tail_padding))
    (none_named name transaction (unit_shares_of transaction block.units)
    (other_than name transaction blob not_transaction) (of_units transaction block.units refl))
    (none_named name pay_for_blob (unit_shares_of pay_for_blob block.pay_units)
    (other_than name pay_for_blob blob not_pay_for_blob) (of_units pay_for_blob block.pay_units refl))
    (none_named name tail_padding
    (replicate (width_for block * width_for block - length (laid block)) (padding_share tail_padding))
    (other_than name tail_padding blob not_tail)
    (of_padding (width_for block * width_for block - length (laid block)) tail_padding refl))

-- a share that is kept or not
kept_share : (b : Bool) (share : Share) (kept : List Share) → IsShare share → AreShares kept
    → AreShares (cond b (share ∷ kept) kept)
kept_share true share kept is are = (is, are)
kept_share false share kept is are = are

-- what passes of shares are shares
kept_shares : (test : Share → Bool) (shares : List Share) → AreShares shares → AreShares (filter test shares)
kept_shares test [] are = tt
kept_shares test (share ∷ shares) are =
    kept_share (test share) share (filter test shares) are.0 (kept_shares test shares are.1)

-- the shares of a namespace in the square of a block are read as the block's blobs of it, in the order of the block
pub block_read : BlobSharesAreNamed → UnitSharesAreNamed → PaddingIsNamed → (block : BlockParts) (name : Namespace)
    → is_blob_namespace name.0 ≡ true
    → IsSquare (block_square block) → AreShares (block_square block).shares → IsNamespace primary_reserved_padding
    → AllByRecursion IsBlob (in_order block.blobs)
    → ((shares : List Share) (blobs : List NamedBytes) → AreShares shares
    → (blobs_joined shares ≡ Ok blobs) ↔ AreBlobs shares blobs)
    → filter (has_name name) (in_order block.blobs) ≡ filter (has_name name) block.blobs
    → blobs_joined (shares_in (block_square block) name) ≡ Ok (filter (has_name name) block.blobs)
block_read of_blobs of_units of_padding block name blob whole are reserved blobs join stable =
    let kept : AreBlobs (filter (is_named name) (block_square block).shares)
    (filter (has_name name) (in_order block.blobs)) =
    subst (λ (s : List Share). AreBlobs s (filter (has_name name) (in_order block.blobs)))
    (sym (among_blobs of_units of_padding block name blob))
    (placed_part of_blobs of_padding name primary_reserved_padding (compact_end block) (in_order block.blobs) reserved blobs) in
    ap blobs_joined (shares_in_square (block_square block) name whole)
    ∙ (join (filter (is_named name) (block_square block).shares) (filter (has_name name) block.blobs)
    (kept_shares (is_named name) (block_square block).shares are)).1
    (subst (λ (l : List NamedBytes). AreBlobs (filter (is_named name) (block_square block).shares) l) stable kept)
