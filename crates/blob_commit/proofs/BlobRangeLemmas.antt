-- The range of a blob in the square of its block.
use Rattle.std.proofs.Common.{◌≡◌, ◌∙◌, ℕ, ◌+◌, ◌-◌, ◌*◌, ◌%◌, ◌<◌, ◌≤◌, min, ◌==◌, nat_lt, nat_le, None, List, ◌∷◌, ◌++◌, length, take, drop, replicate, true, sym, ap, arith, length-append, length-drop}
use Rattle.std.proofs.lemmas.List.{length-take, length-replicate, take-append-le, drop-append-le}
use Rattle.std.proofs.lemmas.Bool.{lt-ltb, le-leb, eq-eqb}
use Rattle.std.proofs.Math.Nat.{min-le_right}
use Rattle.namespace_id.specs.declared.shares.Share.{Share}
use Rattle.namespace_id.specs.Names.{tail_padding}
use Rattle.share_split.specs.Widths.{subtree_width_of}
use Rattle.share_split.specs.Blobs.{NamedBytes, blob_shares_of}
use Rattle.share_split.specs.Joined.{padding_share}
use Rattle.share_split.specs.BlobLaws.{BlobSharesAreCounted}
use Rattle.square_layout.specs.Blocks.{BlockParts, IsSquare}
use Rattle.square_layout.specs.Refusals.{layout_refusal}
use Rattle.square_layout.specs.Layout.{in_order, share_count_of, start_after, end_of, compact_end, laid, width_for, block_square}
use Rattle.nmt_proofs.proofs.Agreement.MadeLemmas.{and_true}
use Rattle.blob_commit.specs.Proofs.{is_range}

-- a part that is found whole behind a place ends in the list
ends_in : (n at : ℕ) (shares own : List Share) → take n (drop at shares) ≡ own → length own ≡ n → 0 < n → at + n ≤ length shares
ends_in n at shares own e count some =
    let whole : min n (length (drop at shares)) ≡ n = sym (length-take n (drop at shares)) ∙ ap length e ∙ count in
    let fits : n ≤ length (drop at shares) = omega (arith, whole, min-le_right n (length (drop at shares))) in
    omega (arith, fits, length-drop at shares, some)

-- the layout of a block fits into its square
layout_fits : (block : BlockParts) → IsSquare (block_square block) → length (laid block) ≤ width_for block * width_for block
layout_fits block whole =
    let k : ℕ = width_for block in
    let behind : ℕ = k * k - length (laid block) in
    omega (arith, whole.count, length-append (laid block) (replicate behind (padding_share tail_padding)), length-replicate behind (padding_share tail_padding))

module _ (counted : BlobSharesAreCounted)
    (stands : (block : BlockParts) (before after : List NamedBytes) (blob : NamedBytes)
    → in_order block.blobs ≡ before ++ blob ∷ after
    → take (share_count_of blob) (drop (start_after (end_of (compact_end block) before) blob) (laid block))
    ≡ blob_shares_of blob.namespace blob.signer blob.bytes) where
  -- a blob has a share
  some_shares : (blob : NamedBytes) → 0 < share_count_of blob
  some_shares blob = omega (arith, counted blob.namespace blob.signer blob.bytes)

  -- the shares of a blob end in the layout
  in_layout : (block : BlockParts) (before after : List NamedBytes) (blob : NamedBytes) → in_order block.blobs ≡ before ++ blob ∷ after
      → start_after (end_of (compact_end block) before) blob + share_count_of blob ≤ length (laid block)
  in_layout block before after blob e =
      ends_in (share_count_of blob) (start_after (end_of (compact_end block) before) blob) (laid block) (blob_shares_of blob.namespace blob.signer blob.bytes)
      (stands block before after blob e) (counted blob.namespace blob.signer blob.bytes) (some_shares blob)

  -- the range of a blob is one of which a proof is made
  pub blob_range : ((block : BlockParts) → layout_refusal block ≡ None → IsSquare (block_square block))
      → ((end : ℕ) (blob : NamedBytes) → start_after end blob % subtree_width_of (share_count_of blob) ≡ 0)
      → (block : BlockParts) (before after : List NamedBytes) (blob : NamedBytes) → layout_refusal block ≡ None
      → in_order block.blobs ≡ before ++ blob ∷ after
      → is_range (width_for block) (start_after (end_of (compact_end block) before) blob) (share_count_of blob) ≡ true
  blob_range square aligned block before after blob none e =
      let k : ℕ = width_for block in
      let start : ℕ = start_after (end_of (compact_end block) before) blob in
      let count : ℕ = share_count_of blob in
      let inside : start + count ≤ k * k = omega (arith, in_layout block before after blob e, layout_fits block (square block none)) in
      and_true (nat_lt 0 count) (nat_le (start + count) (k * k)) (start % subtree_width_of count == 0) (lt-ltb 0 count (some_shares blob)) (le-leb (start + count) (k * k) inside)
      (eq-eqb (start % subtree_width_of count) 0 (aligned (end_of (compact_end block) before) blob))

  -- and the square's shares in it are the blob's
  pub blob_shares_in : (block : BlockParts) (before after : List NamedBytes) (blob : NamedBytes) → in_order block.blobs ≡ before ++ blob ∷ after
      → take (share_count_of blob) (drop (start_after (end_of (compact_end block) before) blob) (block_square block).shares) ≡ blob_shares_of blob.namespace blob.signer blob.bytes
  blob_shares_in block before after blob e =
      let start : ℕ = start_after (end_of (compact_end block) before) blob in
      let count : ℕ = share_count_of blob in
      let padding : List Share = replicate (width_for block * width_for block - length (laid block)) (padding_share tail_padding) in
      let inside = in_layout block before after blob e in
      ap (take count) (drop-append-le start (laid block) padding (omega (arith, inside)))
      ∙ take-append-le count (drop start (laid block)) padding (omega (arith, inside, length-drop start (laid block)))
      ∙ stands block before after blob e
