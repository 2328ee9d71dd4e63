-- The blobs of a block that isn't refused: each has a byte, and no more than four bytes state.
use Rattle.std.proofs.Common.{◌≡◌, ℕ, ◌+◌, ◌≤◌, List, [], ◌∷◌, length, None, is_some, sym, ap, arith}
use Rattle.std.specs.List.{AllByRecursion}
use Rattle.share_split.specs.Blobs.{NamedBytes, IsNamed}
use Rattle.share_split.specs.Joined.{IsBlob}
use Rattle.share_split.specs.BlobLaws.{FewSharesHoldASequence}
use Rattle.square_layout.specs.Blocks.{BlockParts, IsBlock, HaveBytes}
use Rattle.square_layout.specs.Layout.{in_order, share_count_of, start_after, end_of, compact_end, needed, width_for}
use Rattle.square_layout.specs.Refusals.{bad_blob, empty_blob, blobs_refusal, max_shares, size_refusal, layout_refusal}
use Rattle.square_layout.proofs.AcceptedLemmas.{no_empty_blob, no_refusal}
use Rattle.square_layout.proofs.BlobOrderLemmas.{All-in_order}
use Rattle.square_layout.proofs.LaidLemmas.{end_fits, square_fits}
use Rattle.square_layout.proofs.PlaceLemmas.{end_of-ge}
use Rattle.square_layout.proofs.SquareLemmas.{size_passes}

-- ---- the shares of blobs

-- each blob takes no more shares than there are before the end of the last
counts_few : (end : ℕ) (blobs : List NamedBytes) (most : ℕ) → end_of end blobs ≤ most
    → AllByRecursion (λ blob. share_count_of blob ≤ most) blobs
unfolding end_of
counts_few end [] most few = tt
counts_few end (blob ∷ blobs) most few =
    let next : ℕ = start_after end blob + share_count_of blob in
    (omega (arith, end_of-ge next blobs, few), counts_few next blobs most few)

-- ---- blobs

-- bytes under a namespace are a blob, where there are some and the greatest square holds their shares
is_blob : FewSharesHoldASequence → (one : NamedBytes) → IsNamed one → 1 ≤ length one.bytes → share_count_of one ≤ max_shares → IsBlob one
is_blob law one named some held = record {
  name = named.name;
  some = λ none. (let zero : length one.bytes ≡ 0 = ap (λ (l : List ℕ). length l) none in
      absurd (omega (arith, some, zero)));
  few = law (length one.bytes) (is_some one.signer) held;
  fits = named.fits;
  signer = named.signer;
}

-- so it is with each of these
are_blobs : FewSharesHoldASequence → (blobs : List NamedBytes) → AllByRecursion IsNamed blobs → HaveBytes blobs
    → AllByRecursion (λ blob. share_count_of blob ≤ max_shares) blobs → AllByRecursion IsBlob blobs
are_blobs law [] named some held = tt
are_blobs law (one ∷ blobs) named some held =
    (is_blob law one named.0 some.0 held.0, are_blobs law blobs named.1 some.1 held.1)

-- the blobs of a block that isn't refused have bytes, and none takes more shares than the greatest square
pub laid_few : (block : BlockParts) → layout_refusal block ≡ None
    → HaveBytes block.blobs × AllByRecursion (λ blob. share_count_of blob ≤ max_shares) (in_order block.blobs)
laid_few block passes =
    let parts = no_refusal (blobs_refusal block.blobs) (size_refusal block.width (needed block)) (sym passes) in
    let size = size_passes block.width (needed block) parts.1 in
    let few : needed block ≤ max_shares = omega (arith, size.1, square_fits (width_for block) size.0) in (
      no_empty_blob 0 block.blobs (no_refusal (bad_blob 0 block.blobs) (empty_blob 0 block.blobs) (sym parts.0)).1,
      counts_few (compact_end block) (in_order block.blobs) max_shares (end_fits block max_shares few),
    )

-- the blobs of a block that isn't refused are blobs, in order too
pub ordered_are_blobs : FewSharesHoldASequence → (block : BlockParts) → layout_refusal block ≡ None → IsBlock block
    → AllByRecursion IsBlob (in_order block.blobs)
ordered_are_blobs law block passes is =
    let laid = laid_few block passes in
    are_blobs law (in_order block.blobs) (All-in_order IsNamed block.blobs is.blobs)
    (All-in_order (λ (blob : NamedBytes). 1 ≤ length blob.bytes) block.blobs laid.0) laid.1
