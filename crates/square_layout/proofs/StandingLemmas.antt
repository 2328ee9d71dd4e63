-- Where each blob stands in a layout.
use Rattle.std.proofs.Common.{false, ◌≡◌, ◌∙◌, ℕ, ◌+◌, ◌-◌, ◌*◌, ◌%◌, ◌<◌, ◌≤◌, get_or, Some, List, [], ◌∷◌, ◌++◌, length, take, drop, replicate, refl, sym, ap, ap₂, arith, length-append, append_assoc}
use Rattle.std.specs.Int.{div_ceil}
use Rattle.std.proofs.Math.Seq.{take-append_seam, drop-append_seam}
use Rattle.std.proofs.Math.Nat.{mul-mod_left}
use Rattle.std.proofs.lemmas.List.{length-replicate, append-nil, get_or-append-add, get_or_append_left, get_or-replicate}
use Rattle.std.proofs.lemmas.Option.{slice_get-get_or}
use Rattle.std.specs.List.{slice_get}
use Rattle.namespace_id.specs.declared.namespaces.Namespace.{Namespace}
use Rattle.namespace_id.specs.declared.shares.Share.{Share}
use Rattle.namespace_id.specs.Names.{primary_reserved_padding, tail_padding}
use Rattle.share_split.specs.Widths.{subtree_width_of}
use Rattle.share_split.specs.Blobs.{NamedBytes, blob_shares_of}
use Rattle.share_split.specs.Joined.{padding_share}
use Rattle.square_layout.specs.Blocks.{BlockParts}
use Rattle.share_split.proofs.Writing.BlobLaws.{length-blob_shares_of}
use Rattle.square_layout.specs.Layout.{share_count_of, start_after, end_of, placed, placed_behind, last_name, padding_name, in_order, compact_part, compact_end, laid, width_for, block_square}
use Rattle.square_layout.proofs.PlaceLemmas.{start_after-ge, length-placed}
use Rattle.square_layout.proofs.LaidLemmas.{length-compact_part}

-- a blob starts at a multiple of its width
pub start_after-aligned : (end : ℕ) (blob : NamedBytes) → start_after end blob % subtree_width_of (share_count_of blob) ≡ 0
start_after-aligned end blob = mul-mod_left (div_ceil end (subtree_width_of (share_count_of blob))) (subtree_width_of (share_count_of blob))

-- the part in the middle
middle : (a b c : List Share) (at size : ℕ) → at ≡ length a → size ≡ length b → take size (drop at (a ++ b ++ c)) ≡ b
middle a b c at size ea eb =
    ap₂ (λ (n m : ℕ). take n (drop m (a ++ b ++ c))) eb ea
    ∙ ap (λ (l : List Share). take (length b) (drop (length a) l)) (append_assoc a b c)
    ∙ ap (take (length b)) (drop-append_seam a (b ++ c))
    ∙ take-append_seam b c

-- ---- the parts of a layout

-- some blobs, and others behind them
placed-append : (name : Namespace) (end : ℕ) (front back : List NamedBytes)
    → placed name end (front ++ back) ≡ placed name end front ++ placed (last_name name front) (end_of end front) back
unfolding placed_behind end_of last_name
placed-append name end [] back = refl
placed-append name end (first ∷ front) back =
    let next : ℕ = start_after end first + share_count_of first in
    let own : List Share = replicate (start_after end first - end) (padding_share name) ++ blob_shares_of first.namespace first.signer first.bytes in
    ap (λ (l : List Share). own ++ l) (placed-append first.namespace next front back)
    ∙ sym (append_assoc own (placed first.namespace next front) (placed (last_name first.namespace front) (end_of next front) back))

-- a blob, with padding before it and others behind
placed-cons : (name : Namespace) (end : ℕ) (blob : NamedBytes) (back : List NamedBytes)
    → placed name end (blob ∷ back)
    ≡ replicate (start_after end blob - end) (padding_share name)
    ++ (blob_shares_of blob.namespace blob.signer blob.bytes ++ placed blob.namespace (start_after end blob + share_count_of blob) back)
unfolding placed_behind
placed-cons name end blob back =
    append_assoc (replicate (start_after end blob - end) (padding_share name)) (blob_shares_of blob.namespace blob.signer blob.bytes)
    (placed blob.namespace (start_after end blob + share_count_of blob) back)

-- what precedes a blob in a layout, without the padding
abbrev pub before_of : BlockParts → List NamedBytes → List Share
before_of block front = compact_part block ++ placed primary_reserved_padding (compact_end block) front

-- what stands before a blob reaches up to where the blobs before it end
length-before_of : (block : BlockParts) (front : List NamedBytes) → length (before_of block front) ≡ end_of (compact_end block) front
length-before_of block front =
    length-append (compact_part block) (placed primary_reserved_padding (compact_end block) front)
    ∙ ap (λ (n : ℕ). n + length (placed primary_reserved_padding (compact_end block) front)) (length-compact_part block)
    ∙ length-placed false (padding_share primary_reserved_padding) (compact_end block) front

-- the padding before a blob
abbrev pub gap_of : BlockParts → List NamedBytes → NamedBytes → List Share
gap_of block front blob =
    replicate (start_after (end_of (compact_end block) front) blob - end_of (compact_end block) front) (padding_share (padding_name front))

-- what is behind a blob
abbrev pub behind_of : BlockParts → List NamedBytes → NamedBytes → List NamedBytes → List Share
behind_of block front blob back =
    placed blob.namespace (start_after (end_of (compact_end block) front) blob + share_count_of blob) back

-- a layout is what stands before a blob, its padding and shares, and the others
laid-parts : (block : BlockParts) (front back : List NamedBytes) (blob : NamedBytes) → in_order block.blobs ≡ front ++ blob ∷ back
    → laid block ≡ before_of block front ++ (gap_of block front blob ++ (blob_shares_of blob.namespace blob.signer blob.bytes ++ behind_of block front blob back))
laid-parts block front back blob e =
    let compact : List Share = compact_part block in
    let end : ℕ = compact_end block in
    let rest : List Share = gap_of block front blob ++ (blob_shares_of blob.namespace blob.signer blob.bytes ++ behind_of block front blob back) in
    ap (λ (l : List NamedBytes). compact ++ placed primary_reserved_padding end l) e
    ∙ ap (λ (l : List Share). compact ++ l)
    (placed-append primary_reserved_padding end front (blob ∷ back)
    ∙ ap (λ (l : List Share). placed primary_reserved_padding end front ++ l) (placed-cons (padding_name front) (end_of end front) blob back))
    ∙ sym (append_assoc compact (placed primary_reserved_padding end front) rest)

-- ---- what stands where

-- the compact shares stand in front
pub compact_stands : (block : BlockParts) → take (compact_end block) (laid block) ≡ compact_part block
compact_stands block =
    ap (λ (n : ℕ). take n (laid block)) (sym (length-compact_part block))
    ∙ take-append_seam (compact_part block) (placed primary_reserved_padding (compact_end block) (in_order block.blobs))

-- the shares of each blob stand where it starts
pub blob_stands : (block : BlockParts) (front back : List NamedBytes) (blob : NamedBytes) → in_order block.blobs ≡ front ++ blob ∷ back
    → take (share_count_of blob) (drop (start_after (end_of (compact_end block) front) blob) (laid block)) ≡ blob_shares_of blob.namespace blob.signer blob.bytes
blob_stands block front back blob e =
    let end : ℕ = end_of (compact_end block) front in
    let start : ℕ = start_after end blob in
    let before : List Share = before_of block front in
    let gap : List Share = gap_of block front blob in
    let mine : List Share = blob_shares_of blob.namespace blob.signer blob.bytes in
    let behind : List Share = behind_of block front blob back in
    let whole : laid block ≡ (before ++ gap) ++ mine ++ behind =
    laid-parts block front back blob e ∙ sym (append_assoc before gap (mine ++ behind)) ∙ sym (append_assoc (before ++ gap) mine behind) in
    let place : start ≡ length (before ++ gap) =
    omega (arith, length-append before gap, length-before_of block front, length-replicate (start - end) (padding_share (padding_name front)), start_after-ge end blob) in
    ap (λ (l : List Share). take (share_count_of blob) (drop start l)) whole
    ∙ middle (before ++ gap) mine behind start (share_count_of blob) place (sym (length-blob_shares_of blob.namespace blob.signer blob.bytes))

-- one of many alike, behind others
alike_stands : (before : List Share) (n : ℕ) (share : Share) (behind : List Share) (i : ℕ) → length before ≤ i → i < length before + n
    → slice_get (before ++ (replicate n share ++ behind)) i ≡ Some share
alike_stands before n share behind i from below =
    let place : i ≡ length before + (i - length before) = omega (arith, from) in
    let many : length (replicate n share) ≡ n = length-replicate n share in
    let inner : i - length before < length (replicate n share) = omega (arith, from, below, many) in
    let size : i < length (before ++ (replicate n share ++ behind)) =
    omega (arith, length-append before (replicate n share ++ behind), length-append (replicate n share) behind, many, below) in
    slice_get-get_or (before ++ (replicate n share ++ behind)) i share size
    ∙ ap Some
    (ap (λ (k : ℕ). get_or (before ++ (replicate n share ++ behind)) k share) place
    ∙ get_or-append-add before (replicate n share ++ behind) (i - length before) share
    ∙ get_or_append_left (replicate n share) behind share (i - length before) inner
    ∙ get_or-replicate n (i - length before) share share (omega (arith, inner, many)))

-- padding with the namespace of the blob before stands in a gap
pub gap_stands : (block : BlockParts) (front back : List NamedBytes) (blob : NamedBytes) (i : ℕ) → in_order block.blobs ≡ front ++ blob ∷ back
    → end_of (compact_end block) front ≤ i → i < start_after (end_of (compact_end block) front) blob
    → slice_get (laid block) i ≡ Some (padding_share (padding_name front))
gap_stands block front back blob i e from below =
    let end : ℕ = end_of (compact_end block) front in
    let size : length (before_of block front) ≡ end = length-before_of block front in
    ap (λ (l : List Share). slice_get l i) (laid-parts block front back blob e)
    ∙ alike_stands (before_of block front) (start_after end blob - end) (padding_share (padding_name front))
    (blob_shares_of blob.namespace blob.signer blob.bytes ++ behind_of block front blob back) i (omega (arith, size, from)) (omega (arith, size, from, below))

-- tail padding stands behind the layout
pub tail_stands : (block : BlockParts) (i : ℕ) → length (laid block) ≤ i → i < width_for block * width_for block
    → slice_get (block_square block).shares i ≡ Some (padding_share tail_padding)
tail_stands block i from below =
    let n : ℕ = width_for block * width_for block - length (laid block) in
    ap (λ (l : List Share). slice_get (laid block ++ l) i) (sym (append-nil (replicate n (padding_share tail_padding))))
    ∙ alike_stands (laid block) n (padding_share tail_padding) [] i from (omega (arith, from, below))
