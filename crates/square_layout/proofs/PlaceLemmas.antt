-- Lemmas on where blobs start and end.
use Rattle.std.proofs.Common.{◌≡◌, ◌∙◌, ℕ, zero, suc, ◌+◌, ◌-◌, ◌*◌, ◌^◌, ◌<◌, ◌≤◌, Bool, true, false, if◌then◌else◌, List, [], ◌∷◌, ◌++◌, length, replicate, refl, sym, ap, arith, length-append}
use Rattle.std.proofs.Math.Nat.{pow-succ', mul_assoc, le-mul_of_pos_right}
use Rattle.std.proofs.lemmas.Nat.{pow_pos}
use Rattle.std.proofs.lemmas.Grind.{div_ceil_times}
use Rattle.std.proofs.lemmas.List.{length-replicate}
use Rattle.namespace_id.specs.declared.shares.Share.{Share}
use Rattle.namespace_id.specs.Doublings.{least_doubling}
use Rattle.share_split.specs.Widths.{is_wide_enough, width_from, subtree_width_of}
use Rattle.share_split.specs.Blobs.{NamedBytes, blob_shares_of}
use Rattle.share_split.proofs.Writing.BlobLaws.{length-blob_shares_of}
use Rattle.square_layout.specs.Layout.{share_count_of, start_after, end_of, gap_behind, placed_behind}

-- ---- the start of a blob

-- no width of subtrees is 0
width_from-some : (more width count : ℕ) → 0 < width → 0 < width_from more width count
unfolding least_doubling
width_from-some zero width count h = h
width_from-some (suc more) width count h = elim (is_wide_enough count width) as (λ b. 0 < (if b then width else width_from more (width * 2) count)) [
  | true ↦ h
  | false ↦ width_from-some more (width * 2) count (omega (arith, h))
]

-- a subtree has a width
pub width_of-some : (count : ℕ) → 0 < subtree_width_of count
width_of-some count = width_from-some 28 1 count (omega arith)

-- a width isn't greater than the last of those that are tried
width_from-most : (more width count : ℕ) → width_from more width count ≤ width * 2 ^ more
unfolding least_doubling
width_from-most zero width count = omega arith
width_from-most (suc more) width count =
    let whole : width * 2 ^ suc more ≡ width * 2 * 2 ^ more =
    ap (λ (n : ℕ). width * n) (pow-succ' 2 more) ∙ sym (mul_assoc width 2 (2 ^ more)) in
    elim (is_wide_enough count width) as (λ b. (if b then width else width_from more (width * 2) count) ≤ width * 2 ^ suc more) [
      | true ↦ le-mul_of_pos_right width (pow_pos (suc more))
      | false ↦ omega (arith, whole, width_from-most more (width * 2) count)
    ]

-- a subtree is at most so wide
pub width_of-most : (count : ℕ) → subtree_width_of count ≤ 2 ^ 28
width_of-most count = omega (arith, width_from-most 28 1 count)

-- a blob starts no earlier than what precedes it ends, and by less than a width later
pub start_after-ge : (end : ℕ) (blob : NamedBytes) → end ≤ start_after end blob
start_after-ge end blob = (div_ceil_times end (subtree_width_of (share_count_of blob)) (width_of-some (share_count_of blob))).0

-- a blob starts less than the width of its subtrees behind what precedes it
pub start_after-near : (end : ℕ) (blob : NamedBytes) → start_after end blob < end + subtree_width_of (share_count_of blob)
start_after-near end blob = (div_ceil_times end (subtree_width_of (share_count_of blob)) (width_of-some (share_count_of blob))).1

-- ---- the ends

-- blobs end where they begin, or behind
pub end_of-ge : (end : ℕ) (blobs : List NamedBytes) → end ≤ end_of end blobs
unfolding end_of
end_of-ge end [] = omega arith
end_of-ge end (blob ∷ blobs) = omega (arith, start_after-ge end blob, end_of-ge (start_after end blob + share_count_of blob) blobs)

-- the first blob, and then the others
pub end_of-next : (end : ℕ) (blob : NamedBytes) (blobs : List NamedBytes) → end_of end (blob ∷ blobs) ≡ end_of (start_after end blob + share_count_of blob) blobs
unfolding end_of
end_of-next end blob blobs = refl

-- ---- how many shares there are

-- the shares of placed blobs reach up to their end
pub length-placed : (versioned : Bool) (before : Share) (end : ℕ) (blobs : List NamedBytes)
    → end + length (placed_behind versioned before end blobs) ≡ end_of end blobs
unfolding placed_behind end_of
length-placed versioned before end [] = omega arith
length-placed versioned before end (blob ∷ blobs) =
    let gap : List Share = replicate (start_after end blob - end) before in
    let own : List Share = blob_shares_of blob.namespace blob.signer blob.bytes in
    let others : List Share = placed_behind versioned (gap_behind versioned blob) (start_after end blob + share_count_of blob) blobs in
    let later = start_after-ge end blob in
    let long_gap : length gap ≡ start_after end blob - end = length-replicate (start_after end blob - end) before in
    let long_own : length own ≡ share_count_of blob = length-blob_shares_of blob.namespace blob.signer blob.bytes in
    let all : length (gap ++ own ++ others) ≡ length gap + length own + length others =
    length-append (gap ++ own) others ∙ ap (λ (n : ℕ). n + length others) (length-append gap own) in
    let rest : start_after end blob + share_count_of blob + length others ≡ end_of (start_after end blob + share_count_of blob) blobs =
    length-placed versioned (gap_behind versioned blob) (start_after end blob + share_count_of blob) blobs in
    omega (arith, all, long_gap, long_own, rest, later)
