-- Lemmas on the shares of a square, one part behind another.
use Rattle.std.proofs.Common.{◌≡◌, ◌∙◌, ℕ, Bool, ◌+◌, ◌-◌, ◌≤◌, List, [], ◌∷◌, ◌++◌, length, replicate, sym, ap, ap₂, subst, arith, length-append, append_assoc}
use Rattle.std.proofs.lemmas.List.{length-replicate, append-nil}
use Rattle.namespace_id.specs.declared.shares.Share.{Share}
use Rattle.share_split.specs.Blobs.{NamedBytes, blob_shares_of}
use Rattle.share_split.proofs.Writing.BlobLaws.{length-blob_shares_of}
use Rattle.square_layout.specs.Layout.{share_count_of, start_after, end_of, gap_behind, placed_behind}
use Rattle.square_layout.proofs.PlaceLemmas.{start_after-ge, end_of-ge, end_of-next}

-- the padding before a blob, and its shares
abbrev pub piece_of : Share → ℕ → NamedBytes → List Share
piece_of before end blob =
    replicate (start_after end blob - end) before ++ blob_shares_of blob.namespace blob.signer blob.bytes

-- what is there, with them behind
abbrev pub put_behind : Share → NamedBytes → List Share → List Share
put_behind before blob out =
    out ++ replicate (start_after (length out) blob - length out) before ++ blob_shares_of blob.namespace blob.signer blob.bytes

-- what is put behind shares is the padding and the blob from their end on
put_behind-is : (before : Share) (blob : NamedBytes) (out : List Share) → put_behind before blob out ≡ out ++ piece_of before (length out) blob
put_behind-is before blob out =
    append_assoc out (replicate (start_after (length out) blob - length out) before) (blob_shares_of blob.namespace blob.signer blob.bytes)

-- the padding and the blob reach up to the end of the blob
length-piece_of : (before : Share) (end : ℕ) (blob : NamedBytes) → end + length (piece_of before end blob) ≡ start_after end blob + share_count_of blob
length-piece_of before end blob =
    let gap : List Share = replicate (start_after end blob - end) before in
    let own : List Share = blob_shares_of blob.namespace blob.signer blob.bytes in
    let long_gap : length gap ≡ start_after end blob - end = length-replicate (start_after end blob - end) before in
    let long_own : length own ≡ share_count_of blob = length-blob_shares_of blob.namespace blob.signer blob.bytes in
    omega (arith, long_gap, long_own, length-append gap own, start_after-ge end blob)

-- with one blob more the end is where it ends
put_end : (before : Share) (blob : NamedBytes) (out new : List Share)
    → new ≡ put_behind before blob out → length new ≡ start_after (length out) blob + share_count_of blob
put_end before blob out new n =
    ap length (n ∙ put_behind-is before blob out) ∙ length-append out (piece_of before (length out) blob) ∙ length-piece_of before (length out) blob

-- one blob more is there, and the others are left
pub put_on : (versioned : Bool) (before : Share) (blob : NamedBytes) (blobs others : List NamedBytes) (out new whole : List Share) → blobs ≡ blob ∷ others
    → new ≡ put_behind before blob out
    → out ++ placed_behind versioned before (length out) blobs ≡ whole
    → new ++ placed_behind versioned (gap_behind versioned blob) (length new) others ≡ whole
unfolding placed_behind
put_on versioned before blob blobs others out new whole left n so_far =
    let rest : List Share = placed_behind versioned (gap_behind versioned blob) (start_after (length out) blob + share_count_of blob) others in
    let gap : List Share = replicate (start_after (length out) blob - length out) before in
    let own : List Share = blob_shares_of blob.namespace blob.signer blob.bytes in
    ap₂ (λ (x : List Share) (e : ℕ). x ++ placed_behind versioned (gap_behind versioned blob) e others) (n ∙ put_behind-is before blob out) (put_end before blob out new n)
    ∙ append_assoc out (gap ++ own) rest
    ∙ sym (ap (λ (l : List NamedBytes). out ++ placed_behind versioned before (length out) l) left) ∙ so_far

-- where the blobs end after one more was put
pub put_end_of : (before : Share) (blob : NamedBytes) (blobs others : List NamedBytes) (out new : List Share) (most : ℕ) → blobs ≡ blob ∷ others
    → new ≡ put_behind before blob out
    → end_of (length out) blobs ≤ most → end_of (length new) others ≤ most
unfolding end_of
put_end_of before blob blobs others out new most left n h =
    subst (λ (e : ℕ). e ≤ most) (ap (end_of (length out)) left ∙ ap (λ (e : ℕ). end_of e others) (sym (put_end before blob out new n))) h

-- the next blob fits
pub next_fits : (blob : NamedBytes) (blobs others : List NamedBytes) (end most : ℕ) → blobs ≡ blob ∷ others
    → end_of end blobs ≤ most → start_after end blob + share_count_of blob ≤ most
next_fits blob blobs others end most left h =
    omega (arith, end_of-ge (start_after end blob + share_count_of blob) others, end_of-next end blob others, ap (end_of end) left, h)

-- nothing is left
pub put_all : (versioned : Bool) (before : Share) (blobs : List NamedBytes) (out whole : List Share) → blobs ≡ []
    → out ++ placed_behind versioned before (length out) blobs ≡ whole → out ≡ whole
unfolding placed_behind
put_all versioned before blobs out whole none so_far =
    sym (append-nil out) ∙ sym (ap (λ (l : List NamedBytes). out ++ placed_behind versioned before (length out) l) none) ∙ so_far
