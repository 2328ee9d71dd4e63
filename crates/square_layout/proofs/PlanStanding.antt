-- Where each blob stands in a plan.
use Rattle.std.proofs.Common.{true, ◌≡◌, ◌∙◌, ℕ, ◌+◌, ◌-◌, ◌≤◌, List, [], ◌∷◌, ◌++◌, length, take, drop, replicate, refl, sym, ap, ap₂, arith, length-append, append_assoc}
use Rattle.std.proofs.Math.Seq.{take-append_seam, drop-append_seam}
use Rattle.std.proofs.lemmas.List.{length-replicate}
use Rattle.namespace_id.specs.declared.shares.Share.{Share}
use Rattle.share_split.specs.Blobs.{NamedBytes, blob_shares_of}
use Rattle.share_split.proofs.Writing.BlobLaws.{length-blob_shares_of}
use Rattle.square_layout.specs.Layout.{in_order, share_count_of, start_after, end_of, gap_behind, placed_behind}
use Rattle.square_layout.specs.Plans.{PlanParts, front, lead, planned}
use Rattle.square_layout.proofs.PlaceLemmas.{start_after-ge, end_of-ge, length-placed}
use Rattle.square_layout.proofs.PlanLemmas.{gap, lead-in_order}

-- ---- blobs in a plan

-- the padding behind some blobs
unfoldable last_gap : Share → List NamedBytes → Share
last_gap before [] = before
last_gap before (blob ∷ blobs) = last_gap (gap_behind true blob) blobs

-- some blobs, and others behind them
placed-append : (before : Share) (end : ℕ) (some others : List NamedBytes)
    → placed_behind true before end (some ++ others)
    ≡ placed_behind true before end some ++ placed_behind true (last_gap before some) (end_of end some) others
unfolding placed_behind end_of last_gap
placed-append before end [] others = refl
placed-append before end (blob ∷ some) others =
    let next : ℕ = start_after end blob + share_count_of blob in
    let own : List Share = replicate (start_after end blob - end) before ++ blob_shares_of blob.namespace blob.signer blob.bytes in
    ap (λ (l : List Share). own ++ l) (placed-append (gap_behind true blob) next some others)
    ∙ sym (append_assoc own (placed_behind true (gap_behind true blob) next some)
    (placed_behind true (last_gap (gap_behind true blob) some) (end_of next some) others))

-- a blob, with padding before it and others behind
placed-cons : (before : Share) (end : ℕ) (blob : NamedBytes) (others : List NamedBytes)
    → placed_behind true before end (blob ∷ others)
    ≡ replicate (start_after end blob - end) before
    ++ (blob_shares_of blob.namespace blob.signer blob.bytes
    ++ placed_behind true (gap_behind true blob) (start_after end blob + share_count_of blob) others)
unfolding placed_behind
placed-cons before end blob others =
    append_assoc (replicate (start_after end blob - end) before) (blob_shares_of blob.namespace blob.signer blob.bytes)
    (placed_behind true (gap_behind true blob) (start_after end blob + share_count_of blob) others)

-- the part in the middle
middle : (a b c : List Share) (at size : ℕ) → at ≡ length a → size ≡ length b → take size (drop at (a ++ b ++ c)) ≡ b
middle a b c at size ea eb =
    ap₂ (λ (n m : ℕ). take n (drop m (a ++ b ++ c))) eb ea
    ∙ ap (λ (l : List Share). take (length b) (drop (length a) l)) (append_assoc a b c)
    ∙ ap (take (length b)) (drop-append_seam a (b ++ c))
    ∙ take-append_seam b c

-- the padding in front of a blob
lead_of : (some others : List NamedBytes) (blob : NamedBytes) (count : ℕ) → lead count (some ++ blob ∷ others) ≡ replicate count gap
unfolding lead
lead_of [] others blob count = refl
lead_of (first ∷ some) others blob count = refl

-- where there is a blob, what stands before the first place is as long as that
length-lead : (plan : PlanParts) (some others : List NamedBytes) (blob : NamedBytes) → length (front plan) ≤ plan.reserve
    → in_order plan.blobs ≡ some ++ blob ∷ others
    → length (front plan ++ lead (plan.reserve - length (front plan)) plan.blobs) ≡ plan.reserve
length-lead plan some others blob room is =
    let count : ℕ = plan.reserve - length (front plan) in
    let same : lead count plan.blobs ≡ replicate count gap =
    lead-in_order count plan.blobs ∙ ap (lead count) is ∙ lead_of some others blob count in
    omega (arith, length-append (front plan) (lead count plan.blobs), ap (λ (l : List Share). length l) same, length-replicate count gap, room)

-- the shares of each blob stand where it starts
pub plan_stands : (plan : PlanParts) (some others : List NamedBytes) (blob : NamedBytes) → length (front plan) ≤ plan.reserve
    → in_order plan.blobs ≡ some ++ blob ∷ others
    → take (share_count_of blob) (drop (start_after (end_of plan.reserve some) blob) (planned plan)) ≡ blob_shares_of blob.namespace blob.signer blob.bytes
plan_stands plan some others blob room is =
    let first : List Share = front plan ++ lead (plan.reserve - length (front plan)) plan.blobs in
    let end : ℕ = end_of plan.reserve some in
    let start : ℕ = start_after end blob in
    let earlier : List Share = placed_behind true gap plan.reserve some in
    let padding : List Share = replicate (start - end) (last_gap gap some) in
    let mine : List Share = blob_shares_of blob.namespace blob.signer blob.bytes in
    let behind : List Share = placed_behind true (gap_behind true blob) (start + share_count_of blob) others in
    let whole : planned plan ≡ (first ++ (earlier ++ padding)) ++ mine ++ behind =
    ap (λ (l : List NamedBytes). first ++ placed_behind true gap plan.reserve l) is
    ∙ ap (λ (l : List Share). first ++ l)
    (placed-append gap plan.reserve some (blob ∷ others)
    ∙ ap (λ (l : List Share). earlier ++ l) (placed-cons (last_gap gap some) end blob others)
    ∙ sym (append_assoc earlier padding (mine ++ behind)))
    ∙ sym (append_assoc first (earlier ++ padding) (mine ++ behind))
    ∙ sym (append_assoc (first ++ (earlier ++ padding)) mine behind) in
    let place : start ≡ length (first ++ (earlier ++ padding)) =
    omega (
      arith,
      length-append first (earlier ++ padding),
      length-append earlier padding,
      length-lead plan some others blob room is,
      length-placed true gap plan.reserve some,
      length-replicate (start - end) (last_gap gap some),
      start_after-ge end blob,
      end_of-ge plan.reserve some,
    ) in
    ap (λ (l : List Share). take (share_count_of blob) (drop start l)) whole
    ∙ middle (first ++ (earlier ++ padding)) mine behind start (share_count_of blob) place (sym (length-blob_shares_of blob.namespace blob.signer blob.bytes))
