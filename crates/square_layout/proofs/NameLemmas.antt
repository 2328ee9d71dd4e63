-- The namespaces of the shares of a square never fall.
use Rattle.std.proofs.Common.{◌≡◌, ◌∙◌, ℕ, zero, suc, ◌+◌, ◌-◌, Bool, true, ◌&&◌, List, [], ◌∷◌, ◌++◌, length, map, replicate, refl, sym, ap, subst, inl, inr, ⊎_elim, append_assoc}
use Rattle.std.specs.List.{AllByRecursion}
use Rattle.std.proofs.lemmas.List.{append-nil}
use Rattle.std.proofs.lemmas.Bool.{cases_Bool, true≢false}
use Rattle.namespace_id.specs.declared.namespaces.Namespace.{Namespace}
use Rattle.namespace_id.specs.declared.shares.Share.{Share}
use Rattle.namespace_id.specs.Lists.{holds_along}
use Rattle.namespace_id.specs.Names.{is_at_most, transaction, pay_for_blob, primary_reserved_padding, tail_padding}
use Rattle.namespace_id.proofs.OrderLemmas.{at_most_refl, at_most_trans, at_most_total}
use Rattle.namespace_id.specs.Shares.{name_in}
use Rattle.share_split.specs.Blobs.{version_of, NamedBytes, blob_shares_of}
use Rattle.share_split.specs.Units.{unit_shares_of}
use Rattle.share_split.specs.Joined.{padding_share}
use Rattle.square_layout.specs.Blocks.{BlockParts}
use Rattle.square_layout.specs.Layout.{put_in, in_order, start_after, share_count_of, placed, placed_behind, gap_behind, compact_end, laid}
use Rattle.square_layout.specs.Plans.{PlanParts, front, lead, planned}
use Rattle.std.specs.Int.{w32, to_be_bytes}
use Rattle.square_layout.specs.ShareNames.{AreNamed}
use Rattle.square_layout.proofs.ShareNameLemmas.{name_in-sequence_share, blob_shares_of-named, unit_shares_of-named, padding-named}
use Rattle.square_layout.proofs.BlobOrderLemmas.{All-in_order}

-- ---- shares whose namespaces never fall, from a namespace on

-- the namespaces of shares do not fall, and none is below this one
abbrev RiseFrom : Namespace → List Share → Type 0
RiseFrom low [] = Unit {0}
RiseFrom low (share ∷ shares) = (is_at_most low (name_in share) ≡ true) × RiseFrom (name_in share) shares

-- shares that rise from a namespace rise from a lower one
RiseFrom-lower : (low name : Namespace) (shares : List Share) → is_at_most low name ≡ true → RiseFrom name shares → RiseFrom low shares
RiseFrom-lower low name [] h k = tt
RiseFrom-lower low name (share ∷ shares) h k = (at_most_trans low name (name_in share) h k.0, k.1)

-- shares of one namespace, and others behind
RiseFrom-named : (low name : Namespace) (shares others : List Share) → is_at_most low name ≡ true → AreNamed name shares → RiseFrom name others → RiseFrom low (shares ++ others)
RiseFrom-named low name [] others h named k = RiseFrom-lower low name others h k
RiseFrom-named low name (share ∷ shares) others h named k = (
  subst (λ (n : Namespace). is_at_most low n ≡ true) (sym named.0) h,
  subst (λ (n : Namespace). RiseFrom n (shares ++ others)) (sym named.0) (RiseFrom-named name name shares others (at_most_refl name) named.1 k),
)

-- the namespaces of shares that rise do not fall
RiseFrom-along : (low : Namespace) (shares : List Share) → RiseFrom low shares → holds_along is_at_most (map name_in shares) ≡ true
unfolding holds_along
RiseFrom-along low [] h = refl
RiseFrom-along low (share ∷ []) h = refl
RiseFrom-along low (share ∷ next ∷ shares) h =
    let rest : holds_along is_at_most (map name_in (next ∷ shares)) ≡ true = RiseFrom-along (name_in share) (next ∷ shares) h.1 in
    ap (λ (b : Bool). b && holds_along is_at_most (map name_in (next ∷ shares))) h.1.0 ∙ rest

-- ---- blobs

-- a namespace between those of the padding before the first blob and behind everything
pub record IsBetween (blob : NamedBytes) : Type 0 where
  pub size : length blob.namespace.0 ≡ 29
  pub low : is_at_most primary_reserved_padding blob.namespace ≡ true
  pub high : is_at_most blob.namespace tail_padding ≡ true

-- blobs whose namespaces never fall, from a namespace on
abbrev BlobsRise : Namespace → List NamedBytes → Type 0
BlobsRise low [] = Unit {0}
BlobsRise low (blob ∷ blobs) = (is_at_most low blob.namespace ≡ true) × BlobsRise blob.namespace blobs

-- a blob that is put among rising ones leaves them rising
BlobsRise-put_in : (low : Namespace) (blob : NamedBytes) (blobs : List NamedBytes) → is_at_most low blob.namespace ≡ true → BlobsRise low blobs → BlobsRise low (put_in blob blobs)
unfolding put_in
BlobsRise-put_in low blob [] h k = (h, tt)
BlobsRise-put_in low blob (other ∷ others) h k = elim (cases_Bool (is_at_most blob.namespace other.namespace)) [
  | inl stays ↦ rw stays (h, (stays, k.1))
  | inr past ↦
      let above : is_at_most other.namespace blob.namespace ≡ true =
      ⊎_elim (λ (x : is_at_most blob.namespace other.namespace ≡ true). absurd (true≢false (sym x ∙ past))) (λ (x : is_at_most other.namespace blob.namespace ≡ true). x)
      (at_most_total blob.namespace other.namespace) in
      rw past (k.0, BlobsRise-put_in other.namespace blob others above k.1)
]

-- blobs in order rise from the reserved padding
BlobsRise-in_order : (blobs : List NamedBytes) → AllByRecursion IsBetween blobs → BlobsRise primary_reserved_padding (in_order blobs)
unfolding in_order
BlobsRise-in_order [] h = tt
BlobsRise-in_order (blob ∷ blobs) h = BlobsRise-put_in primary_reserved_padding blob (in_order blobs) h.0.low (BlobsRise-in_order blobs h.1)

-- the shares of blobs, and the padding behind them
RiseFrom-placed : (name : Namespace) (end : ℕ) (blobs : List NamedBytes) (count : ℕ) → length name.0 ≡ 29 → is_at_most name tail_padding ≡ true
    → AllByRecursion IsBetween blobs → BlobsRise name blobs → RiseFrom name (placed name end blobs ++ replicate count (padding_share tail_padding))
unfolding placed_behind
RiseFrom-placed name end [] count n high between up =
    subst (RiseFrom name) (append-nil (replicate count (padding_share tail_padding)))
    (RiseFrom-named name tail_padding (replicate count (padding_share tail_padding)) [] high (padding-named count tail_padding refl) tt)
RiseFrom-placed name end (blob ∷ blobs) count n high between up =
    let gap : List Share = replicate (start_after end blob - end) (padding_share name) in
    let own : List Share = blob_shares_of blob.namespace blob.signer blob.bytes in
    let others : List Share = placed blob.namespace (start_after end blob + share_count_of blob) blobs in
    let tail : List Share = replicate count (padding_share tail_padding) in
    let rest : RiseFrom blob.namespace (others ++ tail) =
    RiseFrom-placed blob.namespace (start_after end blob + share_count_of blob) blobs count between.0.size between.0.high between.1 up.1 in
    let grouped : gap ++ own ++ others ++ tail ≡ gap ++ (own ++ (others ++ tail)) = simp append_assoc in
    subst (RiseFrom name) (sym grouped)
    (RiseFrom-named name name gap (own ++ (others ++ tail)) (at_most_refl name) (padding-named (start_after end blob - end) name n)
    (RiseFrom-named name blob.namespace own (others ++ tail) up.0 (blob_shares_of-named blob.namespace blob.signer blob.bytes between.0.size) rest))

-- ---- the square

-- the layout of a block, and the padding behind it
pub names_rise : (block : BlockParts) (count : ℕ) → AllByRecursion IsBetween block.blobs
    → holds_along is_at_most (map name_in (laid block ++ replicate count (padding_share tail_padding))) ≡ true
names_rise block count between =
    let first : List Share = unit_shares_of transaction block.units in
    let second : List Share = unit_shares_of pay_for_blob block.pay_units in
    let others : List Share = placed primary_reserved_padding (compact_end block) (in_order block.blobs) in
    let tail : List Share = replicate count (padding_share tail_padding) in
    let rest : RiseFrom primary_reserved_padding (others ++ tail) =
    RiseFrom-placed primary_reserved_padding (compact_end block) (in_order block.blobs) count refl refl (All-in_order IsBetween block.blobs between)
    (BlobsRise-in_order block.blobs between) in
    let grouped : first ++ second ++ others ++ tail ≡ first ++ (second ++ (others ++ tail)) = simp append_assoc in
    RiseFrom-along transaction (laid block ++ tail)
    (subst (RiseFrom transaction) (sym grouped)
    (RiseFrom-named transaction transaction first (second ++ (others ++ tail)) refl (unit_shares_of-named transaction block.units refl)
    (RiseFrom-named transaction pay_for_blob second (others ++ tail) refl (unit_shares_of-named pay_for_blob block.pay_units refl)
    (RiseFrom-lower pay_for_blob primary_reserved_padding (others ++ tail) refl rest))))

-- ---- the square of a plan

-- padding behind a blob has its namespace
gap_behind-named : (blob : NamedBytes) → length blob.namespace.0 ≡ 29 → name_in (gap_behind true blob) ≡ blob.namespace
gap_behind-named blob n = name_in-sequence_share blob.namespace (version_of blob.signer) true (to_be_bytes w32 0) [] n

-- a share of a namespace, so many times
alike-named : (count : ℕ) (name : Namespace) (share : Share) → name_in share ≡ name → AreNamed name (replicate count share)
alike-named zero name share h = tt
alike-named (suc count) name share h = (h, alike-named count name share h)

-- the padding in front of the first blob
lead-named : (count : ℕ) (blobs : List NamedBytes) → AreNamed primary_reserved_padding (lead count blobs)
unfolding lead
lead-named count [] = tt
lead-named count (blob ∷ blobs) = padding-named count primary_reserved_padding refl

-- the shares of blobs, and the padding behind them
RiseFrom-placed_behind : (name : Namespace) (gap : Share) (end : ℕ) (blobs : List NamedBytes) (count : ℕ) → name_in gap ≡ name
    → is_at_most name tail_padding ≡ true → AllByRecursion IsBetween blobs → BlobsRise name blobs
    → RiseFrom name (placed_behind true gap end blobs ++ replicate count (padding_share tail_padding))
unfolding placed_behind
RiseFrom-placed_behind name gap end [] count n high between up =
    subst (RiseFrom name) (append-nil (replicate count (padding_share tail_padding)))
    (RiseFrom-named name tail_padding (replicate count (padding_share tail_padding)) [] high (padding-named count tail_padding refl) tt)
RiseFrom-placed_behind name gap end (blob ∷ blobs) count n high between up =
    let before : List Share = replicate (start_after end blob - end) gap in
    let own : List Share = blob_shares_of blob.namespace blob.signer blob.bytes in
    let others : List Share = placed_behind true (gap_behind true blob) (start_after end blob + share_count_of blob) blobs in
    let tail : List Share = replicate count (padding_share tail_padding) in
    let rest : RiseFrom blob.namespace (others ++ tail) =
    RiseFrom-placed_behind blob.namespace (gap_behind true blob) (start_after end blob + share_count_of blob) blobs count
    (gap_behind-named blob between.0.size) between.0.high between.1 up.1 in
    let grouped : before ++ own ++ others ++ tail ≡ before ++ (own ++ (others ++ tail)) = simp append_assoc in
    subst (RiseFrom name) (sym grouped)
    (RiseFrom-named name name before (own ++ (others ++ tail)) (at_most_refl name) (alike-named (start_after end blob - end) name gap n)
    (RiseFrom-named name blob.namespace own (others ++ tail) up.0 (blob_shares_of-named blob.namespace blob.signer blob.bytes between.0.size) rest))

-- the namespaces of a plan's square never fall
pub plan_names_rise : (plan : PlanParts) (count : ℕ) → AllByRecursion IsBetween plan.blobs
    → holds_along is_at_most (map name_in (planned plan ++ replicate count (padding_share tail_padding))) ≡ true
plan_names_rise plan count between =
    let first : List Share = unit_shares_of transaction plan.units in
    let second : List Share = unit_shares_of pay_for_blob plan.pay_units in
    let before : List Share = lead (plan.reserve - length (front plan)) plan.blobs in
    let others : List Share = placed_behind true (padding_share primary_reserved_padding) plan.reserve (in_order plan.blobs) in
    let tail : List Share = replicate count (padding_share tail_padding) in
    let rest : RiseFrom primary_reserved_padding (others ++ tail) =
    RiseFrom-placed_behind primary_reserved_padding (padding_share primary_reserved_padding) plan.reserve (in_order plan.blobs) count
    (name_in-sequence_share primary_reserved_padding 0 true (to_be_bytes w32 0) [] refl) refl (All-in_order IsBetween plan.blobs between)
    (BlobsRise-in_order plan.blobs between) in
    let grouped : first ++ second ++ before ++ others ++ tail ≡ first ++ (second ++ (before ++ (others ++ tail))) = simp append_assoc in
    RiseFrom-along transaction (planned plan ++ tail)
    (subst (RiseFrom transaction) (sym grouped)
    (RiseFrom-named transaction transaction first (second ++ (before ++ (others ++ tail))) refl (unit_shares_of-named transaction plan.units refl)
    (RiseFrom-named transaction pay_for_blob second (before ++ (others ++ tail)) refl (unit_shares_of-named pay_for_blob plan.pay_units refl)
    (RiseFrom-lower pay_for_blob primary_reserved_padding (before ++ (others ++ tail)) refl
    (RiseFrom-named primary_reserved_padding primary_reserved_padding before (others ++ tail) (at_most_refl primary_reserved_padding)
    (lead-named (plan.reserve - length (front plan)) plan.blobs) rest)))))
