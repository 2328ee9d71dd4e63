-- The square of a block is a square, and its shares are shares.
use Rattle.std.proofs.Common.{◌≡◌, ◌∙◌, ℕ, zero, suc, ◌+◌, ◌-◌, ◌*◌, ◌^◌, ◌<◌, ◌≤◌, nat_le, nat_lt, min, Bool, true, false, if◌then◌else◌, List, [], ◌∷◌, ◌++◌, length, replicate, Option, Some, None, refl, sym, ap, arith, inl, inr, mul_assoc, mul_comm}
use Rattle.std.specs.List.{AllByRecursion}
use Rattle.std.specs.Option.{option_map_or}
use Rattle.std.proofs.Math.Nat.{pow-suc, one-le-pow}
use Rattle.std.proofs.lemmas.Bool.{cases_Bool}
use Rattle.std.proofs.lemmas.Bool.Decides.{nat_tests}
use Rattle.std.proofs.lemmas.Nat.{mul-le}
use Rattle.namespace_id.specs.declared.shares.Share.{Share}
use Rattle.namespace_id.specs.Cells.{is_width}
use Rattle.namespace_id.specs.Sizes.{greatest_width, most_shares}
use Rattle.namespace_id.specs.Names.{IsNamespace, transaction, pay_for_blob, primary_reserved_padding, tail_padding}
use Rattle.namespace_id.specs.Shares.{IsShare, AreShares}
use Rattle.namespace_id.proofs.StringLemmas.{AreBytes-append, AreBytes-replicate}
use Rattle.share_split.specs.Blobs.{NamedBytes, IsNamed, version_of, blob_shares_of}
use Rattle.share_split.specs.Units.{unit_shares_of}
use Rattle.share_split.specs.Joined.{padding_share}
use Rattle.share_split.proofs.Writing.BlobLaws.{version_of-low, blob_shares_are_shares, gap_is_share, padding_is_share}
use Rattle.share_split.proofs.Writing.UnitLaws.{unit_shares_are_shares}
use Rattle.square_layout.specs.declared.laying.LayError.{LayError}
use Rattle.square_layout.specs.declared.laying.LayError.TheVariants.{TooLarge, WidthTooSmall, BadWidth}
use Rattle.square_layout.specs.Blocks.{BlockParts, IsBlock, IsSquare}
use Rattle.namespace_id.specs.Doublings.{least_doubling}
use Rattle.namespace_id.proofs.DoublingLemmas.{least_doubling-suc, least_doubling-found}
use Rattle.namespace_id.proofs.ShareLemmas.{AreShares-append}
use Rattle.namespace_id.proofs.RefusalLemmas.{if_none}
use Rattle.square_layout.specs.Layout.{in_order, share_count_of, start_after, gap_behind, placed, placed_behind, compact_end, laid, needed, holds_shares, holding_from, width_for, block_square}
use Rattle.square_layout.specs.Plans.{PlanParts, IsPlan, bound, front, lead, planned, plan_width, square_of_plan}
use Rattle.square_layout.specs.Refusals.{max_shares, most_named, blobs_refusal, width_refusal, size_refusal, layout_refusal}
use Rattle.square_layout.proofs.AcceptedLemmas.{no_refusal}
use Rattle.square_layout.proofs.BlobOrderLemmas.{All-in_order}
use Rattle.square_layout.proofs.LaidLemmas.{length-padded, laid_fits}
use Rattle.square_layout.proofs.PlanLemmas.{planned_fits}
use Rattle.square_layout.proofs.LeastWidthLemmas.{holding_holds}
use Rattle.square_layout.proofs.SizeLemmas.{is_width-double}

-- ---- the square is one

-- a width doubled has one doubling less before it
width-doubled : (k more : ℕ) → k * 2 ^ suc more ≡ greatest_width → k * 2 * 2 ^ more ≡ greatest_width
width-doubled k more last =
    let twice : 2 ^ suc more ≡ 2 ^ more * 2 = pow-suc 2 more in
    mul_assoc k 2 (2 ^ more) ∙ ap (λ (n : ℕ). k * n) (mul_comm 2 (2 ^ more) ∙ sym twice) ∙ last

-- a width of which so many doublings give the greatest is below it
below_last : (k more : ℕ) → k * 2 ^ suc more ≡ greatest_width → k < greatest_width
below_last k more last =
    let two : 2 ≤ 2 ^ suc more = omega (arith, pow-suc 2 more, one-le-pow more 2 (omega arith)) in
    let grows : k * 2 ≤ k * 2 ^ suc more = mul-le k 2 k (2 ^ suc more) (omega arith) two in
    omega (arith, grows, last)

-- of some widths the one that is found is a width
holding_from-width : (more k count : ℕ) → is_width k ≡ true → k * 2 ^ more ≡ greatest_width → is_width (holding_from more k count) ≡ true
unfolding least_doubling
holding_from-width zero k count one last = one
holding_from-width (suc more) k count one last = elim (cases_Bool (nat_le count (k * k))) [
  | inl enough ↦ ap is_width (least_doubling-found (holds_shares count) (suc more) k enough) ∙ one
  | inr small ↦
      ap is_width (least_doubling-suc (holds_shares count) more k small)
      ∙ holding_from-width more (k * 2) count (is_width-double k one (below_last k more last)) (width-doubled k more last)
]

-- the least width is one
pub least_is_width : (count : ℕ) → is_width (holding_from 9 1 count) ≡ true
least_is_width count = holding_from-width 9 1 count refl refl

-- a test that refuses where it fails has passed
if_passes : (b : Bool) (e : LayError) → (if b then None else Some e) ≡ None → b ≡ true
if_passes true e h = refl
if_passes false e h = absurd cc

-- a width that isn't refused holds the shares
pub size_passes : (width : Option ℕ) (count : ℕ) → size_refusal width count ≡ None
    → (is_width (option_map_or (λ k. k) width (holding_from 9 1 count)) ≡ true)
    × (count ≤ option_map_or (λ k. k) width (holding_from 9 1 count) * option_map_or (λ k. k) width (holding_from 9 1 count))
size_passes None count h =
    let fits = if_none (nat_lt max_shares count) (TooLarge (min count most_named)) None h in
    let few : count ≤ most_shares = grind (arith, nat_tests, fits.0) in
    (least_is_width count, holding_holds count few)
size_passes (Some k) count h =
    let fits = if_none (nat_lt max_shares count) (TooLarge (min count most_named)) (width_refusal count k) h in
    let asked = if_none (nat_lt (k * k) count) (WidthTooSmall count) (if is_width k then None else Some BadWidth) fits.1 in
    let holds : count ≤ k * k = grind (arith, nat_tests, asked.0) in
    (if_passes (is_width k) BadWidth asked.1, holds)

-- the square of a block that is not refused is a square
pub square_is_square : (block : BlockParts) → layout_refusal block ≡ None → IsSquare (block_square block)
square_is_square block none =
    let size = no_refusal (blobs_refusal block.blobs) (size_refusal block.width (needed block)) (sym none) in
    let k : ℕ = width_for block in
    let passes = size_passes block.width (needed block) size.1 in
    record {
      width = passes.0;
      count = length-padded (laid block) (padding_share tail_padding) (k * k) (laid_fits block (k * k) passes.1);
    }

-- ---- its shares are shares

-- a share, so many times, is shares
AreShares-replicate : (n : ℕ) (share : Share) → IsShare share → AreShares (replicate n share)
AreShares-replicate zero share h = tt
AreShares-replicate (suc n) share h = (h, AreShares-replicate n share h)

-- the namespaces of padding and of units
pub low_is_namespace : (byte : ℕ) → byte < 256 → IsNamespace (record { 0 = replicate 28 0 ++ byte ∷ [] })
low_is_namespace byte h = record {
  size_is = refl;
  fits = AreBytes-append (replicate 28 0) (replicate 1 byte) (AreBytes-replicate 28 0 (omega arith)) (AreBytes-replicate 1 byte h);
}

-- the namespace of tail padding is one
pub tail_is_namespace : IsNamespace tail_padding
tail_is_namespace = record {
  size_is = refl;
  fits = AreBytes-append (replicate 28 0xFF) (replicate 1 0xFE) (AreBytes-replicate 28 0xFF (omega arith)) (AreBytes-replicate 1 0xFE (omega arith));
}

-- the version of the padding behind a blob
abbrev pub gap_version : Bool → NamedBytes → ℕ
gap_version versioned blob = if versioned then version_of blob.signer else 0

pub gap_version-low : (versioned : Bool) (blob : NamedBytes) → gap_version versioned blob ≤ 1
gap_version-low versioned blob = elim versioned as (λ b. (if b then version_of blob.signer else 0) ≤ 1) [
  | true ↦ version_of-low blob.signer
  | false ↦ omega arith
]

-- the padding before the first blob is a share
low_padding_is_share : IsShare (padding_share primary_reserved_padding)
low_padding_is_share = padding_is_share primary_reserved_padding (low_is_namespace 0xFF (omega arith))

-- placed blobs and their padding are shares
placed-shares_law : (versioned : Bool) (before : Share) (end : ℕ) (blobs : List NamedBytes) → IsShare before → AllByRecursion IsNamed blobs
    → AreShares (placed_behind versioned before end blobs)
unfolding placed_behind
placed-shares_law versioned before end [] is all = tt
placed-shares_law versioned before end (blob ∷ blobs) is all =
    let gap : List Share = replicate (start_after end blob - end) before in
    let own : List Share = blob_shares_of blob.namespace blob.signer blob.bytes in
    let others : List Share = placed_behind versioned (gap_behind versioned blob) (start_after end blob + share_count_of blob) blobs in
    AreShares-append (gap ++ own) others
    (AreShares-append gap own (AreShares-replicate (start_after end blob - end) before is)
    (blob_shares_are_shares blob.namespace blob.signer blob.bytes all.0.name all.0.signer all.0.fits))
    (placed-shares_law versioned (gap_behind versioned blob) (start_after end blob + share_count_of blob) blobs
    (gap_is_share (gap_version versioned blob) blob.namespace (gap_version-low versioned blob) all.0.name) all.1)

-- a square has shares
pub square_has_shares : (block : BlockParts) → IsBlock block → AreShares (block_square block).shares
square_has_shares block is =
    let units : List Share = unit_shares_of transaction block.units in
    let pay_units : List Share = unit_shares_of pay_for_blob block.pay_units in
    let blobs : List Share = placed primary_reserved_padding (compact_end block) (in_order block.blobs) in
    let rest : ℕ = width_for block * width_for block - length (laid block) in
    AreShares-append (laid block) (replicate rest (padding_share tail_padding))
    (AreShares-append (units ++ pay_units) blobs
    (AreShares-append units pay_units (unit_shares_are_shares transaction block.units (low_is_namespace 1 (omega arith)) is.units)
    (unit_shares_are_shares pay_for_blob block.pay_units (low_is_namespace 4 (omega arith)) is.pay_units))
    (placed-shares_law false (padding_share primary_reserved_padding) (compact_end block) (in_order block.blobs) low_padding_is_share
    (All-in_order IsNamed block.blobs is.blobs)))
    (AreShares-replicate rest (padding_share tail_padding) (padding_is_share tail_padding tail_is_namespace))

-- ---- the square of a plan

-- it is a square
pub plan_is_square : (plan : PlanParts) → length (front plan) ≤ plan.reserve → bound plan ≤ max_shares → IsSquare (square_of_plan plan)
plan_is_square plan room few =
    let k : ℕ = plan_width plan in
    let fits : length (planned plan) ≤ k * k = omega (arith, planned_fits plan room, holding_holds (bound plan) few) in
    record {
      width = least_is_width (bound plan);
      count = length-padded (planned plan) (padding_share tail_padding) (k * k) fits;
    }

-- the padding in front of the first blob is shares
lead-shares_law : (count : ℕ) (blobs : List NamedBytes) → AreShares (lead count blobs)
unfolding lead
lead-shares_law count [] = tt
lead-shares_law count (blob ∷ blobs) = AreShares-replicate count (padding_share primary_reserved_padding) low_padding_is_share

-- the square of a plan of bytes has shares
pub plan_has_shares : (plan : PlanParts) → IsPlan plan → AreShares (square_of_plan plan).shares
plan_has_shares plan is =
    let units : List Share = unit_shares_of transaction plan.units in
    let pay_units : List Share = unit_shares_of pay_for_blob plan.pay_units in
    let first : List Share = lead (plan.reserve - length (front plan)) plan.blobs in
    let blobs : List Share = placed_behind true (padding_share primary_reserved_padding) plan.reserve (in_order plan.blobs) in
    let rest : ℕ = plan_width plan * plan_width plan - length (planned plan) in
    AreShares-append (planned plan) (replicate rest (padding_share tail_padding))
    (AreShares-append (units ++ pay_units ++ first) blobs
    (AreShares-append (units ++ pay_units) first
    (AreShares-append units pay_units (unit_shares_are_shares transaction plan.units (low_is_namespace 1 (omega arith)) is.units)
    (unit_shares_are_shares pay_for_blob plan.pay_units (low_is_namespace 4 (omega arith)) is.pay_units))
    (lead-shares_law (plan.reserve - length (front plan)) plan.blobs))
    (placed-shares_law true (padding_share primary_reserved_padding) plan.reserve (in_order plan.blobs) low_padding_is_share
    (All-in_order IsNamed plan.blobs is.blobs)))
    (AreShares-replicate rest (padding_share tail_padding) (padding_is_share tail_padding tail_is_namespace))
