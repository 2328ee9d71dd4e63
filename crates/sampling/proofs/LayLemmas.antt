-- A generated block has a square of the width that it asks for.
use Rattle.std.proofs.Common.{◌≡◌, ◌∙◌, ℕ, suc, ◌+◌, ◌-◌, ◌*◌, ◌/◌, ◌^◌, ◌≤◌, List, [], ◌∷◌, length, Bool, true, false, ◌==◌, min, if◌then◌else◌, refl, sym, ap, ap₂, inl, inr, arith}
use Rattle.std.specs.Prelude.{Option, Some, None, nat_lt, nat_le}
use Rattle.std.specs.Option.{option_or, option_map_or}
use Rattle.std.specs.List.{AllByRecursion}
use Rattle.std.proofs.lemmas.Bool.{cases_lt, leb-true}
use Rattle.std.proofs.lemmas.Nat.{mul-le, pow-add}
use Rattle.std.proofs.Math.Pow.{pow_mono}
use Rattle.std.proofs.lemmas.Bool.Decides.{nat_tests}
use Rattle.namespace_id.specs.declared.namespaces.NsError.{NsError}
use Rattle.namespace_id.specs.Names.{is_at_most}
use Rattle.namespace_id.specs.Cells.{is_width}
use Rattle.namespace_id.specs.Powers.{halvings}
use Rattle.namespace_id.proofs.WidthLemmas.{is_width-le, is_width-pos}
use Rattle.namespace_id.proofs.PowerLemmas.{width_power, power_halvings, halvings-le}
use Rattle.namespace_id.proofs.TestLemmas.{passes_below, passes_below-at, where_holds, where_holds-true}
use Rattle.share_split.specs.Blobs.{NamedBytes}
use Rattle.share_split.specs.Units.{unit_share_count}
use Rattle.share_split.specs.Widths.{subtree_width_of}
use Rattle.square_layout.specs.declared.laying.LayError.{LayError}
use Rattle.square_layout.specs.declared.laying.LayError.TheVariants.{BadBlob, EmptyBlob, BadWidth, TooLarge, WidthTooSmall}
use Rattle.square_layout.specs.Blocks.{BlockParts}
use Rattle.square_layout.specs.Layout.{put_in, in_order, share_count_of, start_after, end_of, compact_end, needed}
use Rattle.square_layout.specs.Refusals.{bad_blob, empty_blob, size_refusal, width_refusal, max_shares, most_named, layout_refusal}
use Rattle.square_layout.proofs.PlaceLemmas.{start_after-near}
use Rattle.square_layout.proofs.LaidLemmas.{square_fits}
use Rattle.square_layout.proofs.BlobOrderLemmas.{All-in_order}
use Rattle.sampling.specs.Generated.{blobs_at, made_unit, units_at, after_units, blob_count, made_block}
use Rattle.sampling.proofs.FittingLemmas.{Fits, blobs_fit, length-blobs_at, narrow, made_unit_share}

-- ---- blobs pass

-- no namespace is refused
bad-none : (k : ℕ) (blobs : List NamedBytes) (i : ℕ) → AllByRecursion (Fits k) blobs → bad_blob i blobs ≡ None
unfolding bad_blob
bad-none k [] i all = refl
bad-none k (blob ∷ blobs) i all =
    ap (λ (o : Option NsError). option_map_or (λ (e : NsError). Some (BadBlob i e)) o
    (bad_blob (suc i) blobs)) all.0.named ∙ bad-none k blobs (suc i) all.1

-- no blob is empty
empty-none : (k : ℕ) (blobs : List NamedBytes) (i : ℕ) → AllByRecursion (Fits k) blobs → empty_blob i blobs ≡ None
unfolding empty_blob
empty-none k [] i all = refl
empty-none k (blob ∷ blobs) i all =
    let has : (length blob.bytes == 0) ≡ false = grind (arith, nat_tests, all.0.some) in
    ap (λ (b : Bool). if b then Some (EmptyBlob i) else empty_blob (suc i) blobs) has ∙ empty-none k blobs (suc i) all.1

-- ---- blobs in order

-- they are one more
length-put_in : (blob : NamedBytes) (blobs : List NamedBytes) → length (put_in blob blobs) ≡ suc (length blobs)
unfolding put_in
length-put_in blob [] = refl
length-put_in blob (other ∷ others) =
    elim (is_at_most blob.namespace other.namespace) as (λ b. length (if b then blob ∷ other ∷ others else other ∷ put_in blob others) ≡ suc (suc (length others))) [
      | true ↦ refl
      | false ↦ ap suc (length-put_in blob others)
    ]

-- and as many in order
length-in_order : (blobs : List NamedBytes) → length (in_order blobs) ≡ length blobs
unfolding in_order
length-in_order [] = refl
length-in_order (blob ∷ blobs) = length-put_in blob (in_order blobs) ∙ ap suc (length-in_order blobs)

-- ---- where they end

-- the most shares that padding may take before a blob of at most so many shares: one less than the widest
-- subtree, of which 64 hold them
abbrev pub gap_of : ℕ → ℕ
gap_of k = if nat_le k 64 then 0 else k / 64 - 1

-- the subtrees of a blob are wider by no more
widest : (k count : ℕ) → is_width k ≡ true → count ≤ k → subtree_width_of count ≤ 1 + gap_of k
widest k count width few =
    let power : 2 ^ halvings k ≡ k = power_halvings k (width_power k width) in
    elim (cases_lt 64 k) [
      | inl above ↦
          let gap : gap_of k ≡ k / 64 - 1 = grind (arith, nat_tests) in
          let deep : 6 ≤ halvings k = elim (cases_lt (halvings k) 6) [
            | inl lt ↦
                let le : halvings k ≤ 6 = omega (arith, lt) in
                let up : 2 ^ halvings k ≤ 2 ^ 6 = pow_mono le in absurd (omega (arith, up, power, above))
            | inr ge ↦ ge
          ] in
          let j : ℕ = halvings k - 6 in
          let sum : halvings k ≡ j + 6 = omega (arith, deep) in
          let times : k ≡ 2 ^ j * 64 = sym power ∙ ap (λ (d : ℕ). 2 ^ d) sum ∙ pow-add 2 j 6 in
          omega (arith, gap, times, narrow count j (omega (arith, halvings-le k)) (omega (arith, few, times)), above)
      | inr within ↦
          let gap : gap_of k ≡ 0 = grind (arith, nat_tests) in
          omega (arith, gap, narrow count 0 (omega arith) (omega (arith, few, within)))
    ]

-- a blob starts at most so far behind what precedes it
start_near : (k end : ℕ) (blob : NamedBytes) → is_width k ≡ true → share_count_of blob ≤ k → start_after end blob ≤ end + gap_of k
start_near k end blob width few = omega (arith, start_after-near end blob, widest k (share_count_of blob) width few)

-- blobs of at most k shares each end at most so far behind what precedes them
end_near : (k : ℕ) (blobs : List NamedBytes) (end : ℕ) → is_width k ≡ true → AllByRecursion (Fits k) blobs
    → end_of end blobs ≤ end + length blobs * (k + gap_of k)
unfolding end_of
end_near k [] end width all = omega arith
end_near k (blob ∷ blobs) end width all =
    let own : ℕ = k + gap_of k in
    let rest : end_of (start_after end blob + share_count_of blob) blobs ≤ start_after end blob + share_count_of blob + length blobs * own =
    end_near k blobs (start_after end blob + share_count_of blob) width all.1 in
    let more : suc (length blobs) * own ≡ own + length blobs * own = omega arith in
    omega (arith, rest, more, start_near k end blob width all.0.few, all.0.few)

-- ---- all fits

-- how many compact shares a block of a width has
abbrev pub compact_of : ℕ → ℕ
compact_of k = if nat_le 2 k then 1 else 0

-- the units of one kind take so many
units_share : (k : ℕ) (key : List ℕ) (place : ℕ) → unit_share_count (units_at k key place) ≡ compact_of k
units_share k key place = elim (nat_le 2 k) as (λ b. unit_share_count (if b then made_unit key place ∷ [] else []) ≡ (if b then 1 else 0)) [
  | true ↦ made_unit_share key place
  | false ↦ refl
]

-- the most shares of a block of a width
abbrev pub most_of : ℕ → ℕ
most_of k = compact_of k + compact_of k + blob_count k * (k + gap_of k)

-- whether a square of a width has so many
abbrev has_most : ℕ → Bool
has_most k = nat_le (most_of k) (k * k)

-- computed for each width
most_test : passes_below 513 (λ k. where_holds (is_width k) (has_most k)) ≡ true
unfolding passes_below
most_test = refl

-- so for each width
most_fits : (k : ℕ) → is_width k ≡ true → most_of k ≤ k * k
most_fits k width =
    leb-true (most_of k) (k * k)
    (where_holds-true (is_width k) (has_most k)
    (passes_below-at 513 (λ k. where_holds (is_width k) (has_most k)) most_test k (omega (arith, is_width-le k width))) width)

-- a number of shares that a square of a width holds is none that is refused
size-none : (k count : ℕ) → is_width k ≡ true → count ≤ k * k → size_refusal (Some k) count ≡ None
size-none k count width h =
    let square : k * k ≤ max_shares = square_fits k width in
    let small : nat_lt max_shares count ≡ false = grind (arith, nat_tests) in
    let holds : nat_lt (k * k) count ≡ false = grind (arith, nat_tests) in
    ap (λ (b : Bool). if b then Some (TooLarge (min count most_named)) else width_refusal count k) small
    ∙ ap (λ (b : Bool). if b then Some (WidthTooSmall count) else (if is_width k then None else Some BadWidth)) holds
    ∙ ap (λ (b : Bool). if b then None else Some BadWidth) width

-- a layout that ends within a square needs no more than the square
needed_fits : (end most : ℕ) → end ≤ most → 1 ≤ most → (if end == 0 then 1 else end) ≤ most
needed_fits end most h some = elim (end == 0) as (λ b. (if b then 1 else end) ≤ most) [
  | true ↦ some
  | false ↦ h
]

-- a square has a share
square_some : (k : ℕ) → 1 ≤ k → 1 ≤ k * k
square_some k some = mul-le 1 1 k k some some

-- a block that is made is laid out
pub made_lays : (k : ℕ) (key : List ℕ) → is_width k ≡ true → layout_refusal (made_block k key) ≡ None
made_lays k key width =
    let some : 1 ≤ k = is_width-pos k width in
    let from : ℕ = after_units k key (after_units k key 0) in
    let blobs : List NamedBytes = blobs_at k key from (blob_count k) in
    let all : AllByRecursion (Fits k) blobs = blobs_fit k key (blob_count k) from some in
    let compact : compact_end (made_block k key) ≡ compact_of k + compact_of k =
    ap₂ (λ (m n : ℕ). m + n) (units_share k key 0) (units_share k key (after_units k key 0)) in
    let long : length (in_order blobs) ≡ blob_count k =
    length-in_order blobs ∙ length-blobs_at k key (blob_count k) from in
    let near : end_of (compact_end (made_block k key)) (in_order blobs) ≤ compact_end (made_block k key) + length
    (in_order blobs) * (k + gap_of k) =
    end_near k (in_order blobs) (compact_end (made_block k key)) width (All-in_order (Fits k) blobs all) in
    let width_of : length (in_order blobs) * (k + gap_of k) ≡ blob_count k * (k + gap_of k) =
    ap (λ (n : ℕ). n * (k + gap_of k)) long in
    let end : end_of (compact_end (made_block k key)) (in_order blobs) ≤ k * k =
    omega (arith, near, width_of, compact, most_fits k width) in
    ap (λ (o : Option LayError). option_or (option_or o (empty_blob 0 blobs))
    (size_refusal (Some k) (needed (made_block k key)))) (bad-none k blobs 0 all)
    ∙ ap (λ (o : Option LayError). option_or o (size_refusal (Some k) (needed (made_block k key))))
    (empty-none k blobs 0 all)
    ∙ size-none k (needed (made_block k key)) width (needed_fits (end_of (compact_end (made_block k key)) (in_order blobs)) (k * k) end (square_some k some))

-- the parts of a block that is made
pub block_is : (k : ℕ) (key : List ℕ) (units pay_units : List (List ℕ)) (blobs : List NamedBytes)
    → units ≡ units_at k key 0
    → pay_units ≡ units_at k key (after_units k key 0)
    → blobs ≡ blobs_at k key (after_units k key (after_units k key 0)) (blob_count k)
    → (let block : BlockParts = record { units = units; pay_units = pay_units; blobs = blobs; width = Some k } in block ≡ made_block k key)
block_is k key units pay_units blobs is_units is_pay_units is_blobs =
    ap₂ (λ (u p : List (List ℕ)). record { units = u; pay_units = p; blobs = blobs; width = Some k }) is_units is_pay_units
    ∙ ap (λ (b : List NamedBytes). record {
      units = units_at k key 0;
      pay_units = units_at k key
          (after_units k key 0);
      blobs = b;
      width = Some k;
    }) is_blobs
