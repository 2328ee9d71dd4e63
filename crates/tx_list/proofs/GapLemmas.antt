-- Where the square of a list is that of a block.
use Rattle.std.proofs.Common.{true, false, cond, ◌≡◌, ◌∙◌, ◌⊎◌, ℕ, suc, ◌+◌, ◌-◌, ◌*◌, ◌≤◌, ◌==◌, min, Bool, List, [], ◌∷◌, ◌++◌, length, replicate, Option, Some, None, refl, sym, ap, ap₂, subst, arith, inl, inr, length-append}
use Rattle.std.specs.List.{AllByRecursion}
use Rattle.std.specs.Option.{option_or}
use Rattle.std.proofs.lemmas.Bool.{le-ltb}
use Rattle.std.proofs.lemmas.Bool.Decides.{nat_tests}
use Rattle.std.proofs.lemmas.List.{append-nil}
use Rattle.std.proofs.Math.Nat.{mul-le-mul_right}
use Rattle.namespace_id.specs.Cells.{is_width}
use Rattle.namespace_id.specs.Names.{is_blob_namespace, namespace_refusal, tail_padding}
use Rattle.namespace_id.specs.declared.shares.Share.{Share}
use Rattle.namespace_id.proofs.RefusalLemmas.{none_both}
use Rattle.share_split.specs.Blobs.{NamedBytes, version_of, blob_shares_of}
use Rattle.share_split.specs.Units.{unit_share_count}
use Rattle.share_split.specs.Joined.{padding_of, padding_share}
use Rattle.square_layout.specs.declared.laying.LayError.TheVariants.{BadBlob, EmptyBlob, TooLarge, WidthTooSmall, BadWidth}
use Rattle.square_layout.specs.Blocks.{BlockParts, HaveBytes, IsSquare}
use Rattle.square_layout.specs.Layout.{in_order, share_count_of, start_after, end_of, gap_behind, placed_behind, compact_end, laid, needed}
use Rattle.square_layout.specs.Refusals.{max_shares, most_named, bad_blob, empty_blob, width_refusal, size_refusal}
use Rattle.square_layout.specs.Plans.{PlanParts, front, lead, planned, plan_width}
use Rattle.square_layout.proofs.AcceptedLemmas.{accepted_is}
use Rattle.square_layout.proofs.LaidLemmas.{needed_is, square_fits}
use Rattle.square_layout.proofs.PlanLemmas.{gap, length-front}
use Rattle.tx_list.specs.Payments.{PaymentParts, ListParts, blobs_of, IsPayment}
use Rattle.tx_list.specs.Wrapped.{wrap_all}
use Rattle.tx_list.specs.Reserves.{list_reserve}
use Rattle.tx_list.specs.Lists.{plan_of_list, block_of_list, square_of_list}
use Rattle.tx_list.specs.Refusals.{list_size_refusal}
use Rattle.tx_list.specs.Gaps.{HaveNoSignedGap, HasNoSignedGap, TakesReserve, IsSquareOfBlock}
use Rattle.tx_list.proofs.ListLemmas.{payments_some, payments_named}
use Rattle.tx_list.proofs.SquareLemmas.{list_is_square}

-- ---- no gap behind a signed blob

-- before the next blob two kinds of padding are one, or there is none
abbrev Meets : Share → Share → ℕ → NamedBytes → Type 0
Meets one other end next = (one ≡ other) ⊎ (start_after end next ≡ end)

-- so it is before the first of some blobs, where there is one
abbrev MeetsFirst : Share → Share → ℕ → List NamedBytes → Type 0
MeetsFirst one other end [] = Unit {0}
MeetsFirst one other end (next ∷ blobs) = Meets one other end next

-- the padding behind a blob has version 0, or there is none
behind_meets : (signer : Option (List ℕ)) (end : ℕ) (blob next : NamedBytes) → blob.signer ≡ signer
    → ((bytes : List ℕ) → signer ≡ Some bytes → start_after end next ≡ end)
    → Meets (gap_behind true blob) (gap_behind false blob) end next
behind_meets None end blob next is gapless =
    inl (ap (λ (s : Option (List ℕ)). padding_of (version_of s) blob.namespace) is)
behind_meets (Some bytes) end blob next is gapless = inr (gapless bytes refl)

-- such padding before a blob is the same
padding_meets : (one other : Share) (end : ℕ) (next : NamedBytes) → Meets one other end next
    → replicate (start_after end next - end) one ≡ replicate (start_after end next - end) other
padding_meets one other end next (inl same) = ap (replicate (start_after end next - end)) same
padding_meets one other end next (inr none) =
    let zero_is : start_after end next - end ≡ 0 = omega (arith, none) in
    ap (λ (n : ℕ). replicate n one) zero_is ∙ sym (ap (λ (n : ℕ). replicate n other) zero_is)

-- behind the first blob the others have no such gap
gapless_on : (end : ℕ) (blob : NamedBytes) (blobs : List NamedBytes) → HaveNoSignedGap end (blob ∷ blobs)
    → HaveNoSignedGap (start_after end blob + share_count_of blob) blobs
unfolding end_of
gapless_on end blob blobs gapless before after signed next signer is has =
    gapless (blob ∷ before) after signed next signer (ap (λ (l : List NamedBytes). blob ∷ l) is) has

-- so the padding behind the first is before the second as it should be
meets_on : (end : ℕ) (blob : NamedBytes) (blobs : List NamedBytes) → HaveNoSignedGap end (blob ∷ blobs)
    → MeetsFirst (gap_behind true blob) (gap_behind false blob) (start_after end blob + share_count_of blob) blobs
unfolding end_of
meets_on end blob [] gapless = tt
meets_on end blob (next ∷ blobs) gapless =
    behind_meets blob.signer (start_after end blob + share_count_of blob) blob next refl
    (λ bytes has. gapless [] blobs blob next bytes refl has)

-- blobs without such a gap stand with padding of version 0 alone
placed_without : (one other : Share) (end : ℕ) (blobs : List NamedBytes) → MeetsFirst one other end blobs → HaveNoSignedGap end blobs
    → placed_behind true one end blobs ≡ placed_behind false other end blobs
unfolding placed_behind
placed_without one other end [] meets gapless = refl
placed_without one other end (blob ∷ blobs) meets gapless =
    let own : List Share = blob_shares_of blob.namespace blob.signer blob.bytes in
    let next : ℕ = start_after end blob + share_count_of blob in
    ap₂ (λ (l m : List Share). l ++ own ++ m) (padding_meets one other end blob meets)
    (placed_without (gap_behind true blob) (gap_behind false blob) next blobs (meets_on end blob blobs gapless)
    (gapless_on end blob blobs gapless))

-- ---- the layout

-- no padding in front of the first blob
lead_zero : (blobs : List NamedBytes) → lead 0 blobs ≡ []
unfolding lead
lead_zero [] = refl
lead_zero (blob ∷ blobs) = refl

meets_same : (share : Share) (end : ℕ) (blobs : List NamedBytes) → MeetsFirst share share end blobs
meets_same share end [] = tt
meets_same share end (next ∷ blobs) = inl refl

-- a list whose payments take as many shares as are reserved, without a gap behind a signed blob, is laid out as a block
list_is_laid : (list : ListParts) → TakesReserve list → HasNoSignedGap list → planned (plan_of_list list) ≡ laid (block_of_list list)
list_is_laid list full gapless =
    let plan : PlanParts = plan_of_list list in
    let block : BlockParts = block_of_list list in
    let order : List NamedBytes = in_order plan.blobs in
    let reserve : plan.reserve ≡ compact_end block = ap (λ (n : ℕ). unit_share_count list.units + n) (sym full) in
    let none : plan.reserve - length (front plan) ≡ 0 = omega (arith, length-front plan, reserve) in
    ap (λ (l : List Share). front plan ++ l ++ placed_behind true gap plan.reserve order)
    (ap (λ (n : ℕ). lead n plan.blobs) none ∙ lead_zero plan.blobs)
    ∙ ap (λ (l : List Share). l ++ placed_behind true gap plan.reserve order) (append-nil (front plan))
    ∙ ap (λ (l : List Share). front plan ++ l)
    (placed_without gap gap plan.reserve order (meets_same gap plan.reserve order) gapless
    ∙ ap (λ (n : ℕ). placed_behind false gap n order) reserve)

-- ---- no check refuses the block

no_bad_blob : (i : ℕ) (blobs : List NamedBytes) → AllByRecursion (λ blob. is_blob_namespace blob.namespace.0 ≡ true) blobs → bad_blob i blobs ≡ None
unfolding bad_blob
no_bad_blob i [] named = refl
no_bad_blob i (blob ∷ blobs) named =
    none_both (BadBlob i) (namespace_refusal blob.namespace.0) (bad_blob (suc i) blobs) (accepted_is blob.namespace.0 named.0)
    (no_bad_blob (suc i) blobs named.1)

has_some : (n : ℕ) → 1 ≤ n → (n == 0) ≡ false
has_some n h = grind (arith, nat_tests)

no_empty_blob : (i : ℕ) (blobs : List NamedBytes) → HaveBytes blobs → empty_blob i blobs ≡ None
unfolding empty_blob
no_empty_blob i [] some = refl
no_empty_blob i (blob ∷ blobs) some =
    ap (λ (b : Bool). cond b (Some (EmptyBlob i)) (empty_blob (suc i) blobs)) (has_some (length blob.bytes) some.0)
    ∙ no_empty_blob (suc i) blobs some.1

-- a width that holds so many shares isn't refused
size_passes : (k count : ℕ) → is_width k ≡ true → count ≤ k * k → size_refusal (Some k) count ≡ None
size_passes k count width fits =
    ap (λ (b : Bool). cond b (Some (TooLarge (min count most_named))) (width_refusal count k))
    (le-ltb max_shares count (omega (arith, fits, square_fits k width)))
    ∙ ap₂ (λ (a b : Bool). cond a (Some (WidthTooSmall count)) (cond b None (Some BadWidth))) (le-ltb (k * k) count fits) width

-- a square has a share
square_some : (k : ℕ) → is_width k ≡ true → 1 ≤ k * k
square_some k width =
    let one : 1 ≤ k = grind (arith, nat_tests) in omega (arith, one, mul-le-mul_right k one)

-- what is laid out fits into its square
laid_fits : (list : ListParts) → IsSquare (square_of_list list) → length (planned (plan_of_list list)) ≤ (square_of_list list).k * (square_of_list list).k
laid_fits list square =
    let plan : PlanParts = plan_of_list list in
    let tail : List Share = replicate (plan_width plan * plan_width plan - length (planned plan)) (padding_share tail_padding) in
    omega (arith, square.count, length-append (planned plan) tail)

-- ---- the square of a block

-- the square of such a list is that of its block
pub square_of_block : (list : ListParts) → AllByRecursion IsPayment list.payments → list_size_refusal list ≡ None → TakesReserve list → HasNoSignedGap list
    → IsSquareOfBlock list
square_of_block list payments fits full gapless =
    let plan : PlanParts = plan_of_list list in
    let block : BlockParts = block_of_list list in
    let k : ℕ = plan_width plan in
    let square : IsSquare (square_of_list list) = list_is_square list fits in
    let whole : planned plan ≡ laid block = list_is_laid list full gapless in
    let few : needed block ≤ k * k =
    omega (arith, needed_is block, ap (λ (l : List Share). length l) whole, laid_fits list square, square_some k square.width) in
    record {
      accepted = ap₂ option_or
          (ap₂ option_or (no_bad_blob 0 block.blobs (payments_named list.payments payments))
          (no_empty_blob 0 block.blobs (payments_some list.payments payments)))
          (size_passes k (needed block) square.width few);
      same = ap (λ (l : List Share). record { k = k; shares = l ++ replicate (k * k - length l) (padding_share tail_padding) }) (sym whole);
    }

-- ---- without payments

none_wrapped : (payments : List PaymentParts) (places others : List ℕ) → payments ≡ [] → wrap_all payments places ≡ wrap_all payments others
unfolding wrap_all
none_wrapped [] places others none = refl
none_wrapped (payment ∷ payments) places others none = absurd cc

none_ordered : (payments : List PaymentParts) → payments ≡ [] → in_order (blobs_of payments) ≡ []
unfolding in_order
none_ordered [] none = refl
none_ordered (payment ∷ payments) none = absurd cc

no_gap : (end : ℕ) (blobs : List NamedBytes) → blobs ≡ [] → HaveNoSignedGap end blobs
no_gap end blobs none before after signed next signer is has =
    absurd (omega (arith, ap (λ (l : List NamedBytes). length l) (sym none ∙ is), length-append before (signed ∷ next ∷ after)))

-- the square of a list without payments is that of its block
pub plain_is_block : (list : ListParts) → list.payments ≡ [] → list_size_refusal list ≡ None → IsSquareOfBlock list
plain_is_block list none fits =
    square_of_block list (subst (AllByRecursion IsPayment) (sym none) tt) fits
    (ap unit_share_count (none_wrapped list.payments _ _ none))
    (no_gap (list_reserve list) (in_order (blobs_of list.payments)) (none_ordered list.payments none))
