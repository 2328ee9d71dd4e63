-- A list whose blobs may take more shares than a square has isn't laid out as that square.
use Rattle.std.proofs.Common.{true, false, cond, ◌≡◌, ◌∙◌, ℕ, suc, ◌+◌, ◌-◌, ◌*◌, ◌<◌, ◌≤◌, ◌==◌, ◌&&◌, ◌||◌, nat_lt, nat_le, min, not, Bool, List, [], ◌∷◌, ◌++◌, length, drop, map, Option, Some, None, option_map, refl, sym, ap, ap₂, arith, inl, inr}
use Rattle.std.specs.List.{AllByRecursion, flat_map, list_all}
use Rattle.std.specs.Option.{is_some, option_or}
use Rattle.std.proofs.Math.Nat.{mul-le-mul_left, mul-le-mul_right}
use Rattle.std.proofs.lemmas.Bool.{cases_Bool, cases_lt, ne_eqb}
use Rattle.std.proofs.lemmas.Bool.Decides.{nat_tests}
use Rattle.std.proofs.lemmas.List.{length-map}
use Rattle.std.proofs.lemmas.List.Folds.{list_all-append}
use Rattle.namespace_id.specs.declared.namespaces.NsError.{NsError}
use Rattle.namespace_id.specs.declared.namespaces.NsError.TheVariants.{Length}
use Rattle.namespace_id.specs.declared.shares.Share.{Share}
use Rattle.namespace_id.specs.Names.{namespace_refusal}
use Rattle.namespace_id.specs.Shares.{AreShares}
use Rattle.namespace_id.specs.Sizes.{namespace_size}
use Rattle.share_split.specs.Blobs.{NamedBytes, version_of, signer_bytes}
use Rattle.share_split.specs.Units.{unit_share_count}
use Rattle.share_split.specs.Walks.{units_of}
use Rattle.square_layout.specs.Blocks.{SquareShares}
use Rattle.square_layout.specs.Plans.{blobs_bound}
use Rattle.square_layout.specs.Refusals.{max_shares, most_named}
use Rattle.square_layout.proofs.LeastWidthLemmas.{holding_holds}
use Rattle.tx_list.specs.declared.measuring.Measure.{Measure}
use Rattle.tx_list.specs.declared.refusals.BackError.{BackError}
use Rattle.tx_list.specs.declared.refusals.BackError.TheVariants.{Units, Payments, Unlike}
use Rattle.tx_list.specs.declared.refusals.ListError.{ListError}
use Rattle.tx_list.specs.declared.refusals.ListError.TheVariants.{Behind, NoBlobs, BadBlob, BadVersion, NoBytes, TooLarge}
use Rattle.tx_list.specs.Payments.{PaymentParts, ListParts, blobs_of}
use Rattle.tx_list.specs.Reserves.{wrap_full, list_bound}
use Rattle.tx_list.specs.Spelled.{blob_spelling, payment_spelling, spelled_list}
use Rattle.tx_list.specs.Reads.{payment_entries, is_payment, stated, list_of}
use Rattle.tx_list.specs.ReadRefusals.{has_version, blob_refusal, blobs_refusal, payment_refusal, transaction_refusal, transactions_refusal, read_refusal}
use Rattle.tx_list.specs.Refusals.{list_size_refusal}
use Rattle.tx_list.specs.Lists.{square_of_list}
use Rattle.tx_list.specs.BackRefusals.{first_front, second_front, front_refusal, front_units, payment_at, wrappers_refusal, back_list, part_refusal, first_unlike, unlike_at, laid_refusal, back_refusal}
use Rattle.tx_list.specs.Measures.{is_named_again, measure_of, HaveLengths, full_of, bound_with, has_square}
use Rattle.tx_list.proofs.SpelledBlobLemmas.{IsStatable, said, blob_is_stated, version_passes}
use Rattle.tx_list.proofs.SpelledListLemmas.{IsStatablePayment, entries_read, statable_is_payment}
use Rattle.tx_list.proofs.StatedLemmas.{payment_again, joined_list, list_again, joined_bound, all_statable_payments}
use Rattle.tx_list.proofs.FullLemmas.{full-append, full_units, some_blobs, wrapper_parts}

-- ---- whether a blob that was spelled is refused

-- by its name alone
abbrev blob_by : ℕ → ℕ → Option NsError → Bool → Bool → Option ListError
blob_by i j name versioned empty =
    option_or (option_map (λ why. BadBlob i j why) name) (cond (not versioned) (Some (BadVersion i j)) (cond empty (Some (NoBytes i j)) None))

name_alone : (i j : ℕ) (name : Option NsError) → is_some (blob_by i j name true false) ≡ not (not (is_some name))
name_alone i j None = refl
name_alone i j (Some why) = refl

some_is : (n : ℕ) → 1 ≤ n → (n == 0) ≡ false
some_is n h = grind (arith, nat_tests)

blob_refused : (i j : ℕ) (blob : NamedBytes) → IsStatable blob → is_some (blob_refusal i j (stated (blob_spelling blob))) ≡ not (is_named_again blob)
blob_refused i j blob is =
    let id : List ℕ = drop 1 blob.namespace.0 in
    let size : (length id == namespace_size - 1) ≡ true = ap (λ (n : ℕ). n == namespace_size - 1) is.id in
    let version : has_version (version_of blob.signer) (signer_bytes blob.signer) ≡ true = version_passes blob.signer is.signer in
    let some : (length blob.bytes == 0) ≡ false = some_is (length blob.bytes) is.some in
    let same : blob_refusal i j (said id blob.bytes blob.signer) ≡ blob_by i j (namespace_refusal (0 ∷ id)) true false =
    ap₂ (λ (a : Bool) (b : Bool). blob_by i j (cond (not a) (Some Length) (namespace_refusal (0 ∷ id))) b (length blob.bytes == 0)) size version
    ∙ ap (λ (c : Bool). blob_by i j (namespace_refusal (0 ∷ id)) true c) some in
    ap (λ (b : Bool). b) (ap is_some (ap (blob_refusal i j) (blob_is_stated blob is) ∙ same)) ∙ name_alone i j (namespace_refusal (0 ∷ id))

or_some : (first others : Option ListError) → is_some (option_or first others) ≡ (is_some first || is_some others)
or_some None others = refl
or_some (Some why) others = refl

not_both : (a b : Bool) → (not a || not b) ≡ not (a && b)
not_both true b = refl
not_both false b = refl

blobs_refused : (i j : ℕ) (blobs : List NamedBytes) → AllByRecursion IsStatable blobs
    → is_some (blobs_refusal i j (map blob_spelling blobs)) ≡ not (list_all is_named_again blobs)
unfolding blobs_refusal
blobs_refused i j [] all = refl
blobs_refused i j (blob ∷ blobs) all =
    or_some (blob_refusal i j (stated (blob_spelling blob))) (blobs_refusal i (suc j) (map blob_spelling blobs))
    ∙ ap₂ (λ (a b : Bool). a || b) (blob_refused i j blob all.0) (blobs_refused i (suc j) blobs all.1)
    ∙ not_both (is_named_again blob) (list_all is_named_again blobs)

-- ---- whether a payment is

abbrev transaction_by : ℕ → Bool → Bool → List ℕ → Option ListError
transaction_by i paid is bytes = cond is (payment_refusal i (payment_entries bytes)) (cond paid (Some (Behind i)) None)

payment_refused : (i : ℕ) (paid : Bool) (payment : PaymentParts) → IsStatablePayment payment → 1 ≤ length payment.blobs
    → is_some (transaction_refusal i paid (payment_spelling payment)) ≡ not (list_all is_named_again payment.blobs)
payment_refused i paid payment is some =
    let entries : List (List ℕ) = map blob_spelling payment.blobs in
    let there : (length entries == 0) ≡ false = some_is (length entries) (omega (arith, length-map payment.blobs blob_spelling, some)) in
    let read : transaction_refusal i paid (payment_spelling payment) ≡ blobs_refusal i 0 entries =
    ap (λ (b : Bool). transaction_by i paid b (payment_spelling payment)) (statable_is_payment payment is)
    ∙ ap (payment_refusal i) (entries_read payment is)
    ∙ ap (λ (b : Bool). cond b (Some (NoBlobs i)) (blobs_refusal i 0 entries)) there in
    ap is_some read ∙ blobs_refused i 0 payment.blobs is.blobs

-- each payment has a blob
abbrev pub HaveBlobs : List PaymentParts → Type 0
HaveBlobs payments = AllByRecursion (λ payment. 1 ≤ length payment.blobs) payments

payments_refused : (i : ℕ) (paid : Bool) (payments : List PaymentParts) → AllByRecursion IsStatablePayment payments → HaveBlobs payments
    → is_some (transactions_refusal i paid (map payment_spelling payments)) ≡ not (list_all is_named_again (blobs_of payments))
unfolding transactions_refusal
payments_refused i paid [] all some = refl
payments_refused i paid (payment ∷ payments) all some =
    let next : Bool = paid || is_payment (payment_spelling payment) in
    or_some (transaction_refusal i paid (payment_spelling payment)) (transactions_refusal (suc i) next (map payment_spelling payments))
    ∙ ap₂ (λ (a b : Bool). a || b) (payment_refused i paid payment all.0 some.0) (payments_refused (suc i) next payments all.1 some.1)
    ∙ not_both (list_all is_named_again payment.blobs) (list_all is_named_again (blobs_of payments))
    ∙ ap not (sym (list_all-append is_named_again payment.blobs (blobs_of payments)))

or_three : (a b c : Bool) → (a || (b || c)) ≡ ((a || b) || c)
or_three true b c = refl
or_three false b c = refl

-- transactions with payments behind them are refused for their own, or for a name
behind_refused : (i : ℕ) (paid : Bool) (plain : List (List ℕ)) (payments : List PaymentParts) → AllByRecursion IsStatablePayment payments → HaveBlobs payments
    → is_some (transactions_refusal i paid (plain ++ map payment_spelling payments))
    ≡ (is_some (transactions_refusal i paid plain) || not (list_all is_named_again (blobs_of payments)))
unfolding transactions_refusal
behind_refused i paid [] payments all some = payments_refused i paid payments all some
behind_refused i paid (one ∷ plain) payments all some =
    let first : Option ListError = transaction_refusal i paid one in
    let next : Bool = paid || is_payment one in
    or_some first (transactions_refusal (suc i) next (plain ++ map payment_spelling payments))
    ∙ ap (λ (b : Bool). is_some first || b) (behind_refused (suc i) next plain payments all some)
    ∙ or_three (is_some first) (is_some (transactions_refusal (suc i) next plain)) (not (list_all is_named_again (blobs_of payments)))
    ∙ ap (λ (b : Bool). b || not (list_all is_named_again (blobs_of payments))) (sym (or_some first (transactions_refusal (suc i) next plain)))

-- ---- their size

-- as many shares as was counted
bound_is : (shares : List Share) (plain units : List (List ℕ)) → wrappers_refusal 0 shares units ≡ None
    → list_bound (joined_list plain (map (payment_at shares) units)) ≡ bound_with (list_of plain) units (blobs_bound (blobs_of (map (payment_at shares) units)))
bound_is shares plain units passed =
    let payments : List PaymentParts = map (payment_at shares) units in
    let some : List PaymentParts = (list_of plain).payments in
    let full : wrap_full (some ++ map payment_again payments) ≡ wrap_full some ++ flat_map full_of units =
    full-append some (map payment_again payments) ∙ ap (λ (l : List (List ℕ)). wrap_full some ++ l) (full_units shares units passed) in
    ap₂ (λ (l : List (List ℕ)) (n : ℕ). unit_share_count (list_of plain).units + unit_share_count l + n) full (joined_bound plain payments)

size_refused : (n m : ℕ) → m ≡ min n most_named → (other most : ℕ) → most ≡ other + n → nat_lt max_shares most ≡ not (nat_le (other + m) max_shares)
size_refused n m is other most sum = elim (cases_lt max_shares most) [
  | inl great ↦
      let one : nat_lt max_shares most ≡ true = grind (arith, nat_tests, great) in
      let low : max_shares < other + m = omega (arith, is, sum, great) in
      let two : nat_le (other + m) max_shares ≡ false = grind (arith, nat_tests, low) in one ∙ sym (ap not two)
  | inr few ↦
      let one : nat_lt max_shares most ≡ false = grind (arith, nat_tests, few) in
      let low : other + m ≤ max_shares = omega (arith, is, sum, few) in
      let two : nat_le (other + m) max_shares ≡ true = grind (arith, nat_tests, low) in one ∙ sym (ap not two)
]

refused_some : (b : Bool) (why : ListError) → is_some (cond b (Some why) None) ≡ b
refused_some true why = refl
refused_some false why = refl

all_three : (r n f : Bool) → ((r || not n) || not f) ≡ not (not r && (n && f))
all_three true n f = refl
all_three false true f = refl
all_three false false f = refl

-- ---- the payments of a square

have_blobs : (i : ℕ) (shares : List Share) (units : List (List ℕ)) → wrappers_refusal i shares units ≡ None → HaveBlobs (map (payment_at shares) units)
have_blobs i shares [] e = tt
have_blobs i shares (unit ∷ units) e =
    let two = wrapper_parts i shares unit units e in (some_blobs i shares unit two.0, have_blobs (suc i) shares units two.1)

-- a list of transactions and of the payments of a square is refused where it has no square
refused_is : (shares : List Share) (plain units : List (List ℕ)) (blobs : Measure) → AreShares shares → HaveLengths units → wrappers_refusal 0 shares units ≡ None
    → blobs ≡ measure_of (blobs_of (map (payment_at shares) units))
    → (is_some (read_refusal (plain ++ map payment_spelling (map (payment_at shares) units)))
    || is_some (list_size_refusal (list_of (plain ++ map payment_spelling (map (payment_at shares) units))))) ≡ not (has_square plain units blobs)
refused_is shares plain units blobs wholes counted passed is =
    let payments : List PaymentParts = map (payment_at shares) units in
    let all : AllByRecursion IsStatablePayment payments = all_statable_payments shares units wholes counted in
    let list : ListParts = list_of (plain ++ map payment_spelling payments) in
    let named : blobs.named ≡ list_all is_named_again (blobs_of payments) = ap (λ (m : Measure). m.named) is in
    let bound : blobs.bound ≡ min (blobs_bound (blobs_of payments)) most_named = ap (λ (m : Measure). m.bound) is in
    let first : is_some (read_refusal (plain ++ map payment_spelling payments)) ≡ (is_some (read_refusal plain) || not blobs.named) =
    behind_refused 0 false plain payments all (have_blobs 0 shares units passed)
    ∙ ap (λ (b : Bool). is_some (read_refusal plain) || not b) (sym named) in
    let most : list_bound list ≡ bound_with (list_of plain) units (blobs_bound (blobs_of payments)) =
    ap list_bound (list_again plain payments all) ∙ bound_is shares plain units passed in
    let other : ℕ = unit_share_count (list_of plain).units + unit_share_count (wrap_full (list_of plain).payments ++ flat_map full_of units) in
    let rest : ℕ = blobs_bound (blobs_of (list_of plain).payments) in
    let fits : nat_le (other + rest + blobs.bound) max_shares ≡ nat_le (bound_with (list_of plain) units blobs.bound) max_shares =
    ap (λ (n : ℕ). nat_le n max_shares) (omega arith) in
    let second : is_some (list_size_refusal list) ≡ not (nat_le (bound_with (list_of plain) units blobs.bound) max_shares) =
    refused_some (nat_lt max_shares (list_bound list)) (TooLarge (min (list_bound list) most_named))
    ∙ size_refused (blobs_bound (blobs_of payments)) blobs.bound bound (other + rest) (list_bound list) (omega (arith, most))
    ∙ ap not fits in
    ap₂ (λ (a b : Bool). a || b) first second
    ∙ all_three (is_some (read_refusal plain)) blobs.named (nat_le (bound_with (list_of plain) units blobs.bound) max_shares)

-- ---- the squares differ

wider : (k other : ℕ) → k * k < other * other → k < other
wider k other h = elim (cases_lt k other) [
  | inl lt ↦ lt
  | inr le ↦ absurd (omega (arith, h, mul-le-mul_left other le, mul-le-mul_right k le))
]

-- by their widths
unlike_wider : (square other : SquareShares) → square.k * square.k < other.k * other.k → unlike_at square other ≡ Some (square.k * square.k)
unlike_wider square other h =
    let lt : square.k < other.k = wider square.k other.k h in
    let differ : (square.k == other.k) ≡ false = ne_eqb square.k other.k (λ same. absurd (omega (arith, lt, same))) in
    let least : min square.k other.k ≡ square.k = omega (arith, lt) in
    ap (λ (b : Bool). cond b (first_unlike 0 square.shares other.shares) (Some (min square.k other.k * min square.k other.k))) differ
    ∙ ap (λ (n : ℕ). Some (n * n)) least

not_great : (n : ℕ) → nat_lt max_shares n ≡ false → n ≤ max_shares
not_great n h = grind (arith, nat_tests)

-- the width of a list is for as many shares
width_holds : (list : ListParts) → list_bound list ≤ max_shares → list_bound list ≤ (square_of_list list).k * (square_of_list list).k
width_holds list few = holding_holds (list_bound list) few

neither : (a b : Bool) → (a || b) ≡ false → b ≡ false
neither true b h = absurd cc
neither false b h = h

-- it isn't laid out as the square
laid_wide : (square : SquareShares) (plain units : List (List ℕ)) (blobs : Measure) → AreShares square.shares → HaveLengths units
    → wrappers_refusal 0 square.shares units ≡ None → blobs ≡ measure_of (blobs_of (map (payment_at square.shares) units))
    → length square.shares ≡ square.k * square.k → length square.shares < blobs.bound
    → laid_refusal square (plain ++ map payment_spelling (map (payment_at square.shares) units))
    ≡ Some (Unlike (cond (has_square plain units blobs) (length square.shares) 0))
laid_wide square plain units blobs wholes counted passed is size many =
    let payments : List PaymentParts = map (payment_at square.shares) units in
    let transactions : List (List ℕ) = plain ++ map payment_spelling payments in
    let list : ListParts = list_of transactions in
    let refused = refused_is square.shares plain units blobs wholes counted passed is in
    let all : AllByRecursion IsStatablePayment payments = all_statable_payments square.shares units wholes counted in
    let rest : Option BackError = option_map Unlike (unlike_at square (square_of_list list)) in
    elim (cases_Bool (has_square plain units blobs)) [
      | inl has ↦
          let none : (is_some (read_refusal transactions) || is_some (list_size_refusal list)) ≡ false = refused ∙ ap not has in
          let fits : nat_lt max_shares (list_bound list) ≡ false =
          sym (refused_some (nat_lt max_shares (list_bound list)) (TooLarge (min (list_bound list) most_named)))
          ∙ neither (is_some (read_refusal transactions)) (is_some (list_size_refusal list)) none in
          let few : list_bound list ≤ max_shares = not_great (list_bound list) fits in
          let sum : blobs_bound (blobs_of list.payments) ≡ blobs_bound (blobs_of (list_of plain).payments) + blobs_bound (blobs_of payments) =
          ap (λ (l : ListParts). blobs_bound (blobs_of l.payments)) (list_again plain payments all) ∙ joined_bound plain payments in
          let bound : blobs.bound ≡ min (blobs_bound (blobs_of payments)) most_named = ap (λ (m : Measure). m.bound) is in
          let wide : square.k * square.k < (square_of_list list).k * (square_of_list list).k = omega (arith, width_holds list few, sum, bound, size, many) in
          ap (λ (b : Bool). cond b (Some (Unlike 0)) rest) none
          ∙ ap (option_map Unlike) (unlike_wider square (square_of_list list) wide)
          ∙ ap (λ (n : ℕ). Some (Unlike n)) (sym size)
          ∙ ap (λ (b : Bool). Some (Unlike (cond b (length square.shares) 0))) (sym has)
      | inr hasnt ↦
          ap (λ (b : Bool). cond b (Some (Unlike 0)) rest) (refused ∙ ap not hasnt)
          ∙ ap (λ (b : Bool). Some (Unlike (cond b (length square.shares) 0))) (sym hasnt)
    ]

-- so it is where the parts of the square were read, and their blobs were measured
pub wide_by : (square : SquareShares) (first second : List Share) (plain units : List (List ℕ)) (blobs : Measure) → AreShares square.shares
    → length square.shares ≡ square.k * square.k → first ≡ first_front square.shares → second ≡ second_front square.shares
    → front_refusal Units (units_of first) ≡ None → front_refusal Payments (units_of second) ≡ None → plain ≡ front_units (units_of first)
    → units ≡ front_units (units_of second) → wrappers_refusal 0 square.shares units ≡ None → HaveLengths units
    → blobs ≡ measure_of (blobs_of (map (payment_at square.shares) units)) → length square.shares < blobs.bound
    → back_refusal square ≡ Some (Unlike (cond (has_square plain units blobs) (length square.shares) 0))
wide_by square first second plain units blobs wholes size first_is second_is some paid plain_is units_is passed counted is many =
    let front : List Share → List (List ℕ) = (λ l. front_units (units_of l)) in
    let read : plain ≡ front (first_front square.shares) = plain_is ∙ ap front first_is in
    let also : units ≡ front (second_front square.shares) = units_is ∙ ap front second_is in
    let transactions : List (List ℕ) = plain ++ map payment_spelling (map (payment_at square.shares) units) in
    let parts : part_refusal square ≡ None =
    ap₂ (λ (a : Option BackError) (b : Option BackError). option_or a b) (ap (λ (l : List Share). front_refusal Units (units_of l)) (sym first_is) ∙ some)
    (ap₂ (λ (a : Option BackError) (b : Option BackError). option_or a b) (ap (λ (l : List Share). front_refusal Payments (units_of l)) (sym second_is) ∙ paid)
    (ap (wrappers_refusal 0 square.shares) (sym also) ∙ passed)) in
    let list : spelled_list (back_list square) ≡ transactions =
    ap₂ (λ (a b : List (List ℕ)). a ++ map payment_spelling (map (payment_at square.shares) b)) (sym read) (sym also) in
    ap (λ (o : Option BackError). option_or o (laid_refusal square (spelled_list (back_list square)))) parts
    ∙ ap (laid_refusal square) list
    ∙ laid_wide square plain units blobs wholes counted passed is size many
