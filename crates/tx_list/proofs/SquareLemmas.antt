-- The square of a list: it is a square, and where the list is of bytes it has shares.
use Rattle.std.proofs.Common.{true, false, if◌then◌else◌, ◌≡◌, ℕ, zero, suc, ◌+◌, ◌*◌, ◌/◌, ◌%◌, ◌≤◌, min, Bool, List, [], ◌∷◌, ◌++◌, length, take, drop, Some, None, Option, refl, sym, subst, arith, inl, inr, ltb-false, lit<}
use Rattle.std.specs.List.{AllByRecursion, flat_map}
use Rattle.std.specs.Prelude.{nat_lt, codes}
use Rattle.std.proofs.lemmas.Bool.{cases_lt}
use Rattle.namespace_id.specs.Bytes.{AreBytes}
use Rattle.namespace_id.specs.Shares.{AreShares}
use Rattle.namespace_id.proofs.StringLemmas.{AreBytes-none, AreBytes-cons, AreBytes-append}
use Rattle.proto_fields.specs.Varints.{varint_within, varint}
use Rattle.proto_fields.proofs.Varint.Bytes.{varint_within-low, varint_within-high}
use Rattle.square_layout.specs.Blocks.{IsSquare}
use Rattle.square_layout.specs.Refusals.{max_shares, most_named}
use Rattle.square_layout.specs.Plans.{PlanParts}
use Rattle.square_layout.proofs.PlanLemmas.{length-front}
use Rattle.square_layout.proofs.SquareLemmas.{plan_is_square, plan_has_shares}
use Rattle.tx_list.specs.declared.refusals.ListError.{ListError}
use Rattle.tx_list.specs.declared.refusals.ListError.TheVariants.{TooLarge}
use Rattle.tx_list.specs.Payments.{PaymentParts, ListParts}
use Rattle.tx_list.specs.OfBytes.{IsOfBytes}
use Rattle.tx_list.specs.Wrapped.{some_field, wrapped, wrap_all}
use Rattle.tx_list.specs.Reserves.{list_bound}
use Rattle.tx_list.specs.Lists.{list_places, plan_of_list, square_of_list}
use Rattle.tx_list.specs.Refusals.{list_size_refusal}
use Rattle.tx_list.proofs.ListLemmas.{list_has_room}

-- ---- it is a square

-- a size that isn't refused is within the limit
few_by : (count : ℕ) (b : Bool) (why : ListError) → nat_lt max_shares count ≡ b
    → ◌≡◌ {A = Option ListError} (if b then Some why else None) None → count ≤ max_shares
few_by count true why is e = absurd cc
few_by count false why is e = ltb-false max_shares count is

pub list_is_square : (list : ListParts) → list_size_refusal list ≡ None → IsSquare (square_of_list list)
list_is_square list fine =
    let plan : PlanParts = plan_of_list list in
    let few : list_bound list ≤ max_shares =
    few_by (list_bound list) (nat_lt max_shares (list_bound list)) (TooLarge (min (list_bound list) most_named)) refl fine in
    plan_is_square plan (omega (arith, length-front plan, list_has_room list few)) few

-- ---- payments are written as bytes

varint_bytes : (more n : ℕ) → AreBytes (varint_within more n)
unfolding varint_within
varint_bytes zero n = AreBytes-none
varint_bytes (suc more) n = elim (cases_lt n 128) [
  | inl lt ↦ subst AreBytes (sym (varint_within-low more n lt)) (AreBytes-cons n [] (omega (arith, lt)) AreBytes-none)
  | inr le ↦
      subst AreBytes (sym (varint_within-high more n le))
      (AreBytes-cons (n % 128 + 128) (varint_within more (n / 128)) (omega arith) (varint_bytes more (n / 128)))
]

varints_bytes : (places : List ℕ) → AreBytes (flat_map varint places)
varints_bytes [] = AreBytes-none
varints_bytes (place ∷ places) = AreBytes-append (varint place) (flat_map varint places) (varint_bytes 10 place) (varints_bytes places)

field_bytes : (n : ℕ) (bytes : List ℕ) → AreBytes bytes → AreBytes (some_field n bytes)
field_bytes n [] fits = AreBytes-none
field_bytes n (byte ∷ bytes) fits =
    let all : List ℕ = byte ∷ bytes in
    AreBytes-append (varint (8 * n + 2)) (varint (length all) ++ all) (varint_bytes 10 (8 * n + 2))
    (AreBytes-append (varint (length all)) all (varint_bytes 10 (length all)) fits)

mark_bytes : AreBytes (codes "INDX")
mark_bytes =
    AreBytes-cons 73 (78 ∷ 68 ∷ 88 ∷ []) (lit< tt)
    (AreBytes-cons 78 (68 ∷ 88 ∷ []) (lit< tt) (AreBytes-cons 68 (88 ∷ []) (lit< tt) (AreBytes-cons 88 [] (lit< tt) AreBytes-none)))

wrapped_bytes : (tx places : List ℕ) → AreBytes tx → AreBytes (wrapped tx places)
wrapped_bytes tx places fits =
    let packed : List ℕ = flat_map varint places in
    AreBytes-append (some_field 1 tx) (some_field 2 packed ++ some_field 3 (codes "INDX")) (field_bytes 1 tx fits)
    (AreBytes-append (some_field 2 packed) (some_field 3 (codes "INDX")) (field_bytes 2 packed (varints_bytes places))
    (field_bytes 3 (codes "INDX") mark_bytes))

wrap_all_bytes : (payments : List PaymentParts) (places : List ℕ) → AllByRecursion (λ payment. AreBytes payment.tx) payments
    → AllByRecursion AreBytes (wrap_all payments places)
unfolding wrap_all
wrap_all_bytes [] places h = tt
wrap_all_bytes (payment ∷ payments) places h =
    (wrapped_bytes payment.tx (take (length payment.blobs) places) h.0, wrap_all_bytes payments (drop (length payment.blobs) places) h.1)

-- ---- the shares of the square

pub list_has_shares : (list : ListParts) → IsOfBytes list → AreShares (square_of_list list).shares
list_has_shares list is = plan_has_shares (plan_of_list list) (record {
  units = is.units;
  pay_units = wrap_all_bytes list.payments (list_places list) is.txs;
  blobs = is.blobs;
})
