-- Payments, wrapped with the places of their blobs one after another.
use Rattle.std.proofs.Common.{◌≡◌, ◌∙◌, ℕ, ◌+◌, ◌<◌, List, [], ◌∷◌, ◌++◌, length, take, drop, get_or, sym, ap, ap₂, arith, add-one, drop-cons, append_assoc, length-append}
use Rattle.std.proofs.lemmas.List.{append-nil, length-drop}
use Rattle.tx_list.specs.Payments.{PaymentParts, blobs_of}
use Rattle.tx_list.specs.Wrapped.{wrapped, wrap_all}

-- what is left of payments begins with the next one
pub drop-payment : (payments : List PaymentParts) (i : ℕ) (payment : PaymentParts) → i < length payments → payment ≡ get_or payments i payment
    → drop i payments ≡ payment ∷ drop (i + 1) payments
drop-payment payments i payment h is =
    drop-cons payments i payment h
    ∙ ap₂ (λ (p : PaymentParts) (n : ℕ). p ∷ drop n payments) (sym is) (sym (add-one i))

-- one more is wrapped
pub wrap_on : (payment : PaymentParts) (left others : List PaymentParts) (places own back unit : List ℕ) (out new whole : List (List ℕ)) → left ≡ payment ∷ others
    → own ≡ take (length payment.blobs) places → back ≡ drop (length payment.blobs) places → unit ≡ wrapped payment.tx own → new ≡ out ++ unit ∷ []
    → out ++ wrap_all left places ≡ whole → new ++ wrap_all others back ≡ whole
unfolding wrap_all
wrap_on payment left others places own back unit out new whole is o b u n so_far =
    let rest : List (List ℕ) = wrap_all others (drop (length payment.blobs) places) in
    ap₂ (λ (l : List (List ℕ)) (p : List ℕ). l ++ wrap_all others p) n b
    ∙ append_assoc out (unit ∷ []) rest
    ∙ ap (λ (x : List ℕ). out ++ (x ∷ rest)) (u ∙ ap (wrapped payment.tx) o)
    ∙ sym (ap (λ (l : List PaymentParts). out ++ wrap_all l places) is) ∙ so_far

-- and a place is left for each blob of the others
pub count_on : (payment : PaymentParts) (left others : List PaymentParts) (places back : List ℕ) → left ≡ payment ∷ others
    → back ≡ drop (length payment.blobs) places → length places ≡ length (blobs_of left) → length back ≡ length (blobs_of others)
count_on payment left others places back is b count =
    omega (
      arith,
      ap length b,
      length-drop (length payment.blobs) places,
      ap (λ (l : List PaymentParts). length (blobs_of l)) is,
      length-append payment.blobs (blobs_of others),
      count,
    )

-- none is left
pub wrap_none : (left : List PaymentParts) (places : List ℕ) (out whole : List (List ℕ)) → left ≡ [] → out ++ wrap_all left places ≡ whole → out ≡ whole
unfolding wrap_all
wrap_none left places out whole none so_far =
    sym (append-nil out) ∙ sym (ap (λ (l : List PaymentParts). out ++ wrap_all l places) none) ∙ so_far
