-- The first check of transactions that fails.
use Rattle.std.proofs.Common.{◌≡◌, ◌∙◌, ℕ, suc, ◌+◌, Bool, ◌||◌, List, [], ◌∷◌, Option, Some, None, length, drop, get_or, ◌<◌, sym, ap, ap₂, add-one, drop-cons}
use Rattle.std.specs.Option.{option_or}
use Rattle.tx_list.specs.declared.refusals.ListError.{ListError}
use Rattle.tx_list.specs.Reads.{stated, is_payment}
use Rattle.tx_list.specs.ReadRefusals.{blob_refusal, blobs_refusal, transaction_refusal, transactions_refusal}

-- the next blob isn't one
pub blob_found : (i j : ℕ) (entry : List ℕ) (left others : List (List ℕ)) (why : ListError) (whole : Option ListError) → left ≡ entry ∷ others
    → Some why ≡ blob_refusal i j (stated entry) → whole ≡ blobs_refusal i j left → Some why ≡ whole
unfolding blobs_refusal
blob_found i j entry left others why whole is h so_far =
    sym (so_far ∙ ap (blobs_refusal i j) is ∙ ap (λ (r : Option ListError). option_or r (blobs_refusal i (suc j) others)) (sym h))

-- it is one
pub blob_passed : (i j : ℕ) (entry : List ℕ) (left others : List (List ℕ)) (whole : Option ListError) → left ≡ entry ∷ others
    → None ≡ blob_refusal i j (stated entry) → whole ≡ blobs_refusal i j left → whole ≡ blobs_refusal i (j + 1) others
unfolding blobs_refusal
blob_passed i j entry left others whole is h so_far =
    so_far ∙ ap (blobs_refusal i j) is ∙ ap (λ (r : Option ListError). option_or r (blobs_refusal i (suc j) others)) (sym h)
    ∙ ap (λ (n : ℕ). blobs_refusal i n others) (sym (add-one j))

-- the next transaction isn't taken
pub transaction_found : (i : ℕ) (paid : Bool) (one : List ℕ) (left others : List (List ℕ)) (why : ListError) (whole : Option ListError) → left ≡ one ∷ others
    → Some why ≡ transaction_refusal i paid one → whole ≡ transactions_refusal i paid left → Some why ≡ whole
unfolding transactions_refusal
transaction_found i paid one left others why whole is h so_far =
    sym (so_far ∙ ap (transactions_refusal i paid) is
    ∙ ap (λ (r : Option ListError). option_or r (transactions_refusal (suc i) (paid || is_payment one) others)) (sym h))

-- it is taken
pub transaction_passed : (i : ℕ) (paid : Bool) (one : List ℕ) (left others : List (List ℕ)) (whole : Option ListError) → left ≡ one ∷ others
    → None ≡ transaction_refusal i paid one → whole ≡ transactions_refusal i paid left
    → whole ≡ transactions_refusal (i + 1) (paid || is_payment one) others
unfolding transactions_refusal
transaction_passed i paid one left others whole is h so_far =
    so_far ∙ ap (transactions_refusal i paid) is
    ∙ ap (λ (r : Option ListError). option_or r (transactions_refusal (suc i) (paid || is_payment one) others)) (sym h)
    ∙ ap (λ (n : ℕ). transactions_refusal n (paid || is_payment one) others) (sym (add-one i))

-- no blob is left
pub blobs_none : (i j : ℕ) (left : List (List ℕ)) (whole : Option ListError) → left ≡ [] → whole ≡ blobs_refusal i j left → None ≡ whole
unfolding blobs_refusal
blobs_none i j left whole none so_far = sym (so_far ∙ ap (blobs_refusal i j) none)

-- no transaction is left
pub transactions_none : (i : ℕ) (paid : Bool) (left : List (List ℕ)) (whole : Option ListError) → left ≡ [] → whole ≡ transactions_refusal i paid left → None ≡ whole
unfolding transactions_refusal
transactions_none i paid left whole none so_far = sym (so_far ∙ ap (transactions_refusal i paid) none)

-- what is left of transactions begins with the next one
pub drop-one : (xs : List (List ℕ)) (i : ℕ) (x : List ℕ) → i < length xs → x ≡ get_or xs i x → drop i xs ≡ x ∷ drop (i + 1) xs
drop-one xs i x h is = drop-cons xs i x h ∙ ap₂ (λ (y : List ℕ) (n : ℕ). y ∷ drop n xs) (sym is) (sym (add-one i))
