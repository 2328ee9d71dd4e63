-- Payments, each wrapped as long as its places can make it.
use Rattle.std.proofs.Common.{true, false, cond, ◌≡◌, ◌∙◌, ℕ, suc, ◌+◌, ◌-◌, ◌≤◌, nat_le, Bool, List, [], ◌∷◌, ◌++◌, length, take, drop, map, replicate, Option, Some, None, refl, sym, ap, ap₂, arith, length-append}
use Rattle.std.specs.List.{flat_map}
use Rattle.std.specs.Option.{is_some, option_map_or, option_or}
use Rattle.std.specs.Str.{bytes_eq}
use Rattle.std.proofs.lemmas.Bool.{and_parts}
use Rattle.std.proofs.lemmas.Bool.Decides.{nat_tests}
use Rattle.std.proofs.lemmas.List.{length-map, map-append, take-replicate, drop-replicate}
use Rattle.namespace_id.specs.declared.shares.Share.{Share}
use Rattle.share_split.specs.Blobs.{NamedBytes}
use Rattle.tx_list.specs.declared.refusals.BackError.{BackError}
use Rattle.tx_list.specs.declared.refusals.BackError.TheVariants.{Wrapper, Index}
use Rattle.tx_list.specs.Payments.{PaymentParts, blobs_of}
use Rattle.tx_list.specs.Wrapped.{wrapped, wrap_all}
use Rattle.tx_list.specs.Reserves.{full_place, wrap_full}
use Rattle.tx_list.specs.Unwrapped.{wrapped_tx, wrapped_places, are_small, are_places, is_wrapper}
use Rattle.tx_list.specs.BackRefusals.{blob_at, blobs_at, places_refusal, payment_at, wrapper_refusal, wrappers_refusal}
use Rattle.tx_list.specs.Measures.{full_of}
use Rattle.tx_list.proofs.StatedLemmas.{again, payment_again}

-- ---- each on its own

-- a payment, wrapped as long as its places can make it
abbrev pub full_payment : PaymentParts → List ℕ
full_payment payment = wrapped payment.tx (replicate (length payment.blobs) full_place)

pub full_each : (payments : List PaymentParts) → wrap_full payments ≡ map full_payment payments
unfolding wrap_all
full_each [] = refl
full_each (payment ∷ payments) =
    let own : ℕ = length payment.blobs in
    let all : ℕ = length (blobs_of (payment ∷ payments)) in
    let size : all ≡ own + length (blobs_of payments) = length-append payment.blobs (blobs_of payments) in
    let first : take own (replicate all full_place) ≡ replicate own full_place = take-replicate own all full_place (omega (arith, size)) in
    let left : all - own ≡ length (blobs_of payments) = omega (arith, size) in
    let others : drop own (replicate all full_place) ≡ replicate (length (blobs_of payments)) full_place =
    drop-replicate own all full_place ∙ ap (λ (n : ℕ). replicate n full_place) left in
    ap₂ (λ (unit : List ℕ) (units : List (List ℕ)). unit ∷ units) (ap (wrapped payment.tx) first) (ap (wrap_all payments) others ∙ full_each payments)

pub full-append : (some others : List PaymentParts) → wrap_full (some ++ others) ≡ wrap_full some ++ wrap_full others
full-append some others =
    full_each (some ++ others) ∙ map-append full_payment some others ∙ sym (ap₂ (λ (a b : List (List ℕ)). a ++ b) (full_each some) (full_each others))

-- ---- those of a square

-- a blob was found at each place
found_at : (i j : ℕ) (found : Option NamedBytes) (rest : Option BackError) → cond (is_some found) rest (Some (Index i j)) ≡ None
    → (length (option_map_or (λ (blob : NamedBytes). blob ∷ []) found []) ≡ 1) × (rest ≡ None)
found_at i j None rest e = absurd cc
found_at i j (Some blob) rest e = (refl, e)

pub found_count : (i j : ℕ) (shares : List Share) (places : List ℕ) → places_refusal i j shares places ≡ None → length (blobs_at shares places) ≡ length places
unfolding places_refusal
found_count i j shares [] e = refl
found_count i j shares (place ∷ places) e =
    let here = found_at i j (blob_at shares place) (places_refusal i (suc j) shares places) e in
    omega (
      arith,
      length-append (option_map_or (λ (blob : NamedBytes). blob ∷ []) (blob_at shares place) []) (blobs_at shares places),
      here.0,
      found_count i (suc j) shares places here.1,
    )

-- a unit that isn't refused is a wrapped payment, at each of whose places is a blob
passed_by : (is : Bool) (i : ℕ) (rest : Option BackError) → cond is rest (Some (Wrapper i)) ≡ None → (is ≡ true) × (rest ≡ None)
passed_by true i rest e = (refl, e)
passed_by false i rest e = absurd cc

both_none : (first others : Option BackError) → option_or first others ≡ None → (first ≡ None) × (others ≡ None)
both_none None others e = (refl, e)
both_none (Some why) others e = absurd cc

at_least_one : (n : ℕ) → nat_le 1 n ≡ true → 1 ≤ n
at_least_one n h = grind (arith, nat_tests)

-- such a unit is as long as its payment can be
full_one : (shares : List Share) (unit : List ℕ) → is_wrapper unit ≡ true → length (blobs_at shares (wrapped_places unit)) ≡ length (wrapped_places unit)
    → full_payment (payment_again (payment_at shares unit)) ∷ [] ≡ full_of unit
full_one shares unit is count =
    let blobs : List NamedBytes = blobs_at shares (wrapped_places unit) in
    let size : length (map again blobs) ≡ length (wrapped_places unit) = length-map blobs again ∙ count in
    ap (λ (n : ℕ). wrapped (wrapped_tx unit) (replicate n full_place) ∷ []) size
    ∙ sym (ap (λ (b : Bool). cond b (wrapped (wrapped_tx unit) (replicate (length (wrapped_places unit)) full_place) ∷ []) []) is)

full_all : (i : ℕ) (shares : List Share) (units : List (List ℕ)) → wrappers_refusal i shares units ≡ None
    → map full_payment (map payment_again (map (payment_at shares) units)) ≡ flat_map full_of units
unfolding wrappers_refusal
full_all i shares [] e = refl
full_all i shares (unit ∷ units) e =
    let two = both_none (wrapper_refusal i shares unit) (wrappers_refusal (suc i) shares units) e in
    let one = passed_by (is_wrapper unit) i (places_refusal i 0 shares (wrapped_places unit)) two.0 in
    let count = found_count i 0 shares (wrapped_places unit) one.1 in
    ap₂ (λ (a b : List (List ℕ)). a ++ b) (full_one shares unit one.0 count) (full_all (suc i) shares units two.1)

pub full_units : (shares : List Share) (units : List (List ℕ)) → wrappers_refusal 0 shares units ≡ None
    → wrap_full (map payment_again (map (payment_at shares) units)) ≡ flat_map full_of units
full_units shares units e = full_each (map payment_again (map (payment_at shares) units)) ∙ full_all 0 shares units e

-- and has a blob
pub some_blobs : (i : ℕ) (shares : List Share) (unit : List ℕ) → wrapper_refusal i shares unit ≡ None → 1 ≤ length (blobs_at shares (wrapped_places unit))
some_blobs i shares unit e =
    let one = passed_by (is_wrapper unit) i (places_refusal i 0 shares (wrapped_places unit)) e in
    let places : List ℕ = wrapped_places unit in
    let are = and_parts (are_places places) (bytes_eq (wrapped (wrapped_tx unit) places) unit) one.0 in
    let some = and_parts (nat_le 1 (length places)) (are_small places) are.0 in
    omega (arith, found_count i 0 shares places one.1, at_least_one (length places) some.0)

-- the units that are left aren't refused
pub wrapper_parts : (i : ℕ) (shares : List Share) (unit : List ℕ) (units : List (List ℕ)) → wrappers_refusal i shares (unit ∷ units) ≡ None
    → (wrapper_refusal i shares unit ≡ None) × (wrappers_refusal (suc i) shares units ≡ None)
unfolding wrappers_refusal
wrapper_parts i shares unit units e = both_none (wrapper_refusal i shares unit) (wrappers_refusal (suc i) shares units) e
