-- Wrapped payments are read back: their transactions, and the places of their blobs.
use Rattle.std.proofs.Common.{true, ◌≡◌, ◌∙◌, ℕ, zero, suc, ◌^◌, ◌<◌, ◌≤◌, ◌&&◌, nat_lt, nat_le, Bool, List, [], ◌∷◌, ◌++◌, length, codes, Option, Some, None, refl, ap, ap₂, arith, length-append}
use Rattle.std.specs.List.{flat_map, AllByRecursion}
use Rattle.std.specs.Option.{option_map_or}
use Rattle.std.proofs.lemmas.Bool.Decides.{nat_tests}
use Rattle.std.proofs.lemmas.Slice.Eq.{bytes_eq-Decides}
use Rattle.proto_fields.specs.Varints.{varint, number_within, number_at}
use Rattle.proto_fields.specs.Fields.{FieldParts, fields_of, last_of, last_bytes}
use Rattle.proto_fields.proofs.FieldLemmas.{fields_in_a_row}
use Rattle.proto_fields.proofs.Varint.Bytes.{some-varint}
use Rattle.proto_fields.proofs.Varint.Read.{number_again, shortest_is_varint}
use Rattle.tx_list.specs.Reads.{fields_in}
use Rattle.tx_list.specs.Wrapped.{some_field, wrapped}
use Rattle.tx_list.specs.Unwrapped.{numbers_within, numbers_in, wrapped_tx, wrapped_places, are_small, are_places, is_wrapper}
use Rattle.tx_list.proofs.SpelledBlobLemmas.{some_fields, some_field_alone, some_field_size}

-- ---- the places

-- no number is read of no bytes
pub number_none : number_at [] ≡ None
unfolding number_within
number_none = refl

pub numbers_none : (more : ℕ) → numbers_within more [] ≡ []
unfolding numbers_within
numbers_none zero = refl
numbers_none (suc more) = ap (λ (o : Option (ℕ × List ℕ)). option_map_or (λ read. read.0 ∷ numbers_within more read.1) o []) number_none

-- each varint takes a byte
packed_size : (places : List ℕ) → length places ≤ length (flat_map varint places)
packed_size [] = omega arith
packed_size (place ∷ places) =
    omega (arith, length-append (varint place) (flat_map varint places), some-varint place, packed_size places)

-- varints are read as their numbers
varints_read : (more : ℕ) (places : List ℕ) → length places ≤ more → AllByRecursion (λ place. place < 2 ^ 64) places
    → numbers_within more (flat_map varint places) ≡ places
unfolding numbers_within
varints_read more [] few all = numbers_none more
varints_read zero (place ∷ places) few all = absurd (omega arith)
varints_read (suc more) (place ∷ places) few all =
    ap (λ (o : Option (ℕ × List ℕ)). option_map_or (λ read. read.0 ∷ numbers_within more read.1) o [])
    (number_again (varint place) (flat_map varint places) place (shortest_is_varint place all.0))
    ∙ ap (λ (l : List ℕ). place ∷ l) (varints_read more places (omega arith) all.1)

-- ---- the fields

abbrev wrapper_fields : List ℕ → List ℕ → List FieldParts
wrapper_fields tx packed = some_fields 1 tx ++ (some_fields 2 packed ++ some_fields 3 (codes "INDX"))

fields_of_wrapper : (tx packed : List ℕ) → length tx < 2 ^ 64 → length packed < 2 ^ 64
    → fields_of (some_field 1 tx ++ (some_field 2 packed ++ some_field 3 (codes "INDX"))) ≡ Some (wrapper_fields tx packed)
fields_of_wrapper tx packed fits few =
    fields_in_a_row (some_field 1 tx) (some_field 2 packed ++ some_field 3 (codes "INDX")) (some_fields 1 tx)
    (some_fields 2 packed ++ some_fields 3 (codes "INDX")) (some_field_alone 1 tx refl fits)
    (fields_in_a_row (some_field 2 packed) (some_field 3 (codes "INDX")) (some_fields 2 packed) (some_fields 3 (codes "INDX"))
    (some_field_alone 2 packed refl few) (some_field_alone 3 (codes "INDX") refl (omega arith)))

wrapper_tx : (tx packed : List ℕ) → last_bytes 1 (wrapper_fields tx packed) ≡ tx
unfolding last_of
wrapper_tx [] [] = refl
wrapper_tx [] (byte ∷ bytes) = refl
wrapper_tx (byte ∷ bytes) [] = refl
wrapper_tx (byte ∷ bytes) (other ∷ others) = refl

wrapper_packed : (tx packed : List ℕ) → last_bytes 2 (wrapper_fields tx packed) ≡ packed
unfolding last_of
wrapper_packed [] [] = refl
wrapper_packed [] (byte ∷ bytes) = refl
wrapper_packed (byte ∷ bytes) [] = refl
wrapper_packed (byte ∷ bytes) (other ∷ others) = refl

-- ---- a wrapped payment

-- its parts are in it
tx_within : (tx places : List ℕ) → length tx ≤ length (wrapped tx places)
tx_within tx places =
    let packed : List ℕ = flat_map varint places in
    omega (arith, length-append (some_field 1 tx) (some_field 2 packed ++ some_field 3 (codes "INDX")), some_field_size 1 tx)

packed_within : (tx places : List ℕ) → length (flat_map varint places) ≤ length (wrapped tx places)
packed_within tx places =
    let packed : List ℕ = flat_map varint places in
    omega (
      arith,
      length-append (some_field 1 tx) (some_field 2 packed ++ some_field 3 (codes "INDX")),
      length-append (some_field 2 packed) (some_field 3 (codes "INDX")),
      some_field_size 2 packed,
    )

fields_in_wrapped : (tx places : List ℕ) → length (wrapped tx places) < 2 ^ 64 → fields_in (wrapped tx places) ≡ wrapper_fields tx (flat_map varint places)
fields_in_wrapped tx places fits =
    ap (λ (o : Option (List FieldParts)). option_map_or (λ fields. fields) o [])
    (fields_of_wrapper tx (flat_map varint places) (omega (arith, tx_within tx places)) (omega (arith, packed_within tx places)))

-- its transaction is read back
pub wrapped_tx_is : (tx places : List ℕ) → length (wrapped tx places) < 2 ^ 64 → wrapped_tx (wrapped tx places) ≡ tx
wrapped_tx_is tx places fits = ap (last_bytes 1) (fields_in_wrapped tx places fits) ∙ wrapper_tx tx (flat_map varint places)

small-fit : (places : List ℕ) → AllByRecursion (λ place. place < 2 ^ 32) places → AllByRecursion (λ place. place < 2 ^ 64) places
small-fit [] all = tt
small-fit (place ∷ places) all = (omega (arith, all.0), small-fit places all.1)

-- and so are the places
pub wrapped_places_are : (tx places : List ℕ) → length (wrapped tx places) < 2 ^ 64 → AllByRecursion (λ place. place < 2 ^ 32) places
    → wrapped_places (wrapped tx places) ≡ places
wrapped_places_are tx places fits small =
    ap numbers_in (ap (last_bytes 2) (fields_in_wrapped tx places fits) ∙ wrapper_packed tx (flat_map varint places))
    ∙ varints_read (length (flat_map varint places)) places (packed_size places) (small-fit places small)

all_small : (places : List ℕ) → AllByRecursion (λ place. place < 2 ^ 32) places → are_small places ≡ true
all_small [] all = refl
all_small (place ∷ places) all =
    let first : nat_lt place (2 ^ 32) ≡ true = (let lt : place < 2 ^ 32 = all.0 in grind (arith, nat_tests)) in
    ap (λ (b : Bool). b && are_small places) first ∙ all_small places all.1

some_places : (n : ℕ) → 1 ≤ n → nat_le 1 n ≡ true
some_places n h = grind (arith, nat_tests)

-- it is a wrapped payment
pub wrapped_is_wrapper : (tx places : List ℕ) → length (wrapped tx places) < 2 ^ 64 → 1 ≤ length places → AllByRecursion (λ place. place < 2 ^ 32) places
    → is_wrapper (wrapped tx places) ≡ true
wrapped_is_wrapper tx places fits some small =
    let unit : List ℕ = wrapped tx places in
    let read : wrapped_places unit ≡ places = wrapped_places_are tx places fits small in
    let again : wrapped (wrapped_tx unit) (wrapped_places unit) ≡ unit = ap₂ wrapped (wrapped_tx_is tx places fits) read in
    let are : are_places (wrapped_places unit) ≡ true =
    ap are_places read ∙ ap₂ (λ (a b : Bool). a && b) (some_places (length places) some) (all_small places small) in
    ap₂ (λ (a b : Bool). a && b) are ((bytes_eq-Decides (wrapped (wrapped_tx unit) (wrapped_places unit)) unit).1 again)
