-- The blobs that a payment carries, one after another.
use Rattle.std.proofs.Common.{true, false, if◌then◌else◌, ◌≡◌, ◌∙◌, ◌↔◌, ℕ, ◌≤◌, ◌==◌, Bool, List, [], ◌∷◌, ◌++◌, length, Option, Some, None, refl, sym, ap, arith}
use Rattle.std.specs.Option.{is_some, option_map_or}
use Rattle.std.specs.Prelude.{option_map, IsSome, IfSome}
use Rattle.std.proofs.lemmas.Bool.{true≢false}
use Rattle.proto_fields.specs.Fields.{ValueParts, number_value, bytes_value, other_value, FieldParts, field_at, fields_of, bytes_of, own_bytes, all_bytes}
use Rattle.proto_fields.proofs.FieldLemmas.{first_field, still_fields}
use Rattle.tx_list.specs.Reads.{are_fields, payment_entries}
use Rattle.tx_list.specs.Walks.{bytes_value_of}

-- ---- one field

-- the blob that a field carries is the one of its own
pub own_some : (b : Bool) (value : ValueParts) (entry : List ℕ) → (if b then bytes_value_of value else None) ≡ Some entry
    → (if b then bytes_of value else []) ≡ entry ∷ []
own_some true (number_value number) entry h = absurd cc
own_some true (bytes_value bytes) entry h = let e : bytes ≡ entry = cc in ap (λ (l : List ℕ). l ∷ []) e
own_some true other_value entry h = absurd cc
own_some false value entry h = absurd cc

pub own_none : (b : Bool) (value : ValueParts) → (if b then bytes_value_of value else None) ≡ None → (if b then bytes_of value else []) ≡ []
own_none true (number_value number) h = refl
own_none true (bytes_value bytes) h = absurd cc
own_none true other_value h = refl
own_none false value h = refl

-- it carries one at most
own_few_by : (b : Bool) (value : ValueParts) → length (if b then bytes_of value else []) ≤ 1
own_few_by true (number_value number) = omega arith
own_few_by true (bytes_value bytes) = omega arith
own_few_by true other_value = omega arith
own_few_by false value = omega arith

pub own_few : (n : ℕ) (field : FieldParts) → length (own_bytes n field) ≤ 1
own_few n field = own_few_by (field.number == n) field.value

-- ---- the fields behind one

-- all bytes of a field and the fields behind it
all_cons : (field : FieldParts) (some : Option (List FieldParts)) (all : Option (List FieldParts)) → is_some some ≡ true
    → all ≡ option_map (λ fields. field ∷ fields) some
    → all_bytes 2 (option_map_or (λ fields. fields) all []) ≡ own_bytes 2 field ++ all_bytes 2 (option_map_or (λ fields. fields) some [])
all_cons field None all h e = absurd (true≢false (sym h))
all_cons field (Some fields) all h e = ap (λ (o : Option (List FieldParts)). all_bytes 2 (option_map_or (λ fields. fields) o [])) e

-- behind a field of fields are fields, and their blobs are left
fields_step : (bytes rest : List ℕ) (field : FieldParts) → field_at bytes ≡ Some (field, rest) → are_fields bytes ≡ true → are_fields rest ≡ true
fields_step bytes rest field at h = still_fields bytes rest field at ∙ h

pub entries_step : (bytes rest : List ℕ) (field : FieldParts) → field_at bytes ≡ Some (field, rest) → are_fields bytes ≡ true
    → payment_entries bytes ≡ own_bytes 2 field ++ payment_entries rest
entries_step bytes rest field at h =
    all_cons field (fields_of rest) (fields_of bytes) (fields_step bytes rest field at h) (first_field bytes rest field at)

-- ---- the last of a number

-- bytes that are fields have them
pub fields_some : (bytes : List ℕ) → are_fields bytes ≡ true → IsSome (fields_of bytes)
fields_some bytes h = elim (fields_of bytes) as (λ o. is_some o ≡ true → IsSome o) [ None ↦ (λ e. absurd (true≢false (sym e))) | Some fields ↦ (λ e. refl) ] h

-- what holds of the fields that bytes are holds of those in them
pub in_fields : (P : List FieldParts → Type 0) (all : Option (List FieldParts)) → is_some all ≡ true → IfSome all P
    → P (option_map_or (λ fields. fields) all [])
in_fields P None h holds = absurd (true≢false (sym h))
in_fields P (Some fields) h holds = holds

-- two tests that hold together are one
pub same_test : (a b : Bool) → ((a ≡ true) ↔ (b ≡ true)) → a ≡ b
same_test true b h = sym (h.0 refl)
same_test false true h = h.1 refl
same_test false false h = refl
