-- Fields in their one spelling, written and read.
use Rattle.std.proofs.Common.{◌≡◌, ◌≢◌, ◌∙◌, ℕ, zero, suc, ◌+◌, ◌*◌, ◌^◌, ◌<◌, Bool, true, false, cond, eqb, false-eqb, lt-ltb, List, [], ◌∷◌, ◌++◌, length, Option, Some, None, option_map, option_and_then, refl, sym, ap, ap₂, arith}
use Rattle.std.proofs.lemmas.Bool.{and_from}
use Rattle.std.proofs.lemmas.Bool.Decides.{nat_tests}
use Rattle.std.proofs.lemmas.Option.{some_pair_parts}
use Rattle.std.proofs.NetLemmas.Options.{cond_none}
use Rattle.namespace_id.specs.Bytes.{AreBytes}
use Rattle.proto_fields.specs.Varints.{varint}
use Rattle.proto_fields.specs.Fields.{FieldParts, number_value, is_field_number, field_at, fields_of}
use Rattle.proto_fields.specs.Spelled.{text, bytes_field, number_field}
use Rattle.proto_fields.specs.Canonical.{number_text, bytes_text, number_fields, bytes_fields, part_field, shortest_at, part_at, begins, begins_part, if_some_number, canonical_number, if_some_bytes, canonical_bytes, canonical_part}
use Rattle.proto_fields.proofs.Options.{and_then_parts}
use Rattle.proto_fields.proofs.Varint.Bytes.{varint-low}
use Rattle.proto_fields.proofs.FieldLemmas.{first_field}
use Rattle.proto_fields.proofs.WrittenLemmas.{bytes_field_is_read, number_field_is_read}
use Rattle.proto_fields.proofs.CanonicalVarints.{shortest_is_read, read_is_shortest, part_is_read, read_is_part}

-- ---- tags

-- a tag is itself
eqb_self : (tag : ℕ) → eqb tag tag ≡ true
eqb_self tag = grind (arith, nat_tests)

-- two numbers that are one
eqb_same : (a b : ℕ) → eqb a b ≡ true → a ≡ b
eqb_same a b e = grind (arith, nat_tests)

-- a number above 0 isn't 0
eqb_suc : (n : ℕ) → eqb (suc n) 0 ≡ false
eqb_suc n = grind (arith, nat_tests)

-- the field of a number begins with its tag
pub number_field-is : (n value : ℕ) → n < 16 → number_field n value ≡ (8 * n) ∷ varint value
number_field-is n value few = ap (λ (l : List ℕ). l ++ varint value) (varint-low (8 * n) (omega arith))

-- and that of bytes
pub bytes_field-is : (n : ℕ) (bytes : List ℕ) → n < 16 → bytes_field n bytes ≡ (8 * n + 2) ∷ text bytes
bytes_field-is n bytes few = ap (λ (l : List ℕ). l ++ text bytes) (varint-low (8 * n + 2) (omega arith))

-- a number from 1 to 15 is one of a field
numbered : (n : ℕ) → 0 < n → n < 16 → is_field_number n ≡ true
numbered n some few = and_from _ _ (lt-ltb 0 n some) (lt-ltb n (2 ^ 29) (omega arith))

-- ---- numbers that are written

-- 0 has no field
number_text-none : (n : ℕ) → number_text n 0 ≡ []
number_text-none n = refl

-- another number has one
pub number_text-some : (n value : ℕ) → 0 < value → number_text n value ≡ number_field n value
number_text-some n zero some = absurd (omega arith)
number_text-some n (suc value) some = ap (λ (b : Bool). cond b [] (number_field n (suc value))) (eqb_suc value)

-- and so of the fields that these are
number_fields-some : (n value : ℕ) → 0 < value → number_fields n value ≡ record { number = n; value = number_value value } ∷ []
number_fields-some n zero some = absurd (omega arith)
number_fields-some n (suc value) some = ap (λ (b : Bool). cond b [] (record { number = n; value = number_value (suc value) } ∷ [])) (eqb_suc value)

-- where the tag isn't in front the number is 0
number_absent : (n : ℕ) (rest : List ℕ) → begins (8 * n) rest ≡ false → canonical_number n rest ≡ Some (0, rest)
number_absent n [] none = refl
number_absent n (byte ∷ bytes) none = ap (λ (b : Bool). cond b (option_and_then if_some_number (shortest_at bytes)) (Some (0, byte ∷ bytes))) none

-- a number that isn't 0 is read
number_there : (n value : ℕ) (rest : List ℕ) → 0 < value → value < 2 ^ 64 → canonical_number n ((8 * n) ∷ varint value ++ rest) ≡ Some (value, rest)
number_there n value rest some lt =
    let not_zero : eqb value 0 ≡ false = grind (arith, nat_tests) in
    ap (λ (b : Bool). cond b (option_and_then if_some_number (shortest_at (varint value ++ rest))) (Some (0, (8 * n) ∷ varint value ++ rest))) (eqb_self (8 * n))
    ∙ ap (option_and_then if_some_number) (shortest_is_read value rest lt)
    ∙ ap (λ (b : Bool). cond b None (Some (value, rest))) not_zero

-- a number is read back, where no other field of its tag follows
pub number_is_read : (n value : ℕ) (rest : List ℕ) → n < 16 → value < 2 ^ 64 → begins (8 * n) rest ≡ false
    → canonical_number n (number_text n value ++ rest) ≡ Some (value, rest)
number_is_read n zero rest few lt none = number_absent n rest none
number_is_read n (suc value) rest few lt none =
    ap (λ (l : List ℕ). canonical_number n (l ++ rest)) (number_text-some n (suc value) (omega arith) ∙ number_field-is n (suc value) few)
    ∙ number_there n (suc value) rest (omega arith) lt

-- ---- numbers that are read

-- what is read behind a tag is the field
number_behind : (n byte value : ℕ) (bytes rest : List ℕ) (b : Bool) → eqb byte (8 * n) ≡ b → n < 16 → AreBytes bytes
    → cond b (option_and_then if_some_number (shortest_at bytes)) (Some (0, byte ∷ bytes)) ≡ Some (value, rest)
    → (value < 2 ^ 64) × (byte ∷ bytes ≡ number_text n value ++ rest)
number_behind n byte value bytes rest true is few fits e =
    let read = and_then_parts if_some_number (shortest_at bytes) (value, rest) e in
    let test = cond_none (eqb read.0.0 0) (Some read.0) (value, rest) read.2 in
    let same = some_pair_parts read.0.0 value read.0.1 rest test.1 in
    let not_zero : read.0.0 ≢ 0 = false-eqb read.0.0 0 (sym test.0) in
    let some : 0 < value = let first : read.0.0 ≡ value = same.0 in omega arith in
    let spelled = read_is_shortest bytes rest value fits (read.1 ∙ test.1) in (
      spelled.0,
      ap₂ (λ (x : ℕ) (l : List ℕ). x ∷ l) (eqb_same byte (8 * n) is) spelled.1
          ∙ sym (ap (λ (l : List ℕ). l ++ rest) (number_text-some n value some ∙ number_field-is n value few)),
    )
number_behind n byte value bytes rest false is few fits e =
    let same = some_pair_parts 0 value (byte ∷ bytes) rest e in
    (omega (arith, same.0), same.1 ∙ ap (λ (m : ℕ). number_text n m ++ rest) same.0)

-- what is read as a number was written so
pub read_is_number : (n value : ℕ) (bytes rest : List ℕ) → n < 16 → AreBytes bytes → canonical_number n bytes ≡ Some (value, rest)
    → (value < 2 ^ 64) × (bytes ≡ number_text n value ++ rest)
read_is_number n value [] rest few fits e =
    let same = some_pair_parts 0 value [] rest e in
    (omega (arith, same.0), same.1 ∙ ap (λ (m : ℕ). number_text n m ++ rest) same.0)
read_is_number n value (byte ∷ bytes) rest few fits e =
    number_behind n byte value bytes rest (eqb byte (8 * n)) refl few (λ i. fits (suc i)) e

-- ---- bytes that are written

-- some bytes have a field
pub bytes_text-some : (n : ℕ) (bytes : List ℕ) → 0 < length bytes → bytes_text n bytes ≡ bytes_field n bytes
bytes_text-some n [] some = absurd (omega arith)
bytes_text-some n (byte ∷ bytes) some = ap (λ (b : Bool). cond b [] (bytes_field n (byte ∷ bytes))) (eqb_suc (length bytes))

-- where the tag isn't in front there are no bytes
bytes_absent : (n : ℕ) (rest : List ℕ) → begins_part n rest ≡ false → canonical_bytes n rest ≡ Some ([], rest)
bytes_absent n [] none = refl
bytes_absent n (byte ∷ bytes) none = ap (λ (b : Bool). cond b (option_and_then if_some_bytes (part_at bytes)) (Some ([], byte ∷ bytes))) none

-- bytes that aren't none are read
bytes_there : (n byte : ℕ) (bytes rest : List ℕ) → length (byte ∷ bytes) < 2 ^ 64
    → canonical_bytes n ((8 * n + 2) ∷ text (byte ∷ bytes) ++ rest) ≡ Some (byte ∷ bytes, rest)
bytes_there n byte bytes rest lt =
    let behind : List ℕ = text (byte ∷ bytes) ++ rest in
    ap (λ (b : Bool). cond b (option_and_then if_some_bytes (part_at behind)) (Some ([], (8 * n + 2) ∷ behind))) (eqb_self (8 * n + 2))
    ∙ ap (option_and_then if_some_bytes) (part_is_read (byte ∷ bytes) rest lt)
    ∙ ap (λ (b : Bool). cond b None (Some (byte ∷ bytes, rest))) (eqb_suc (length bytes))

-- bytes are read back, where no other field of their tag follows
pub bytes_are_read : (n : ℕ) (bytes rest : List ℕ) → n < 16 → length bytes < 2 ^ 64 → begins_part n rest ≡ false
    → canonical_bytes n (bytes_text n bytes ++ rest) ≡ Some (bytes, rest)
bytes_are_read n [] rest few lt none = bytes_absent n rest none
bytes_are_read n (byte ∷ bytes) rest few lt none =
    ap (λ (l : List ℕ). canonical_bytes n (l ++ rest)) (bytes_text-some n (byte ∷ bytes) (omega arith) ∙ bytes_field-is n (byte ∷ bytes) few)
    ∙ bytes_there n byte bytes rest lt

-- ---- bytes that are read

-- the first of a pair that is there
abbrev first_of : Option (List ℕ × List ℕ) → List ℕ
first_of None = []
first_of (Some x) = x.0

-- the second of a pair that is there
abbrev second_of : Option (List ℕ × List ℕ) → List ℕ
second_of None = []
second_of (Some x) = x.1

-- what isn't there was written by nothing
bytes_nothing : (n : ℕ) (bytes part rest : List ℕ) → ◌≡◌ {A = Option (List ℕ × List ℕ)} (Some ([], bytes)) (Some (part, rest))
    → (length part < 2 ^ 64) × (bytes ≡ bytes_text n part ++ rest)
bytes_nothing n bytes part rest e =
    let front : [] ≡ part = ap (λ (p : Option (List ℕ × List ℕ)). first_of p) e in
    let back : bytes ≡ rest = ap (λ (p : Option (List ℕ × List ℕ)). second_of p) e in
    (omega (arith, ap length front), back ∙ ap (λ (l : List ℕ). bytes_text n l ++ rest) front)

-- what is read behind a tag is the field
bytes_behind : (n byte : ℕ) (bytes part rest : List ℕ) (b : Bool) → eqb byte (8 * n + 2) ≡ b → n < 16 → AreBytes bytes
    → cond b (option_and_then if_some_bytes (part_at bytes)) (Some ([], byte ∷ bytes)) ≡ Some (part, rest)
    → (length part < 2 ^ 64) × (byte ∷ bytes ≡ bytes_text n part ++ rest)
bytes_behind n byte bytes part rest true is few fits e =
    let read = and_then_parts if_some_bytes (part_at bytes) (part, rest) e in
    let test = cond_none (eqb (length read.0.0) 0) (Some read.0) (part, rest) read.2 in
    let not_zero : length read.0.0 ≢ 0 = false-eqb (length read.0.0) 0 (sym test.0) in
    let some : 0 < length part = omega (arith, ap (λ (p : Option (List ℕ × List ℕ)). length (first_of p)) test.1) in
    let spelled = read_is_part bytes part rest fits (read.1 ∙ test.1) in (
      spelled.0,
      ap₂ (λ (x : ℕ) (l : List ℕ). x ∷ l) (eqb_same byte (8 * n + 2) is) spelled.1
          ∙ sym (ap (λ (l : List ℕ). l ++ rest) (bytes_text-some n part some ∙ bytes_field-is n part few)),
    )
bytes_behind n byte bytes part rest false is few fits e = bytes_nothing n (byte ∷ bytes) part rest e

-- what is read as bytes was written so
pub read_are_bytes : (n : ℕ) (bytes part rest : List ℕ) → n < 16 → AreBytes bytes → canonical_bytes n bytes ≡ Some (part, rest)
    → (length part < 2 ^ 64) × (bytes ≡ bytes_text n part ++ rest)
read_are_bytes n [] part rest few fits e = bytes_nothing n [] part rest e
read_are_bytes n (byte ∷ bytes) part rest few fits e =
    bytes_behind n byte bytes part rest (eqb byte (8 * n + 2)) refl few (λ i. fits (suc i)) e

-- ---- bytes that are there, also none

-- they are read back, whatever follows
pub part_read_back : (n : ℕ) (bytes rest : List ℕ) → n < 16 → length bytes < 2 ^ 64 → canonical_part n (bytes_field n bytes ++ rest) ≡ Some (bytes, rest)
part_read_back n bytes rest few lt =
    let behind : List ℕ = text bytes ++ rest in
    ap (λ (l : List ℕ). canonical_part n (l ++ rest)) (bytes_field-is n bytes few)
    ∙ ap (λ (b : Bool). cond b (part_at behind) None) (eqb_self (8 * n + 2))
    ∙ part_is_read bytes rest lt

-- what is read behind a tag is the field
part_behind : (n byte : ℕ) (bytes part rest : List ℕ) (b : Bool) → eqb byte (8 * n + 2) ≡ b → n < 16 → AreBytes bytes
    → cond b (part_at bytes) None ≡ Some (part, rest) → (length part < 2 ^ 64) × (byte ∷ bytes ≡ bytes_field n part ++ rest)
part_behind n byte bytes part rest true is few fits e =
    let spelled = read_is_part bytes part rest fits e in (
      spelled.0,
      ap₂ (λ (x : ℕ) (l : List ℕ). x ∷ l) (eqb_same byte (8 * n + 2) is) spelled.1
          ∙ sym (ap (λ (l : List ℕ). l ++ rest) (bytes_field-is n part few)),
    )
part_behind n byte bytes part rest false is few fits e = absurd cc

-- what is read was written so
pub read_is_part_field : (n : ℕ) (bytes part rest : List ℕ) → n < 16 → AreBytes bytes → canonical_part n bytes ≡ Some (part, rest)
    → (length part < 2 ^ 64) × (bytes ≡ bytes_field n part ++ rest)
read_is_part_field n [] part rest few fits e = absurd cc
read_is_part_field n (byte ∷ bytes) part rest few fits e =
    part_behind n byte bytes part rest (eqb byte (8 * n + 2)) refl few (λ i. fits (suc i)) e

-- ---- lenient reading says the same

-- a field that lenient reading has in front is the first one
first_is : (bytes rest : List ℕ) (field : FieldParts) (fields : List FieldParts) → field_at bytes ≡ Some (field, rest) → fields_of rest ≡ Some fields
    → fields_of bytes ≡ Some (field ∷ fields)
first_is bytes rest field fields e others = first_field bytes rest field e ∙ ap (option_map (λ fields. field ∷ fields)) others

-- of a number that was written
pub number_fields_of : (n value : ℕ) (rest : List ℕ) (fields : List FieldParts) → 0 < n → n < 16 → value < 2 ^ 64 → fields_of rest ≡ Some fields
    → fields_of (number_text n value ++ rest) ≡ Some (number_fields n value ++ fields)
number_fields_of n zero rest fields some few lt others = others
number_fields_of n (suc value) rest fields some few lt others =
    ap (λ (l : List ℕ). fields_of (l ++ rest)) (number_text-some n (suc value) (omega arith))
    ∙ first_is (number_field n (suc value) ++ rest) rest (record { number = n; value = number_value (suc value) }) fields (number_field_is_read n (suc value) rest (numbered n some few) lt) others
    ∙ ap (λ (l : List FieldParts). Some (l ++ fields)) (sym (number_fields-some n (suc value) (omega arith)))

-- of bytes that were written, also of none
pub part_fields_of : (n : ℕ) (bytes rest : List ℕ) (fields : List FieldParts) → 0 < n → n < 16 → length bytes < 2 ^ 64 → fields_of rest ≡ Some fields
    → fields_of (bytes_field n bytes ++ rest) ≡ Some (part_field n bytes ∷ fields)
part_fields_of n bytes rest fields some few lt others =
    first_is (bytes_field n bytes ++ rest) rest (part_field n bytes) fields (bytes_field_is_read n bytes rest (numbered n some few) lt) others

-- of bytes that were written, unless they are none
pub bytes_fields_of : (n : ℕ) (bytes rest : List ℕ) (fields : List FieldParts) → 0 < n → n < 16 → length bytes < 2 ^ 64 → fields_of rest ≡ Some fields
    → fields_of (bytes_text n bytes ++ rest) ≡ Some (bytes_fields n bytes ++ fields)
bytes_fields_of n [] rest fields some few lt others = others
bytes_fields_of n (byte ∷ bytes) rest fields some few lt others =
    ap (λ (l : List ℕ). fields_of (l ++ rest)) (bytes_text-some n (byte ∷ bytes) (omega arith))
    ∙ part_fields_of n (byte ∷ bytes) rest fields some few lt others
    ∙ ap (λ (b : Bool). Some (cond b [] (part_field n (byte ∷ bytes) ∷ []) ++ fields)) (sym (eqb_suc (length bytes)))

-- of what was read
pub number_is_common : (n value : ℕ) (bytes rest : List ℕ) (fields : List FieldParts) → 0 < n → n < 16 → AreBytes bytes → canonical_number n bytes ≡ Some (value, rest)
    → fields_of rest ≡ Some fields → fields_of bytes ≡ Some (number_fields n value ++ fields)
number_is_common n value bytes rest fields some few fits e others =
    let h = read_is_number n value bytes rest few fits e in
    ap fields_of h.1 ∙ number_fields_of n value rest fields some few h.0 others

pub bytes_are_common : (n : ℕ) (bytes part rest : List ℕ) (fields : List FieldParts) → 0 < n → n < 16 → AreBytes bytes → canonical_bytes n bytes ≡ Some (part, rest)
    → fields_of rest ≡ Some fields → fields_of bytes ≡ Some (bytes_fields n part ++ fields)
bytes_are_common n bytes part rest fields some few fits e others =
    let h = read_are_bytes n bytes part rest few fits e in
    ap fields_of h.1 ∙ bytes_fields_of n part rest fields some few h.0 others

pub part_is_common : (n : ℕ) (bytes part rest : List ℕ) (fields : List FieldParts) → 0 < n → n < 16 → AreBytes bytes → canonical_part n bytes ≡ Some (part, rest)
    → fields_of rest ≡ Some fields → fields_of bytes ≡ Some (part_field n part ∷ fields)
part_is_common n bytes part rest fields some few fits e others =
    let h = read_is_part_field n bytes part rest few fits e in
    ap fields_of h.1 ∙ part_fields_of n part rest fields some few h.0 others
