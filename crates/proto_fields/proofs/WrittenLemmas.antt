-- Fields that are written, read back.
use Rattle.std.proofs.Common.{◌≡◌, ◌∙◌, ℕ, zero, suc, ◌+◌, ◌*◌, ◌/◌, ◌%◌, ◌^◌, ◌<◌, Bool, true, cond, le-leb, ltb, ltb-true, List, ◌++◌, length, take, drop, Some, None, option_map, option_and_then, refl, ap, ap₂, arith, append_assoc, length-append}
use Rattle.std.proofs.lemmas.Bool.{and_parts}
use Rattle.std.proofs.lemmas.List.{take_at, drop_at}
use Rattle.proto_fields.specs.declared.tags.Tag.{Tag}
use Rattle.proto_fields.specs.declared.tags.Wire.{Wire}
use Rattle.proto_fields.specs.declared.tags.Wire.TheVariants.{Varint, Delimited}
use Rattle.proto_fields.specs.Varints.{varint, number_at}
use Rattle.proto_fields.specs.Fields.{ValueParts, number_value, bytes_value, wire_of, is_field_number, tag_of, tag_at, bytes_at, text_at, value_at, most_open, field_at}
use Rattle.proto_fields.specs.Spelled.{text, bytes_field, number_field, field_size, number_size}
use Rattle.proto_fields.proofs.Varint.Read.{varint_is_read}

-- the tag of a number and a wire
tag_is : (n code : ℕ) (wire : Wire) → is_field_number n ≡ true → code < 8 → wire_of code ≡ Some wire
    → tag_of (8 * n + code) ≡ Some (record { number = n; wire = wire })
tag_is n code wire numbered low is =
    let number : (8 * n + code) / 8 ≡ n = omega arith in
    let rest : (8 * n + code) % 8 ≡ code = omega arith in
    ap₂ (λ (number rest : ℕ). cond (is_field_number number) (option_map (λ wire. record { number = number; wire = wire }) (wire_of rest)) None) number rest
    ∙ ap (λ (b : Bool). cond b (option_map (λ wire. record { number = n; wire = wire }) (wire_of code)) None) numbered
    ∙ ap (option_map (λ wire. record { number = n; wire = wire })) is

-- it is below 2 ^ 32
tag_fits : (n code : ℕ) → is_field_number n ≡ true → code < 8 → 8 * n + code < 2 ^ 64
tag_fits n code numbered low =
    let both = and_parts (ltb 0 n) (ltb n (2 ^ 29)) numbered in
    let few = ltb-true n (2 ^ 29) both.1 in
    omega arith

-- it is read back
tag_is_read : (n code : ℕ) (wire : Wire) (rest : List ℕ) → is_field_number n ≡ true → code < 8 → wire_of code ≡ Some wire
    → tag_at (varint (8 * n + code) ++ rest) ≡ Some (record { number = n; wire = wire }, rest)
tag_is_read n code wire rest numbered low is =
    ap (option_and_then (λ read. option_map (λ tag. (tag, read.1)) (tag_of read.0))) (varint_is_read (8 * n + code) rest (tag_fits n code numbered low))
    ∙ ap (option_map (λ tag. (tag, rest))) (tag_is n code wire numbered low is)

-- so many bytes are read
bytes_are_read : (bytes rest : List ℕ) → bytes_at (length bytes) (bytes ++ rest) ≡ Some (bytes, rest)
bytes_are_read bytes rest =
    ap (λ (b : Bool). cond b (Some (take (length bytes) (bytes ++ rest), drop (length bytes) (bytes ++ rest))) None)
    (le-leb (length bytes) (length (bytes ++ rest)) (omega (arith, length-append bytes rest)))
    ∙ ap₂ (λ (front back : List ℕ). Some (front, back)) (take_at bytes rest (length bytes) refl) (drop_at bytes rest (length bytes) refl)

-- bytes behind their length are read back
text_is_read : (bytes rest : List ℕ) → length bytes < 2 ^ 64 → text_at (text bytes ++ rest) ≡ Some (bytes, rest)
text_is_read bytes rest fits =
    ap text_at (append_assoc (varint (length bytes)) bytes rest)
    ∙ ap (option_and_then (λ read. bytes_at read.0 read.1)) (varint_is_read (length bytes) (bytes ++ rest) fits)
    ∙ bytes_are_read bytes rest

-- a value that is no group is read by its wire
value_plain : (most : ℕ) (n : ℕ) (bytes : List ℕ) → (value_at most (record { number = n; wire = Delimited }) bytes ≡ option_map (λ read. (bytes_value read.0, read.1)) (text_at bytes))
    × (value_at most (record { number = n; wire = Varint }) bytes ≡ option_map (λ read. (number_value read.0, read.1)) (number_at bytes))
unfolding value_at
value_plain zero n bytes = (refl, refl)
value_plain (suc most) n bytes = (refl, refl)

-- a field is read back by its tag and its value
field_is_read : (tag : Tag) (value : ValueParts) (bytes after rest : List ℕ) → tag_at bytes ≡ Some (tag, after) → value_at most_open tag after ≡ Some (value, rest)
    → field_at bytes ≡ Some (record { number = tag.number; value = value }, rest)
field_is_read tag value bytes after rest e is =
    ap (option_and_then (λ read. option_map (λ value. (record { number = read.0.number; value = value.0 }, value.1)) (value_at most_open read.0 read.1))) e
    ∙ ap (option_map (λ value. (record { number = tag.number; value = value.0 }, value.1))) is

-- a field of bytes is read back, whatever follows it
pub bytes_field_is_read : (n : ℕ) (bytes rest : List ℕ) → is_field_number n ≡ true → length bytes < 2 ^ 64
    → field_at (bytes_field n bytes ++ rest) ≡ Some (record { number = n; value = bytes_value bytes }, rest)
bytes_field_is_read n bytes rest numbered fits =
    let tag : Tag = record { number = n; wire = Delimited } in
    let value : value_at most_open tag (text bytes ++ rest) ≡ Some (bytes_value bytes, rest) =
    (value_plain most_open n (text bytes ++ rest)).0 ∙ ap (option_map (λ read. (bytes_value read.0, read.1))) (text_is_read bytes rest fits) in
    ap field_at (append_assoc (varint (8 * n + 2)) (text bytes) rest)
    ∙ field_is_read tag (bytes_value bytes) (varint (8 * n + 2) ++ (text bytes ++ rest)) (text bytes ++ rest) rest
    (tag_is_read n 2 Delimited (text bytes ++ rest) numbered (omega arith) refl) value

-- and so is a field of a number
pub number_field_is_read : (n value : ℕ) (rest : List ℕ) → is_field_number n ≡ true → value < 2 ^ 64
    → field_at (number_field n value ++ rest) ≡ Some (record { number = n; value = number_value value }, rest)
number_field_is_read n value rest numbered fits =
    let tag : Tag = record { number = n; wire = Varint } in
    let is : value_at most_open tag (varint value ++ rest) ≡ Some (number_value value, rest) =
    (value_plain most_open n (varint value ++ rest)).1 ∙ ap (option_map (λ read. (number_value read.0, read.1))) (varint_is_read value rest fits) in
    ap field_at (append_assoc (varint (8 * n)) (varint value) rest)
    ∙ field_is_read tag (number_value value) (varint (8 * n) ++ (varint value ++ rest)) (varint value ++ rest) rest
    (ap (λ (tag : ℕ). tag_at (varint tag ++ (varint value ++ rest))) (omega arith)
    ∙ tag_is_read n 0 Varint (varint value ++ rest) numbered (omega arith) refl) is

-- a field of bytes takes as many bytes as counted
pub size_is_length : (n : ℕ) (bytes : List ℕ) → length (bytes_field n bytes) ≡ field_size n (length bytes)
size_is_length n bytes = omega (arith, length-append (varint (8 * n + 2)) (text bytes), length-append (varint (length bytes)) bytes)

-- and a field of a number
pub number_size_is_length : (n value : ℕ) → length (number_field n value) ≡ number_size n value
number_size_is_length n value = length-append (varint (8 * n)) (varint value)
