-- Messages with the fields of an extended header are read as it.
use Rattle.std.proofs.Common.{◌≡◌, ◌∙◌, inl, inr, ℕ, zero, suc, ◌≤◌, ◌<◌, ◌==◌, Bool, true, false, cond, eqb-true, false-eqb, List, [], ◌∷◌, ◌++◌, length, Option, Some, None, Result, Ok, option_and_then, refl, sym, ap, ap₂, subst, arith}
use Rattle.std.specs.Prelude.{⊤}
use Rattle.std.proofs.lemmas.Bool.Decides.{nat_tests}
use Rattle.std.proofs.lemmas.Option.{none-some, same_Some}
use Rattle.proto_fields.specs.Fields.{FieldParts, field_at, fields_of}
use Rattle.proto_fields.specs.Canonical.{part_field}
use Rattle.proto_fields.proofs.Options.{map_parts}
use Rattle.proto_fields.proofs.GroupLemmas.{field_shorter}
use Rattle.proto_fields.proofs.FieldLemmas.{no_fields, no_field, first_field}
use Rattle.celestia_pb.specs.declared.extended.Extended.{Extended}
use Rattle.celestia_pb.specs.Reading.{then_read, or_left, with_offset}
use Rattle.celestia_pb.specs.Headers.{dah_left}
use Rattle.celestia_pb.specs.Extended.{from_field, then_from, none_left, none_of, unless, one_field, bytes_of_value, lenient_part, with_rest, submessage, if_hash, hash_front, data_hash_left, header_left, roots_left, once_at_most, both_read, besides, extended_value}
use Rattle.namespace_id.specs.Sizes.{hash_size}
use Rattle.celestia_pb.specs.ExtendedLaws.{fields_numbered, IsOnceAtMost, HasDataHash, IsExtended}
use Rattle.celestia_pb.proofs.Steps.{placed_ok}
use Rattle.celestia_pb.proofs.ExtendedFields.{from-none, from_here, from_behind}

-- ---- the first field of a number

-- it is found, and the others are behind it
record IsFirst (n : ℕ) (bytes : List ℕ) (field : FieldParts) (later : List FieldParts) : Type 0 where
  from : List ℕ
  rest : List ℕ
  after : List FieldParts
  found : from_field n bytes ≡ Ok from
  front : field_at from ≡ Some (field, rest)
  are : fields_of rest ≡ Some after
  others : fields_numbered n after ≡ later

-- of the fields of a number that are there, the first one is found
abbrev AreThere : ℕ → List ℕ → List FieldParts → Type 0
AreThere n bytes [] = from_field n bytes ≡ Ok []
AreThere n bytes (field ∷ later) = IsFirst n bytes field later

-- also behind others
there_behind : (n : ℕ) (bytes rest : List ℕ) (found : List FieldParts) → from_field n bytes ≡ from_field n rest → AreThere n rest found → AreThere n bytes found
there_behind n bytes rest [] same h = same ∙ h
there_behind n bytes rest (field ∷ later) same h =
    record { from = h.from; rest = h.rest; after = h.after; found = same ∙ h.found; front = h.front; are = h.are; others = h.others }

-- by whether the field at the front has the number
there_front : (n : ℕ) (bytes : List ℕ) (read : FieldParts × List ℕ) (others : List FieldParts) (b : Bool) → field_at bytes ≡ Some read
    → fields_of read.1 ≡ Some others → AreThere n read.1 (fields_numbered n others) → (read.0.number == n) ≡ b
    → AreThere n bytes (cond b (read.0 ∷ []) [] ++ fields_numbered n others)
there_front n bytes read others true e are go is =
    record {
      from = bytes;
      rest = read.1;
      after = others;
      found = from_here n bytes read.1 read.0 e (eqb-true _ _ is);
      front = e;
      are = are;
      others = refl;
    }
there_front n bytes read others false e are go is =
    there_behind n bytes read.1 (fields_numbered n others) (from_behind n bytes read.1 read.0 e (false-eqb _ _ (sym is))) go

there_next : (n byte : ℕ) (bytes : List ℕ) (fields : List FieldParts)
    → ((behind : List ℕ) (others : List FieldParts) → length behind < length (byte ∷ bytes) → fields_of behind ≡ Some others → AreThere n behind (fields_numbered n others))
    → (o : Option (FieldParts × List ℕ)) → field_at (byte ∷ bytes) ≡ o → fields_of (byte ∷ bytes) ≡ Some fields → AreThere n (byte ∷ bytes) (fields_numbered n fields)
there_next n byte bytes fields go None e are = absurd (none-some fields (sym (no_field byte bytes e) ∙ are))
there_next n byte bytes fields go (Some read) e are =
    let h = map_parts (λ (some : List FieldParts). read.0 ∷ some) (fields_of read.1) fields (sym (first_field (byte ∷ bytes) read.1 read.0 e) ∙ are) in
    subst (λ (all : List FieldParts). AreThere n (byte ∷ bytes) (fields_numbered n all)) h.2
    (there_front n (byte ∷ bytes) read h.0 (read.0.number == n) e h.1 (go read.1 h.0 (field_shorter (byte ∷ bytes) read e) h.1) refl)

there_by : (more n : ℕ) (bytes : List ℕ) (fields : List FieldParts) → length bytes ≤ more → fields_of bytes ≡ Some fields → AreThere n bytes (fields_numbered n fields)
there_by more n [] fields few are =
    subst (λ (all : List FieldParts). AreThere n [] (fields_numbered n all)) (same_Some [] fields (sym no_fields ∙ are)) (from-none 0 n)
there_by zero n (byte ∷ bytes) fields few are = absurd (omega arith)
there_by (suc more) n (byte ∷ bytes) fields few are =
    there_next n byte bytes fields (λ behind others less e. there_by more n behind others (omega arith) e) (field_at (byte ∷ bytes)) refl are

-- so of all fields
there : (n : ℕ) (bytes : List ℕ) (fields found : List FieldParts) → fields_of bytes ≡ Some fields → fields_numbered n fields ≡ found → AreThere n bytes found
there n bytes fields found are is = subst (λ (l : List FieldParts). AreThere n bytes l) is (there_by (length bytes) n bytes fields (omega arith) are)

-- ---- what is read of them

-- no other one is refused
none_is : (n : ℕ) (bytes : List ℕ) (fields : List FieldParts) → fields_of bytes ≡ Some fields → fields_numbered n fields ≡ [] → none_of n bytes ≡ Ok tt
none_is n bytes fields are none = ap (then_from none_left) (there n bytes fields [] are none)

-- one that is bytes is shown, and no other one is behind it
module _ (n : ℕ) (bytes part : List ℕ) (first : IsFirst n bytes (part_field n part) []) where
  part_shown : lenient_part first.from ≡ Some (part, first.rest)
  part_shown = ap (option_and_then (λ (read : FieldParts × List ℕ). bytes_of_value read.0.value read.1)) first.front

  none_behind : none_of n first.rest ≡ Ok tt
  none_behind = none_is n first.rest first.after first.are first.others

-- the message in the one field of a number is read
message_is : {A : Type 0} (said : List ℕ → Result A ℕ) (n : ℕ) (bytes : List ℕ) (fields : List FieldParts) (part : List ℕ) (value : A)
    → fields_of bytes ≡ Some fields → fields_numbered n fields ≡ part_field n part ∷ [] → said part ≡ Ok value → one_field (submessage said) n bytes ≡ Ok value
message_is {A} said n bytes fields part value are one says =
    let first : IsFirst n bytes (part_field n part) [] = there n bytes fields (part_field n part ∷ []) are one in
    let next : A → List ℕ → Result A ℕ = λ v rest. unless v (none_of n rest) in
    let inside : List ℕ → List ℕ → Result (A × List ℕ) ℕ = λ l rest. with_rest rest (said l) in
    ap (then_from (λ (from : List ℕ). then_read next (submessage said from))) first.found
    ∙ ap (λ (o : Option (List ℕ × List ℕ)). then_read next (then_read inside (or_left first.from o))) (part_shown n bytes part first)
    ∙ ap (λ (r : Result A ℕ). then_read next (with_rest first.rest r)) says
    ∙ ap (unless value) (none_behind n bytes part first)

-- and the data hash in a block's header
hash_is : (header hash : List ℕ) → HasDataHash header hash → data_hash_left header ≡ Ok hash
hash_is header hash is =
    let first : IsFirst 7 header (part_field 7 hash) [] = there 7 header is.fields (part_field 7 hash ∷ []) is.are is.one in
    let next : List ℕ → List ℕ → Result (List ℕ) ℕ = λ v rest. unless v (none_of 7 rest) in
    let size : length hash ≡ hash_size = is.size in
    let test : (length hash == hash_size) ≡ true = grind (arith, nat_tests) in
    ap (then_from (λ (from : List ℕ). then_read next (or_left from (hash_front from)))) first.found
    ∙ ap (λ (o : Option (List ℕ × List ℕ)). then_read next (or_left first.from (option_and_then if_hash o))) (part_shown 7 header hash first)
    ∙ ap (λ (b : Bool). then_read next (or_left first.from (cond b (Some (hash, first.rest)) None))) test
    ∙ ap (unless hash) (none_behind 7 header hash first)

-- where a field is some bytes are
not_empty : (bytes rest : List ℕ) (field : FieldParts) → field_at bytes ≡ Some (field, rest) → (length bytes == 0) ≡ false
not_empty bytes rest field e =
    let some : 0 < length bytes = omega (arith, field_shorter bytes (field, rest) e) in
    grind (arith, nat_tests)

-- one at most is no more
once_is : (n : ℕ) (bytes : List ℕ) (fields : List FieldParts) → fields_of bytes ≡ Some fields → IsOnceAtMost n fields → once_at_most n bytes ≡ Ok tt
once_is n bytes fields are (inl none) =
    ap (then_from (λ (from : List ℕ). cond (length from == 0) (Ok tt) (then_read (λ (part rest : List ℕ). none_of n rest) (or_left from (lenient_part from)))))
    (there n bytes fields [] are none)
once_is n bytes fields are (inr one) =
    let part : List ℕ = one.0 in
    let first : IsFirst n bytes (part_field n part) [] = there n bytes fields (part_field n part ∷ []) are one.1 in
    let behind : List ℕ → List ℕ → Result ⊤ ℕ = λ l rest. none_of n rest in
    let some : (length first.from == 0) ≡ false = not_empty first.from first.rest (part_field n part) first.front in
    ap (then_from (λ (from : List ℕ). cond (length from == 0) (Ok tt) (then_read behind (or_left from (lenient_part from))))) first.found
    ∙ ap (λ (b : Bool). cond b (Ok tt) (then_read behind (or_left first.from (lenient_part first.from)))) some
    ∙ ap (λ (o : Option (List ℕ × List ℕ)). then_read behind (or_left first.from o)) (part_shown n bytes part first)
    ∙ none_behind n bytes part first

-- ---- what has these fields is read

pub fields_extended : (bytes : List ℕ) (x : Extended) → IsExtended bytes x → extended_value bytes ≡ Ok x
fields_extended bytes x is =
    let header : header_left bytes ≡ Ok x.data_hash =
    message_is data_hash_left 1 bytes is.fields is.header x.data_hash is.are is.one_header (hash_is is.header x.data_hash is.data_hash) in
    let roots : roots_left bytes ≡ Ok x.roots =
    message_is dah_left 4 bytes is.fields is.dah x.roots is.are is.one_dah (placed_ok (length is.dah) (dah_left is.dah) x.roots is.roots) in
    let commit = once_is 2 bytes is.fields is.are is.commit in
    let validators = once_is 3 bytes is.fields is.are is.validators in
    ap (with_offset (length bytes)) (ap₂ besides (ap₂ besides (ap₂ both_read header roots) commit) validators)
