-- What is read as an extended header has these fields.
use Rattle.std.proofs.Common.{◌≡◌, ◌∙◌, ◌⊎◌, inl, inr, ⊎_elim, ℕ, zero, suc, ◌==◌, Bool, true, false, cond, eqb-true, List, [], ◌∷◌, ◌++◌, length, Option, Some, None, Result, Ok, Err, option_map, option_and_then, refl, sym, ap, ap₂, subst, arith, append-nil}
use Rattle.std.specs.Prelude.{⊤}
use Rattle.std.proofs.lemmas.Bool.Decides.{nat_tests}
use Rattle.std.proofs.lemmas.List.{nil_from_length}
use Rattle.std.proofs.lemmas.Grind.{flat_map-append}
use Rattle.std.proofs.lemmas.Option.{cond_some, same_Some}
use Rattle.proto_fields.specs.Fields.{ValueParts, number_value, bytes_value, other_value, FieldParts, field_at, fields_of}
use Rattle.proto_fields.specs.Canonical.{part_field}
use Rattle.proto_fields.proofs.Options.{and_then_parts}
use Rattle.proto_fields.proofs.GroupLemmas.{field_shorter}
use Rattle.proto_fields.proofs.FieldLemmas.{no_fields, first_field}
use Rattle.data_header.specs.Headers.{Roots}
use Rattle.celestia_pb.specs.declared.extended.Extended.{Extended}
use Rattle.celestia_pb.specs.Reading.{then_read, or_left, with_offset}
use Rattle.celestia_pb.specs.Headers.{dah_left}
use Rattle.celestia_pb.specs.Extended.{from_or, from_within, from_field, then_from, none_left, none_of, unless, one_field, bytes_of_value, lenient_part, with_rest, submessage, if_hash, hash_front, data_hash_left, header_left, roots_left, once_at_most, both_read, besides, extended_left, extended_value}
use Rattle.namespace_id.specs.Sizes.{hash_size}
use Rattle.celestia_pb.specs.ExtendedLaws.{own_field, fields_numbered, IsOnceAtMost, HasDataHash, IsExtended}
use Rattle.celestia_pb.proofs.Steps.{same_ok, cond_ok, then_ok, placed_ok}
use Rattle.celestia_pb.proofs.ExtendedFields.{from-none, from-zero, from-next}

-- ---- steps

-- both steps succeeded
from_ok : {A : Type 0} (next : List ℕ → Result A ℕ) (r : Result (List ℕ) ℕ) (y : A) → then_from next r ≡ Ok y → (from : List ℕ) × (r ≡ Ok from) × (next from ≡ Ok y)
from_ok next (Ok from) y e = (from, refl, e)
from_ok next (Err left) y e = absurd cc

-- nothing was wrong besides
unless_ok : {A : Type 0} (value y : A) (r : Result ⊤ ℕ) → unless value r ≡ Ok y → (value ≡ y) × (right : ⊤) × (r ≡ Ok right)
unless_ok value y (Ok right) e = (same_ok value y e, right, refl)
unless_ok value y (Err left) e = absurd cc

-- what was there was read
or_left_ok : {A : Type 0} (bytes : List ℕ) (o : Option A) (x : A) → or_left bytes o ≡ Ok x → o ≡ Some x
or_left_ok bytes None x e = absurd cc
or_left_ok bytes (Some y) x e = ap (λ z. Some z) (same_ok y x e)

-- a message said so
with_rest_ok : {A : Type 0} (rest behind : List ℕ) (r : Result A ℕ) (value : A) → with_rest rest r ≡ Ok (value, behind) → (r ≡ Ok value) × (rest ≡ behind)
with_rest_ok {A} rest behind (Ok x) value e =
    let same : ◌≡◌ {A = A × List ℕ} (x, rest) (value, behind) = same_ok (x, rest) (value, behind) e in
    (ap (λ (z : A × List ℕ). Ok z.0) same, ap (λ (z : A × List ℕ). z.1) same)
with_rest_ok rest behind (Err left) value e = absurd cc

-- both were read
both_ok : (r : Result (List ℕ) ℕ) (s : Result Roots ℕ) (x : Extended) → both_read r s ≡ Ok x → (r ≡ Ok x.data_hash) × (s ≡ Ok x.roots)
both_ok (Ok data_hash) (Ok roots) x e =
    let same : record { data_hash = data_hash; roots = roots } ≡ x = same_ok (record { data_hash = data_hash; roots = roots }) x e in
    (ap (λ (y : Extended). Ok y.data_hash) same, ap (λ (y : Extended). Ok y.roots) same)
both_ok (Ok data_hash) (Err left) x e = absurd cc
both_ok (Err left) (Ok roots) x e = absurd cc
both_ok (Err left) (Err other) x e = absurd cc

-- and so was a third
besides_ok : {A : Type 0} (r : Result A ℕ) (s : Result ⊤ ℕ) (x : A) → besides r s ≡ Ok x → (r ≡ Ok x) × (right : ⊤) × (s ≡ Ok right)
besides_ok (Ok value) (Ok right) x e = (e, right, refl)
besides_ok (Ok value) (Err left) x e = absurd cc
besides_ok (Err left) (Ok right) x e = absurd cc
besides_ok (Err left) (Err other) x e = absurd cc

-- ---- fields before one of a number

-- the fields before the first one of a number, and that one if there is one
record IsFound (n : ℕ) (bytes from : List ℕ) : Type 0 where
  before : List FieldParts
  others : fields_numbered n before ≡ []
  fields : (behind : List FieldParts) → fields_of from ≡ Some behind → fields_of bytes ≡ Some (before ++ behind)
  here : (from ≡ []) ⊎ ((x : FieldParts × List ℕ) × (field_at from ≡ Some x) × (x.0.number ≡ n))

-- a field at the front is it, or is passed over
found_by : (more n : ℕ) (bytes from : List ℕ) (read : FieldParts × List ℕ)
    → ((behind : List ℕ) → from_within more n behind ≡ Ok from → IsFound n behind from)
    → field_at bytes ≡ Some read → (b : Bool) → (read.0.number == n) ≡ b → cond b (Ok bytes) (from_within more n read.1) ≡ Ok from → IsFound n bytes from
found_by more n bytes from read go e true is h =
    subst (λ (l : List ℕ). IsFound n bytes l) (same_ok bytes from h) (record {
      before = [];
      others = refl;
      fields = λ behind are. are;
      here = inr (read, e, eqb-true _ _ is);
    })
found_by more n bytes from read go e false is h =
    let found = go read.1 h in
    record {
      before = read.0 ∷ found.before;
      others = ap₂ (λ (x y : List FieldParts). x ++ y) (ap (λ (b : Bool). cond b (read.0 ∷ []) []) is) found.others;
      fields = λ behind are.
          first_field bytes read.1 read.0 e
          ∙ ap (option_map (λ (fields : List FieldParts). read.0 ∷ fields)) (found.fields behind are);
      here = found.here;
    }

found_next : (more n : ℕ) (bytes from : List ℕ) → ((behind : List ℕ) → from_within more n behind ≡ Ok from → IsFound n behind from)
    → (o : Option (FieldParts × List ℕ)) → field_at bytes ≡ o → from_or n (from_within more n) bytes o ≡ Ok from → IsFound n bytes from
found_next more n bytes from go None e h = absurd cc
found_next more n bytes from go (Some read) e h = found_by more n bytes from read go e (read.0.number == n) refl h

found_within : (more n : ℕ) (bytes from : List ℕ) → from_within more n bytes ≡ Ok from → IsFound n bytes from
found_within more n [] from h =
    subst (λ (l : List ℕ). IsFound n [] l) (same_ok [] from (sym (from-none more n) ∙ h)) (record {
      before = [];
      others = refl;
      fields = λ behind are. are;
      here = inl refl;
    })
found_within zero n (byte ∷ bytes) from h =
    let never : ◌≡◌ {A = Result (List ℕ) ℕ} (Err (length (byte ∷ bytes))) (Ok from) = sym (from-zero n byte bytes) ∙ h in
    absurd cc
found_within (suc more) n (byte ∷ bytes) from h =
    found_next more n (byte ∷ bytes) from (λ behind later. found_within more n behind from later) (field_at (byte ∷ bytes)) refl
    (sym (from-next more n byte bytes) ∙ h)

-- ---- no field of a number

record HasNone (n : ℕ) (bytes : List ℕ) : Type 0 where
  fields : List FieldParts
  are : fields_of bytes ≡ Some fields
  others : fields_numbered n fields ≡ []

-- nothing was found
found_none : (n : ℕ) (bytes from : List ℕ) → from_field n bytes ≡ Ok from → (length from == 0) ≡ true → HasNone n bytes
found_none n bytes from h test =
    let found = found_within (length bytes) n bytes from h in
    let empty : from ≡ [] = nil_from_length from (eqb-true _ _ test) in
    record {
      fields = found.before;
      are = found.fields [] (ap fields_of empty ∙ no_fields) ∙ ap (λ (l : List FieldParts). Some l) (append-nil found.before);
      others = found.others;
    }

none_read : (n : ℕ) (bytes : List ℕ) (right : ⊤) → none_of n bytes ≡ Ok right → HasNone n bytes
none_read n bytes right e =
    let h = from_ok none_left (from_field n bytes) right e in
    found_none n bytes h.0 h.1 (cond_ok (length h.0 == 0) tt right (length h.0) h.2).0

-- ---- one field of a number

-- the bytes that a value is
before_is : (value : ValueParts) (rest : List ℕ) (x : List ℕ × List ℕ) → bytes_of_value value rest ≡ Some x → (value ≡ bytes_value x.0) × (rest ≡ x.1)
before_is (number_value number) rest x e = absurd cc
before_is (bytes_value part) rest x e =
    let same = same_Some (part, rest) x e in
    (ap (λ (z : List ℕ × List ℕ). bytes_value z.0) same, ap (λ (z : List ℕ × List ℕ). z.1) same)
before_is other_value rest x e = absurd cc

-- and that a field is
part_is : (o : Option (FieldParts × List ℕ)) (x : List ℕ × List ℕ) → option_and_then (λ read. bytes_of_value read.0.value read.1) o ≡ Some x
    → (read : FieldParts × List ℕ) × (o ≡ Some read) × (read.0.value ≡ bytes_value x.0) × (read.1 ≡ x.1)
part_is None x e = absurd cc
part_is (Some read) x e = let h = before_is read.0.value read.1 x e in (read, refl, h.0, h.1)

-- a number is itself
eqb_self : (n : ℕ) → (n == n) ≡ true
eqb_self n = grind (arith, nat_tests)

-- a field of bytes of a number, and no other one
record HasOne (n : ℕ) (bytes part : List ℕ) : Type 0 where
  fields : List FieldParts
  are : fields_of bytes ≡ Some fields
  one : fields_numbered n fields ≡ part_field n part ∷ []

-- it is found where no other one is behind it
found_one : (n : ℕ) (bytes from part rest : List ℕ) → from_field n bytes ≡ Ok from → lenient_part from ≡ Some (part, rest) → HasNone n rest → HasOne n bytes part
found_one n bytes from part rest h shown none =
    let found = found_within (length bytes) n bytes from h in
    let at = part_is (field_at from) (part, rest) shown in
    let front : field_at from ≡ Some (at.0.0, rest) = at.1 ∙ ap (λ (l : List ℕ). Some (at.0.0, l)) at.3 in
    let number : at.0.0.number ≡ n = ⊎_elim
    (λ (empty : from ≡ []). absurd (omega (arith, field_shorter from (at.0.0, rest) front, ap length empty)))
    (λ (here : (x : FieldParts × List ℕ) × (field_at from ≡ Some x) × (x.0.number ≡ n)).
    ap (λ (x : FieldParts × List ℕ). x.0.number) (same_Some at.0 here.0 (sym at.1 ∙ here.1)) ∙ here.2)
    found.here in
    let field : at.0.0 ≡ part_field n part = ap₂ (λ (m : ℕ) (v : ValueParts). record { number = m; value = v }) number at.2 in
    let own : own_field n at.0.0 ≡ part_field n part ∷ [] = ap (own_field n) field ∙ ap (λ (b : Bool). cond b (part_field n part ∷ []) []) (eqb_self n) in
    record {
      fields = found.before ++ (at.0.0 ∷ none.fields);
      are = found.fields (at.0.0 ∷ none.fields)
          (first_field from rest at.0.0 front ∙ ap (option_map (λ (fields : List FieldParts). at.0.0 ∷ fields)) none.are);
      one = flat_map-append (own_field n) found.before (at.0.0 ∷ none.fields)
          ∙ ap₂ (λ (x y : List FieldParts). x ++ y) found.others (ap₂ (λ (x y : List FieldParts). x ++ y) own none.others);
    }

-- ---- the parts

-- what the message in the one field of a number says
message_one : {A : Type 0} (said : List ℕ → Result A ℕ) (n : ℕ) (bytes : List ℕ) (value : A) → one_field (submessage said) n bytes ≡ Ok value
    → (part : List ℕ) × HasOne n bytes part × (said part ≡ Ok value)
message_one {A} said n bytes value e =
    let h = from_ok (λ (from : List ℕ). then_read (λ (v : A) (rest : List ℕ). unless v (none_of n rest)) (submessage said from)) (from_field n bytes) value e in
    let r = then_ok (λ (v : A) (rest : List ℕ). unless v (none_of n rest)) (submessage said h.0) value h.2 in
    let u = unless_ok r.0.0 value (none_of n r.0.1) r.2 in
    let m = then_ok (λ (part rest : List ℕ). with_rest rest (said part)) (or_left h.0 (lenient_part h.0)) r.0 r.1 in
    let w = with_rest_ok m.0.1 r.0.1 (said m.0.0) r.0.0 m.2 in
    let shown : lenient_part h.0 ≡ Some (m.0.0, r.0.1) =
    or_left_ok h.0 (lenient_part h.0) m.0 m.1 ∙ ap (λ (l : List ℕ). Some (m.0.0, l)) w.1 in
    (m.0.0, found_one n bytes h.0 m.0.0 r.0.1 h.1 shown (none_read n r.0.1 u.1 u.2), w.0 ∙ ap (λ (v : A). Ok v) u.0)

-- the data hash of a block's header
hash_one : (header hash : List ℕ) → data_hash_left header ≡ Ok hash → HasDataHash header hash
hash_one header hash e =
    let h = from_ok (λ (from : List ℕ). then_read (λ (v rest : List ℕ). unless v (none_of 7 rest)) (or_left from (hash_front from))) (from_field 7 header) hash e in
    let r = then_ok (λ (v rest : List ℕ). unless v (none_of 7 rest)) (or_left h.0 (hash_front h.0)) hash h.2 in
    let u = unless_ok r.0.0 hash (none_of 7 r.0.1) r.2 in
    let p = and_then_parts if_hash (lenient_part h.0) r.0 (or_left_ok h.0 (hash_front h.0) r.0 r.1) in
    let t = cond_some (length p.0.0 == hash_size) p.0 r.0 p.2 in
    let shown : lenient_part h.0 ≡ Some (hash, r.0.1) =
    p.1 ∙ ap (λ (z : List ℕ × List ℕ). Some z) t.1 ∙ ap (λ (l : List ℕ). Some (l, r.0.1)) u.0 in
    let one = found_one 7 header h.0 hash r.0.1 h.1 shown (none_read 7 r.0.1 u.1 u.2) in
    record {
      fields = one.fields;
      are = one.are;
      one = one.one;
      size = sym (ap (λ (z : List ℕ × List ℕ). length z.0) t.1 ∙ ap length u.0) ∙ eqb-true _ _ t.0;
    }

-- fields of which there is one at most
record HasOnce (n : ℕ) (bytes : List ℕ) : Type 0 where
  fields : List FieldParts
  are : fields_of bytes ≡ Some fields
  once : IsOnceAtMost n fields

-- by whether one was found
once_by : (n : ℕ) (bytes from : List ℕ) (right : ⊤) (b : Bool) → from_field n bytes ≡ Ok from → (length from == 0) ≡ b
    → cond b (Ok tt) (then_read (λ (part rest : List ℕ). none_of n rest) (or_left from (lenient_part from))) ≡ Ok right → HasOnce n bytes
once_by n bytes from right true h test e =
    let none = found_none n bytes from h test in
    record { fields = none.fields; are = none.are; once = inl none.others }
once_by n bytes from right false h test e =
    let m = then_ok (λ (part rest : List ℕ). none_of n rest) (or_left from (lenient_part from)) right e in
    let one = found_one n bytes from m.0.0 m.0.1 h (or_left_ok from (lenient_part from) m.0 m.1) (none_read n m.0.1 right m.2) in
    record { fields = one.fields; are = one.are; once = inr (m.0.0, one.one) }

once_read : (n : ℕ) (bytes : List ℕ) (right : ⊤) → once_at_most n bytes ≡ Ok right → HasOnce n bytes
once_read n bytes right e =
    let h = from_ok (λ (from : List ℕ). cond (length from == 0) (Ok tt) (then_read (λ (part rest : List ℕ). none_of n rest) (or_left from (lenient_part from))))
    (from_field n bytes) right e in
    once_by n bytes h.0 right (length h.0 == 0) h.1 refl h.2

-- ---- what is read has these fields

pub extended_fields : (bytes : List ℕ) (x : Extended) → extended_value bytes ≡ Ok x → IsExtended bytes x
extended_fields bytes x e =
    let left = placed_ok (length bytes) (extended_left bytes) x e in
    let third = besides_ok (besides (both_read (header_left bytes) (roots_left bytes)) (once_at_most 2 bytes)) (once_at_most 3 bytes) x left in
    let second = besides_ok (both_read (header_left bytes) (roots_left bytes)) (once_at_most 2 bytes) x third.0 in
    let first = both_ok (header_left bytes) (roots_left bytes) x second.0 in
    let header = message_one data_hash_left 1 bytes x.data_hash first.0 in
    let dah = message_one dah_left 4 bytes x.roots first.1 in
    let commit = once_read 2 bytes second.1 second.2 in
    let validators = once_read 3 bytes third.1 third.2 in
    let all : List FieldParts = header.1.fields in
    let same : (fields : List FieldParts) → fields_of bytes ≡ Some fields → fields ≡ all =
    λ fields are. same_Some fields all (sym are ∙ header.1.are) in
    record {
      fields = all;
      are = header.1.are;
      header = header.0;
      one_header = header.1.one;
      data_hash = hash_one header.0 x.data_hash header.2;
      dah = dah.0;
      one_dah = subst (λ (fields : List FieldParts). fields_numbered 4 fields ≡ part_field 4 dah.0 ∷ []) (same dah.1.fields dah.1.are) dah.1.one;
      roots = ap (with_offset (length dah.0)) dah.2;
      commit = subst (λ (fields : List FieldParts). IsOnceAtMost 2 fields) (same commit.fields commit.are) commit.once;
      validators = subst (λ (fields : List FieldParts). IsOnceAtMost 3 fields) (same validators.fields validators.are) validators.once;
    }
