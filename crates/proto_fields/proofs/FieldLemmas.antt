-- Fields, one after another, and the last of a number.
use Rattle.std.proofs.Common.{◌≡◌, ◌∙◌, ℕ, zero, suc, ◌≤◌, ◌<◌, ◌==◌, false, List, [], ◌∷◌, ◌++◌, length, flat_map, Option, Some, None, IsSome, IfSome, option_map, option_and_then, refl, sym, ap, arith}
use Rattle.std.proofs.lemmas.Bool.{true≢false}
use Rattle.std.proofs.lemmas.Bool.Decides.{nat_tests}
use Rattle.std.specs.Option.{is_some}
use Rattle.std.proofs.lemmas.Grind.{flat_map-append}
use Rattle.std.proofs.lemmas.Option.{none-some, same_Some}
use Rattle.proto_fields.specs.Fields.{FieldParts, field_at, fields_within, fields_of, last_of, own_bytes, own_numbers, all_bytes, all_numbers, last_bytes, last_number}
use Rattle.proto_fields.proofs.Options.{and_then_parts, map_parts}
use Rattle.proto_fields.proofs.GroupLemmas.{field_reader, field_shorter}

-- the first field, and then the others
abbrev before_others : ℕ → FieldParts × List ℕ → Option (List FieldParts)
before_others more read = option_map (λ fields. read.0 ∷ fields) (fields_within more read.1)

-- at most one field more
fields-next : (more byte : ℕ) (bytes : List ℕ) → fields_within (suc more) (byte ∷ bytes) ≡ option_and_then (before_others more) (field_at (byte ∷ bytes))
unfolding fields_within
fields-next more byte bytes = refl

-- no field may be there
fields-zero : (byte : ℕ) (bytes : List ℕ) → fields_within zero (byte ∷ bytes) ≡ None
unfolding fields_within
fields-zero byte bytes = refl

-- no bytes are no fields
fields-none : (more : ℕ) → fields_within more [] ≡ Some []
unfolding fields_within
fields-none more = refl

-- ---- how many there may be

-- two counts agree behind a field
others_same : (more other : ℕ) (bytes : List ℕ) → ((behind : List ℕ) → length behind < length bytes → fields_within more behind ≡ fields_within other behind)
    → (o : Option (FieldParts × List ℕ)) → field_at bytes ≡ o → option_and_then (before_others more) o ≡ option_and_then (before_others other) o
others_same more other bytes same None e = refl
others_same more other bytes same (Some read) e = ap (option_map (λ fields. read.0 ∷ fields)) (same read.1 (field_shorter bytes read e))

-- there may be any number of fields that isn't below that of the bytes
fields_same : (more other : ℕ) (bytes : List ℕ) → length bytes ≤ more → length bytes ≤ other → fields_within more bytes ≡ fields_within other bytes
fields_same more other [] few small = fields-none more ∙ sym (fields-none other)
fields_same zero other (byte ∷ bytes) few small = absurd (omega arith)
fields_same (suc more) zero (byte ∷ bytes) few small = absurd (omega arith)
fields_same (suc more) (suc other) (byte ∷ bytes) few small =
    fields-next more byte bytes
    ∙ others_same more other (byte ∷ bytes) (λ behind less. fields_same more other behind (omega arith) (omega arith)) (field_at (byte ∷ bytes)) refl
    ∙ sym (fields-next other byte bytes)

-- ---- the first one

-- no bytes are no fields
pub no_fields : fields_of [] ≡ Some []
no_fields = fields-none 0

-- bytes are the field at their front, and then the others
pub first_field : (bytes rest : List ℕ) (field : FieldParts) → field_at bytes ≡ Some (field, rest)
    → fields_of bytes ≡ option_map (λ fields. field ∷ fields) (fields_of rest)
first_field [] rest field e = absurd (omega (arith, field_shorter [] (field, rest) e))
first_field (byte ∷ bytes) rest field e =
    fields-next (length bytes) byte bytes
    ∙ ap (option_and_then (before_others (length bytes))) e
    ∙ ap (option_map (λ fields. field ∷ fields))
    (fields_same (length bytes) (length rest) rest (omega (arith, field_shorter (byte ∷ bytes) (field, rest) e)) (omega arith))

-- they are none where no field is at the front
pub no_field : (byte : ℕ) (bytes : List ℕ) → field_at (byte ∷ bytes) ≡ None → fields_of (byte ∷ bytes) ≡ None
no_field byte bytes e = fields-next (length bytes) byte bytes ∙ ap (option_and_then (before_others (length bytes))) e

-- whether something is there doesn't depend on how it is seen
is_some-map : {A B : Type 0} (f : A → B) (o : Option A) → is_some (option_map f o) ≡ is_some o
is_some-map f None = refl
is_some-map f (Some x) = refl

-- bytes are fields where those behind their first field are
pub still_fields : (bytes rest : List ℕ) (field : FieldParts) → field_at bytes ≡ Some (field, rest) → is_some (fields_of rest) ≡ is_some (fields_of bytes)
still_fields bytes rest field e =
    sym (is_some-map (λ (fields : List FieldParts). field ∷ fields) (fields_of rest)) ∙ sym (ap is_some (first_field bytes rest field e))

-- where no field is at the front they are only if there are none
pub fields_end : (bytes : List ℕ) → field_at bytes ≡ None → is_some (fields_of bytes) ≡ (length bytes == 0)
fields_end [] e = ap is_some no_fields
fields_end (byte ∷ bytes) e =
    let some : (length (byte ∷ bytes) == 0) ≡ false = grind (arith, nat_tests) in
    ap is_some (no_field byte bytes e) ∙ sym some

-- ---- fields behind fields

-- so many at most, and then others
within_in_a_row : (more : ℕ) (front back : List ℕ) (fields others : List FieldParts) → fields_within more front ≡ Some fields
    → fields_of back ≡ Some others → fields_of (front ++ back) ≡ Some (fields ++ others)
within_in_a_row more [] back fields others e behind =
    behind ∙ ap (λ (some : List FieldParts). Some (some ++ others)) (same_Some [] fields (sym (fields-none more) ∙ e))
within_in_a_row zero (byte ∷ bytes) back fields others e behind = absurd (none-some fields (sym (fields-zero byte bytes) ∙ e))
within_in_a_row (suc more) (byte ∷ bytes) back fields others e behind =
    let front : List ℕ = byte ∷ bytes in
    let h = and_then_parts (before_others more) (field_at front) fields (sym (fields-next more byte bytes) ∙ e) in
    let rest = map_parts (λ (some : List FieldParts). h.0.0 ∷ some) (fields_within more h.0.1) fields h.2 in
    first_field (front ++ back) (h.0.1 ++ back) h.0.0 (field_reader.follows front back h.0 h.1)
    ∙ ap (option_map (λ some. h.0.0 ∷ some)) (within_in_a_row more h.0.1 back rest.0 others rest.1 behind)
    ∙ ap (λ (some : List FieldParts). Some (some ++ others)) rest.2

-- fields behind fields are all of them
pub fields_in_a_row : (front back : List ℕ) (fields others : List FieldParts) → fields_of front ≡ Some fields
    → fields_of back ≡ Some others → fields_of (front ++ back) ≡ Some (fields ++ others)
fields_in_a_row front back fields others e behind = within_in_a_row (length front) front back fields others e behind

-- what is read of a field doesn't depend on what follows it
pub read_whatever_follows : (bytes rest more : List ℕ) (field : FieldParts) → field_at bytes ≡ Some (field, rest)
    → field_at (bytes ++ more) ≡ Some (field, rest ++ more)
read_whatever_follows bytes rest more field e = field_reader.follows bytes more (field, rest) e

-- a field takes a byte at least
pub field_is_shorter : (bytes rest : List ℕ) (field : FieldParts) → field_at bytes ≡ Some (field, rest) → length rest < length bytes
field_is_shorter bytes rest field e = field_shorter bytes (field, rest) e

-- ---- the last one

-- the last of no values, and of one more
pub last_of-none : {A : Type 0} (found : A) → last_of found [] ≡ found
unfolding last_of
last_of-none found = refl

last_of-cons : {A : Type 0} (found value : A) (values : List A) → last_of found (value ∷ values) ≡ last_of value values
unfolding last_of
last_of-cons found value values = refl

-- the last of some values and others
pub last_of-append : {A : Type 0} (found : A) (values others : List A) → last_of found (values ++ others) ≡ last_of (last_of found values) others
last_of-append found [] others = ap (λ start. last_of start others) (sym (last_of-none found))
last_of-append found (value ∷ values) others =
    last_of-cons found value (values ++ others)
    ∙ last_of-append value values others
    ∙ ap (λ start. last_of start others) (sym (last_of-cons found value values))

-- of fields behind fields, those of this number are those of both
pub all_bytes_in_a_row : (n : ℕ) (fields others : List FieldParts) → all_bytes n (fields ++ others) ≡ all_bytes n fields ++ all_bytes n others
all_bytes_in_a_row n fields others = flat_map-append (own_bytes n) fields others

pub all_numbers_in_a_row : (n : ℕ) (fields others : List FieldParts) → all_numbers n (fields ++ others) ≡ all_numbers n fields ++ all_numbers n others
all_numbers_in_a_row n fields others = flat_map-append (own_numbers n) fields others

-- and the last of them counts
pub last_bytes_count : (n : ℕ) (fields others : List FieldParts) → last_bytes n (fields ++ others) ≡ last_of (last_bytes n fields) (all_bytes n others)
last_bytes_count n fields others = ap (last_of []) (all_bytes_in_a_row n fields others) ∙ last_of-append [] (all_bytes n fields) (all_bytes n others)

pub last_number_counts : (n : ℕ) (fields others : List FieldParts) → last_number n (fields ++ others) ≡ last_of (last_number n fields) (all_numbers n others)
last_number_counts n fields others = ap (last_of 0) (all_numbers_in_a_row n fields others) ∙ last_of-append 0 (all_numbers n fields) (all_numbers n others)

-- ---- a walk that looks for it

-- a walk over the fields of bytes has this for the last so far, and these bytes are left
pub record IsLastSoFar {A : Type 0} (own : FieldParts → List A) (none found : A) (bytes rest : List ℕ) : Type 0 where
  pub fields : List FieldParts
  pub left : fields_of rest ≡ Some fields
  pub last : (all : List FieldParts) → fields_of bytes ≡ Some all → last_of found (flat_map own fields) ≡ last_of none (flat_map own all)

-- what is there
some_fields : (o : Option (List FieldParts)) → IsSome o → (fields : List FieldParts) × (o ≡ Some fields)
some_fields None some = absurd (true≢false (sym some))
some_fields (Some fields) some = (fields, refl)

-- at first all is left
pub last_begins : {A : Type 0} (own : FieldParts → List A) (none : A) (bytes : List ℕ) → IsSome (fields_of bytes) → IsLastSoFar own none none bytes bytes
last_begins own none bytes some =
    let there = some_fields (fields_of bytes) some in
    record {
      fields = there.0;
      left = there.1;
      last = λ all e. ap (λ fields. last_of none (flat_map own fields)) (same_Some there.0 all (sym there.1 ∙ e));
    }

-- a field of this number counts from then on
pub last_goes : {A : Type 0} (own : FieldParts → List A) (none found next : A) (bytes rest after : List ℕ) (field : FieldParts)
    → IsLastSoFar own none found bytes rest → field_at rest ≡ Some (field, after) → next ≡ last_of found (own field)
    → IsLastSoFar own none next bytes after
last_goes own none found next bytes rest after field so_far e is =
    let others = map_parts (λ (some : List FieldParts). field ∷ some) (fields_of after) so_far.fields (sym (first_field rest after field e) ∙ so_far.left) in
    record {
      fields = others.0;
      left = others.1;
      last = λ all whole.
          ap (λ start. last_of start (flat_map own others.0)) is
          ∙ sym (last_of-append found (own field) (flat_map own others.0))
          ∙ ap (λ (fields : List FieldParts). last_of found (flat_map own fields)) others.2
          ∙ so_far.last all whole;
    }

-- where no field is left there are no bytes left
pub none_left : (rest : List ℕ) (fields : List FieldParts) → fields_of rest ≡ Some fields → field_at rest ≡ None → fields ≡ []
none_left [] fields left e = sym (same_Some [] fields (sym no_fields ∙ left))
none_left (byte ∷ bytes) fields left e = absurd (none-some fields (sym (no_field byte bytes e) ∙ left))

-- at last it is the last one
pub last_ends : {A : Type 0} (own : FieldParts → List A) (none found : A) (bytes rest : List ℕ) → IsLastSoFar own none found bytes rest → field_at rest ≡ None
    → (all : List FieldParts) → fields_of bytes ≡ Some all → found ≡ last_of none (flat_map own all)
last_ends own none found bytes rest so_far e all whole =
    sym (last_of-none found)
    ∙ ap (λ (fields : List FieldParts). last_of found (flat_map own fields)) (sym (none_left rest so_far.fields so_far.left e))
    ∙ so_far.last all whole

-- it is so of the fields that are there
pub if_fields : (P : List FieldParts → Type 0) (o : Option (List FieldParts)) → ((fields : List FieldParts) → o ≡ Some fields → P fields) → IfSome o P
if_fields P None holds = tt
if_fields P (Some fields) holds = holds fields refl
