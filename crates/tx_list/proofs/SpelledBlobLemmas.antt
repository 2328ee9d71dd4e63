-- Blobs in their one spelling are read back.
use Rattle.std.proofs.Common.{true, false, ◌≡◌, ◌∙◌, ℕ, ◌-◌, ◌^◌, ◌<◌, ◌≤◌, ◌==◌, ◌&&◌, not, List, [], ◌∷◌, ◌++◌, length, drop, slice_index, slice_range, Option, Some, None, IfSome, option_map, refl, sym, ap, arith, length-append}
use Rattle.std.specs.Option.{is_some, option_map_or}
use Rattle.std.proofs.lemmas.Bool.{eqb-true, and_parts}
use Rattle.std.proofs.lemmas.Bool.Decides.{nat_tests}
use Rattle.std.proofs.lemmas.List.{append-nil}
use Rattle.namespace_id.specs.Names.{is_blob_namespace, is_zeros, is_reserved, namespace_refusal}
use Rattle.namespace_id.specs.Sizes.{namespace_size}
use Rattle.share_split.specs.Blobs.{NamedBytes, signer_size, signer_bytes, version_of}
use Rattle.square_layout.proofs.AcceptedLemmas.{accepted_is}
use Rattle.proto_fields.specs.Fields.{FieldParts, bytes_value, number_value, is_field_number, fields_of, last_of, last_bytes}
use Rattle.proto_fields.specs.Spelled.{bytes_field, number_field}
use Rattle.proto_fields.proofs.FieldLemmas.{no_fields, first_field, fields_in_a_row}
use Rattle.proto_fields.proofs.WrittenLemmas.{bytes_field_is_read, number_field_is_read, size_is_length}
use Rattle.tx_list.specs.Wrapped.{some_field}
use Rattle.tx_list.specs.Spelled.{version_field, blob_spelling}
use Rattle.tx_list.specs.Reads.{are_fields, low_number, StatedBlob, stated, blob_of}
use Rattle.tx_list.specs.ReadRefusals.{has_version, blob_refusal}
use Rattle.tx_list.specs.ReadLaws.{HasSpelling}

-- ---- single fields

-- a field of bytes
abbrev pub field_of_bytes : ℕ → List ℕ → FieldParts
field_of_bytes n bytes = record { number = n; value = bytes_value bytes }

-- it alone is the fields that its spelling is
pub bytes_field_alone : (n : ℕ) (bytes : List ℕ) → is_field_number n ≡ true → length bytes < 2 ^ 64
    → fields_of (bytes_field n bytes) ≡ Some (field_of_bytes n bytes ∷ [])
bytes_field_alone n bytes numbered fits =
    ap fields_of (sym (append-nil (bytes_field n bytes)))
    ∙ first_field (bytes_field n bytes ++ []) [] (field_of_bytes n bytes) (bytes_field_is_read n bytes [] numbered fits)
    ∙ ap (option_map (λ fields. field_of_bytes n bytes ∷ fields)) no_fields

number_field_alone : (n value : ℕ) → is_field_number n ≡ true → value < 2 ^ 64
    → fields_of (number_field n value) ≡ Some (record { number = n; value = number_value value } ∷ [])
number_field_alone n value numbered fits =
    ap fields_of (sym (append-nil (number_field n value)))
    ∙ first_field (number_field n value ++ []) [] (record { number = n; value = number_value value }) (number_field_is_read n value [] numbered fits)
    ∙ ap (option_map (λ fields. record { number = n; value = number_value value } ∷ fields)) no_fields

-- the field of bytes, where there are some
abbrev pub some_fields : ℕ → List ℕ → List FieldParts
some_fields n [] = []
some_fields n (byte ∷ bytes) = field_of_bytes n (byte ∷ bytes) ∷ []

pub some_field_alone : (n : ℕ) (bytes : List ℕ) → is_field_number n ≡ true → length bytes < 2 ^ 64 → fields_of (some_field n bytes) ≡ Some (some_fields n bytes)
some_field_alone n [] numbered fits = no_fields
some_field_alone n (byte ∷ bytes) numbered fits = bytes_field_alone n (byte ∷ bytes) numbered fits

-- it takes its bytes at least
pub some_field_size : (n : ℕ) (bytes : List ℕ) → length bytes ≤ length (some_field n bytes)
some_field_size n [] = omega arith
some_field_size n (byte ∷ bytes) = omega (arith, size_is_length n (byte ∷ bytes))

-- ---- the fields of a blob

-- those of the share version
abbrev version_fields : Option (List ℕ) → List FieldParts
version_fields None = []
version_fields (Some signer) = record { number = 3; value = number_value 1 } ∷ []

version_field_alone : (signer : Option (List ℕ)) → fields_of (version_field signer) ≡ Some (version_fields signer)
version_field_alone None = no_fields
version_field_alone (Some signer) = number_field_alone 3 1 refl (omega arith)

-- all of them
abbrev blob_fields : List ℕ → List ℕ → Option (List ℕ) → List FieldParts
blob_fields id bytes signer = some_fields 1 id ++ (some_fields 2 bytes ++ (version_fields signer ++ some_fields 5 (signer_bytes signer)))

-- its spelling is these
fields_of_blob : (id bytes : List ℕ) (signer : Option (List ℕ)) → length id < 2 ^ 64 → length bytes < 2 ^ 64 → length (signer_bytes signer) < 2 ^ 64
    → fields_of (some_field 1 id ++ (some_field 2 bytes ++ (version_field signer ++ some_field 5 (signer_bytes signer)))) ≡ Some (blob_fields id bytes signer)
fields_of_blob id bytes signer few fits short =
    let last = fields_in_a_row (version_field signer) (some_field 5 (signer_bytes signer)) (version_fields signer) (some_fields 5 (signer_bytes signer))
    (version_field_alone signer) (some_field_alone 5 (signer_bytes signer) refl short) in
    let later = fields_in_a_row (some_field 2 bytes) (version_field signer ++ some_field 5 (signer_bytes signer)) (some_fields 2 bytes)
    (version_fields signer ++ some_fields 5 (signer_bytes signer)) (some_field_alone 2 bytes refl fits) last in
    fields_in_a_row (some_field 1 id) (some_field 2 bytes ++ (version_field signer ++ some_field 5 (signer_bytes signer))) (some_fields 1 id)
    (some_fields 2 bytes ++ (version_fields signer ++ some_fields 5 (signer_bytes signer))) (some_field_alone 1 id refl few) later

-- the blob that fields state
abbrev stated_by : List FieldParts → StatedBlob
stated_by fields = record {
  version = low_number 4 fields;
  id = last_bytes 1 fields;
  bytes = last_bytes 2 fields;
  share_version = low_number 3 fields;
  signer = last_bytes 5 fields;
}

-- a blob of version 0 as it is stated
abbrev pub said : List ℕ → List ℕ → Option (List ℕ) → StatedBlob
said id bytes signer = record { version = 0; id = id; bytes = bytes; share_version = version_of signer; signer = signer_bytes signer }

-- they state it
fields_say : (id bytes : List ℕ) (signer : Option (List ℕ)) → 1 ≤ length id → 1 ≤ length bytes → IfSome signer (λ s. length s ≡ signer_size)
    → stated_by (blob_fields id bytes signer) ≡ said id bytes signer
unfolding last_of
fields_say [] bytes signer some there size = absurd (omega arith)
fields_say (i ∷ id) [] signer some there size = absurd (omega arith)
fields_say (i ∷ id) (b ∷ bytes) None some there size = refl
fields_say (i ∷ id) (b ∷ bytes) (Some []) some there size = absurd (omega (arith, size))
fields_say (i ∷ id) (b ∷ bytes) (Some (s ∷ signer)) some there size = refl

-- ---- the blob

-- a namespace of a blob is an id of 28 bytes behind the version 0
cons_of : (name : List ℕ) → length name ≡ namespace_size → slice_index name 0 ≡ 0 → (name ≡ 0 ∷ drop 1 name) × (length (drop 1 name) ≡ namespace_size - 1)
cons_of [] size version = absurd (omega (arith, size))
cons_of (v ∷ id) size version = (ap (λ (x : ℕ). x ∷ id) version, omega (arith, size))

name_parts : (name : List ℕ) → is_blob_namespace name ≡ true → (name ≡ 0 ∷ drop 1 name) × (length (drop 1 name) ≡ namespace_size - 1)
name_parts name is =
    let most = and_parts ((length name == namespace_size) && (slice_index name 0 == 0) && is_zeros (slice_range name 1 19)) (not (is_reserved name)) is in
    let two = and_parts ((length name == namespace_size) && (slice_index name 0 == 0)) (is_zeros (slice_range name 1 19)) most.0 in
    let one = and_parts (length name == namespace_size) (slice_index name 0 == 0) two.0 in
    cons_of name (eqb-true (length name) namespace_size one.0) (eqb-true (slice_index name 0) 0 one.1)

-- its signer is short
signer_short : (signer : Option (List ℕ)) → IfSome signer (λ s. length s ≡ signer_size) → length (signer_bytes signer) ≤ signer_size
signer_short None size = omega arith
signer_short (Some s) size = omega (arith, size)

-- a blob whose bytes can be counted, also where its namespace isn't one of a blob
pub record IsStatable (blob : NamedBytes) : Type 0 where
  pub id : length (drop 1 blob.namespace.0) ≡ namespace_size - 1
  pub some : 1 ≤ length blob.bytes
  pub signer : IfSome blob.signer (λ signer. length signer ≡ signer_size)
  pub fits : length (blob_spelling blob) < 2 ^ 64

pub statable : (blob : NamedBytes) → HasSpelling blob → IsStatable blob
statable blob has = record {
  id = (name_parts blob.namespace.0 has.layable.named).1;
  some = has.layable.some;
  signer = has.signer;
  fits = has.fits;
}

-- its spelling is fields
pub blob_spelling_fields : (blob : NamedBytes) → IsStatable blob
    → fields_of (blob_spelling blob) ≡ Some (blob_fields (drop 1 blob.namespace.0) blob.bytes blob.signer)
blob_spelling_fields blob is =
    let id : List ℕ = drop 1 blob.namespace.0 in
    let last : List ℕ = version_field blob.signer ++ some_field 5 (signer_bytes blob.signer) in
    let few : length id < 2 ^ 64 = omega (arith, is.id) in
    let fits : length blob.bytes < 2 ^ 64 = omega (
      arith,
      is.fits,
      length-append (some_field 1 id) (some_field 2 blob.bytes ++ last),
      length-append (some_field 2 blob.bytes) last,
      some_field_size 2 blob.bytes,
    ) in
    fields_of_blob id blob.bytes blob.signer few fits (omega (arith, signer_short blob.signer is.signer))

pub blob_spelling_is_fields : (blob : NamedBytes) → IsStatable blob → are_fields (blob_spelling blob) ≡ true
blob_spelling_is_fields blob is = ap is_some (blob_spelling_fields blob is)

-- they state it
pub blob_is_stated : (blob : NamedBytes) → IsStatable blob → stated (blob_spelling blob) ≡ said (drop 1 blob.namespace.0) blob.bytes blob.signer
blob_is_stated blob is =
    ap (λ (o : Option (List FieldParts)). stated_by (option_map_or (λ fields. fields) o [])) (blob_spelling_fields blob is)
    ∙ fields_say (drop 1 blob.namespace.0) blob.bytes blob.signer (omega (arith, is.id)) is.some is.signer

-- it is read back
pub said_blob : (id bytes : List ℕ) (signer : Option (List ℕ)) → blob_of (said id bytes signer) ≡ record { namespace = record { 0 = 0 ∷ id }; bytes = bytes; signer = signer }
said_blob id bytes None = refl
said_blob id bytes (Some signer) = refl

pub blob_is_read : (blob : NamedBytes) → HasSpelling blob → blob_of (stated (blob_spelling blob)) ≡ blob
blob_is_read blob has =
    ap blob_of (blob_is_stated blob (statable blob has))
    ∙ said_blob (drop 1 blob.namespace.0) blob.bytes blob.signer
    ∙ ap (λ (name : List ℕ). record { namespace = record { 0 = name }; bytes = blob.bytes; signer = blob.signer })
    (sym (name_parts blob.namespace.0 has.layable.named).0)

-- ---- its checks

pub version_passes : (signer : Option (List ℕ)) → IfSome signer (λ s. length s ≡ signer_size) → has_version (version_of signer) (signer_bytes signer) ≡ true
version_passes None size = refl
version_passes (Some s) size = ap (λ (n : ℕ). n == signer_size) size

some_is : (n : ℕ) → 1 ≤ n → (n == 0) ≡ false
some_is n h = grind (arith, nat_tests)

-- no check of its spelling fails
pub blob_passes : (i j : ℕ) (blob : NamedBytes) → HasSpelling blob → blob_refusal i j (stated (blob_spelling blob)) ≡ None
blob_passes i j blob has =
    let id : List ℕ = drop 1 blob.namespace.0 in
    let name = name_parts blob.namespace.0 has.layable.named in
    let size : (length id == namespace_size - 1) ≡ true = ap (λ (n : ℕ). n == namespace_size - 1) name.1 in
    let named : namespace_refusal (0 ∷ id) ≡ None = ap namespace_refusal (sym name.0) ∙ accepted_is blob.namespace.0 has.layable.named in
    let version = version_passes blob.signer has.signer in
    let some : (length blob.bytes == 0) ≡ false = some_is (length blob.bytes) has.layable.some in
    ap (blob_refusal i j) (blob_is_stated blob (statable blob has)) ∙ rw (size, named, version, some) refl
