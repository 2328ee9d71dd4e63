-- What a walk over fields keeps of those that it has passed.
use Rattle.std.proofs.Common.{true, ◌≡◌, ◌∙◌, ℕ, ◌==◌, List, [], ◌∷◌, ◌++◌, length, Option, Some, None, sym, ap}
use Rattle.std.specs.List.{flat_map}
use Rattle.std.specs.Option.{is_some, option_map_or}
use Rattle.std.specs.Prelude.{option_map}
use Rattle.std.proofs.lemmas.Bool.{eqb-true, true≢false}
use Rattle.std.proofs.lemmas.List.{nil_from_length}
use Rattle.proto_fields.specs.Fields.{FieldParts, field_at, fields_of, last_of, last_bytes, last_number}
use Rattle.proto_fields.proofs.FieldLemmas.{no_fields, first_field, still_fields, fields_end, last_of-none, last_of-append}
use Rattle.tx_list.specs.Reads.{are_fields, fields_in, StatedBlob, stated}
use Rattle.tx_list.specs.Walks.{lowered}

-- what was kept of the fields up to some, of bytes that are fields, becomes with the others what all fields come to
abbrev pub IsKept : {S A : Type 0} → (S → List A → S) → (FieldParts → List A) → S → S → List ℕ → List ℕ → Type 0
IsKept go own start kept bytes rest =
    are_fields bytes ≡ true → go kept (flat_map own (fields_in rest)) ≡ go start (flat_map own (fields_in bytes))

-- ---- one field

-- those of a field and the fields behind it
own_cons : {A : Type 0} (own : FieldParts → List A) (field : FieldParts) (some all : Option (List FieldParts)) → is_some some ≡ true
    → all ≡ option_map (λ fields. field ∷ fields) some
    → flat_map own (option_map_or (λ fields. fields) all []) ≡ own field ++ flat_map own (option_map_or (λ fields. fields) some [])
own_cons own field None all h e = absurd (true≢false (sym h))
own_cons own field (Some fields) all h e = ap (λ (o : Option (List FieldParts)). flat_map own (option_map_or (λ fields. fields) o [])) e

-- behind a field of fields are fields
pub fields_go : (bytes rest after : List ℕ) (field : FieldParts) → are_fields rest ≡ are_fields bytes → field_at rest ≡ Some (field, after)
    → are_fields after ≡ are_fields bytes
fields_go bytes rest after field same at = still_fields rest after field at ∙ same

-- one field more is passed
pub kept_goes : {S A : Type 0} (go : S → List A → S) (joins : (s : S) (xs ys : List A) → go s (xs ++ ys) ≡ go (go s xs) ys)
    (own : FieldParts → List A) (start kept next : S) (bytes rest after : List ℕ) (field : FieldParts)
    → are_fields rest ≡ are_fields bytes → IsKept go own start kept bytes rest → field_at rest ≡ Some (field, after) → next ≡ go kept (own field)
    → IsKept go own start next bytes after
kept_goes go joins own start kept next bytes rest after field same so_far at is = λ fine.
    let left : are_fields after ≡ true = fields_go bytes rest after field same at ∙ fine in
    ap (λ (s : _). go s (flat_map own (fields_in after))) is
    ∙ sym (joins kept (own field) (flat_map own (fields_in after)))
    ∙ ap (go kept) (sym (own_cons own field (fields_of after) (fields_of rest) left (first_field rest after field at)))
    ∙ so_far fine

-- ---- at the end

-- bytes are fields exactly where none are left
pub fields_stop : (bytes rest : List ℕ) → are_fields rest ≡ are_fields bytes → field_at rest ≡ None → (length rest == 0) ≡ are_fields bytes
fields_stop bytes rest same none = sym (fields_end rest none) ∙ same

-- then what was kept is what all fields come to
pub kept_stops : {S A : Type 0} (go : S → List A → S) (stops : (s : S) → go s [] ≡ s) (own : FieldParts → List A) (start kept : S) (bytes rest : List ℕ)
    → are_fields rest ≡ are_fields bytes → IsKept go own start kept bytes rest → field_at rest ≡ None → are_fields bytes ≡ true
    → kept ≡ go start (flat_map own (fields_in bytes))
kept_stops go stops own start kept bytes rest same so_far none fine =
    let size : length rest ≡ 0 = eqb-true (length rest) 0 (fields_stop bytes rest same none ∙ fine) in
    sym (stops kept)
    ∙ ap (go kept) (sym (ap (λ (l : List ℕ). flat_map own (fields_in l)) (nil_from_length rest size)
    ∙ ap (λ (o : Option (List FieldParts)). flat_map own (option_map_or (λ fields. fields) o [])) no_fields))
    ∙ so_far fine

-- ---- the last of a number

pub last_goes : {A : Type 0} (own : FieldParts → List A) (start kept next : A) (bytes rest after : List ℕ) (field : FieldParts)
    → are_fields rest ≡ are_fields bytes → IsKept last_of own start kept bytes rest → field_at rest ≡ Some (field, after) → next ≡ last_of kept (own field)
    → IsKept last_of own start next bytes after
last_goes own start kept next bytes rest after field same so_far at is =
    kept_goes last_of last_of-append own start kept next bytes rest after field same so_far at is

pub last_stops : {A : Type 0} (own : FieldParts → List A) (start kept : A) (bytes rest : List ℕ)
    → are_fields rest ≡ are_fields bytes → IsKept last_of own start kept bytes rest → field_at rest ≡ None → are_fields bytes ≡ true
    → kept ≡ last_of start (flat_map own (fields_in bytes))
last_stops own start kept bytes rest same so_far none fine = kept_stops last_of last_of-none own start kept bytes rest same so_far none fine

-- ---- a blob

-- the blob as fields state it, whose numbers may be greater
abbrev stated_high : List FieldParts → StatedBlob
stated_high fields = record {
  version = last_number 4 fields;
  id = last_bytes 1 fields;
  bytes = last_bytes 2 fields;
  share_version = last_number 3 fields;
  signer = last_bytes 5 fields;
}

-- a blob of parts
abbrev of_parts : ℕ → List ℕ → List ℕ → ℕ → List ℕ → StatedBlob
of_parts v i b w s = record { version = v; id = i; bytes = b; share_version = w; signer = s }

-- two blobs of the same parts
same_parts : (one other : StatedBlob) → one.version ≡ other.version → one.id ≡ other.id → one.bytes ≡ other.bytes → one.share_version ≡ other.share_version
    → one.signer ≡ other.signer → one ≡ other
same_parts one other version id bytes share_version signer =
    ap (λ (x : ℕ). of_parts x one.id one.bytes one.share_version one.signer) version
    ∙ ap (λ (x : List ℕ). of_parts other.version x one.bytes one.share_version one.signer) id
    ∙ ap (λ (x : List ℕ). of_parts other.version other.id x one.share_version one.signer) bytes
    ∙ ap (λ (x : ℕ). of_parts other.version other.id other.bytes x one.signer) share_version
    ∙ ap (λ (x : List ℕ). of_parts other.version other.id other.bytes other.share_version x) signer

pub stated_parts_are : (entry : List ℕ) (blob : StatedBlob) → blob.version ≡ last_number 4 (fields_in entry) → blob.id ≡ last_bytes 1 (fields_in entry)
    → blob.bytes ≡ last_bytes 2 (fields_in entry) → blob.share_version ≡ last_number 3 (fields_in entry) → blob.signer ≡ last_bytes 5 (fields_in entry)
    → lowered blob ≡ stated entry
stated_parts_are entry blob version id bytes share_version signer =
    ap lowered (same_parts blob (stated_high (fields_in entry)) version id bytes share_version signer)
