-- The signer of a first share, and how much content there is behind it.
use Rattle.std.proofs.Common.{◌≡◌, ◌∙◌, ℕ, ◌+◌, ◌≤◌, Bool, true, false, cond, not, ◌&&◌, eqb, eqb-true, List, ◌++◌, length, take, drop, Option, Some, None, refl, ap, arith, length-take, length-drop, take-append-drop}
use Rattle.std.specs.Prelude.{is_some, IfSome}
use Rattle.std.proofs.lemmas.List.{take_at}
use Rattle.std.proofs.lemmas.Bool.Decides.{nat_tests}
use Rattle.namespace_id.specs.Bytes.{AreBytes, IsString}
use Rattle.namespace_id.proofs.StringLemmas.{AreBytes-take}
use Rattle.share_split.specs.Blobs.{signer_size, version_of, signer_bytes, first_blob_content}

-- whether a share with this info byte and length is the first one of a signed blob
abbrev pub is_signed_by : Bool → ℕ → ℕ → Bool
is_signed_by start version size = start && eqb version 1 && not (eqb size 0)

-- the signer among the fields of a share, if it has one
abbrev pub signer_among : Bool → List ℕ → Option (List ℕ)
signer_among signed fields = cond signed (Some (take signer_size fields)) None

-- the version and the signer of a sequence of this length
pub record IsLabel (version : ℕ) (signer : Option (List ℕ)) (size : ℕ) : Type 0 where
  pub low : version ≤ 1
  pub signed : is_signed_by true version size ≡ is_some signer
  pub whole : IfSome signer (IsString signer_size)

-- ---- the fields of a share

-- a signer is read as it was written
pub signer_again : (signer : Option (List ℕ)) (content : List ℕ) → IfSome signer (IsString signer_size)
    → signer_among (is_some signer) (signer_bytes signer ++ content) ≡ signer
signer_again None content is = refl
signer_again (Some signer) content is = ap Some (take_at signer content 20 is.size_is)

-- a share that begins nothing has no signer
pub unsigned : (start : Bool) (version size : ℕ) → version ≡ 0 → is_signed_by start version size ≡ false
unsigned true version size e = ap (λ (v : ℕ). is_signed_by true v size) e
unsigned false version size e = refl

-- how much content stands behind a signer
pub length-room : (signer : Option (List ℕ)) → IfSome signer (IsString signer_size) → length (signer_bytes signer) + first_blob_content (is_some signer) ≡ 478
length-room None is = refl
length-room (Some signer) is = omega (arith, is.size_is)

-- a signer among the fields is all there
pub signer-whole : (signed : Bool) (fields : List ℕ) → length fields ≡ 478 → AreBytes fields → IfSome (signer_among signed fields) (IsString signer_size)
signer-whole true fields len fits = record { size_is = omega (arith, length-take 20 fields, len); fits = AreBytes-take 20 fields fits }
signer-whole false fields len fits = tt

-- the fields are the signer and the content
pub signer_parts : (signed : Bool) (fields : List ℕ) → length fields ≡ 478
    → signer_bytes (signer_among signed fields) ++ drop (length (signer_bytes (signer_among signed fields))) fields ≡ fields
signer_parts true fields len =
    let size : length (take 20 fields) ≡ 20 = omega (arith, length-take 20 fields, len) in
    ap (λ (k : ℕ). take 20 fields ++ drop k fields) size ∙ take-append-drop 20 fields
signer_parts false fields len = refl

-- the content is what is left of them
pub length-content : (signed : Bool) (fields : List ℕ) → length fields ≡ 478
    → length (drop (length (signer_bytes (signer_among signed fields))) fields) ≡ first_blob_content (is_some (signer_among signed fields))
length-content true fields len = omega (arith, length-drop (length (take 20 fields)) fields, length-take 20 fields, len)
length-content false fields len = len

-- ---- labels

-- an empty sequence isn't signed
no_signer : (one : Bool) → (true && one && not (eqb 0 0)) ≡ false
no_signer true = refl
no_signer false = refl

-- one that isn't empty is signed where its version is 1
one_of : (one empty some : Bool) → empty ≡ false → (true && one && not empty) ≡ some → one ≡ some
one_of true false some e h = h
one_of false false some e h = h
one_of one true some e h = absurd cc

-- so the version tells whether there is a signer
version_by : (version : ℕ) (signer : Option (List ℕ)) → version ≤ 1 → eqb version 1 ≡ is_some signer → version ≡ version_of signer
version_by version None low e = grind (arith, nat_tests)
version_by version (Some signer) low e = eqb-true version 1 e

-- there is no signer where it is said so
none_by : (signer : Option (List ℕ)) (some : Bool) → some ≡ false → some ≡ is_some signer → signer ≡ None
none_by None some false_is is = refl
none_by (Some signer) some false_is is = absurd cc

-- that of a blob
pub blob_label : (signer : Option (List ℕ)) (size : ℕ) → eqb size 0 ≡ false → IfSome signer (IsString signer_size) → IsLabel (version_of signer) signer size
blob_label None size some is = record { low = omega arith; signed = refl; whole = tt }
blob_label (Some signer) size some is = record { low = omega arith; signed = ap not some; whole = is }

-- that of padding
pub padding_label : (version : ℕ) → version ≤ 1 → IsLabel version None 0
padding_label version low = record { low = low; signed = no_signer (eqb version 1); whole = tt }

-- whether there is a signer, of which nothing is said
is_some-among : (signed : Bool) (fields : List ℕ) → signed ≡ is_some (signer_among signed fields)
is_some-among true fields = refl
is_some-among false fields = refl

-- that of a share that begins a sequence
pub label_told : (version size : ℕ) (fields : List ℕ) → version ≤ 1 → length fields ≡ 478 → AreBytes fields
    → IsLabel version (signer_among (is_signed_by true version size) fields) size
label_told version size fields low len fits = record {
  low = low;
  signed = is_some-among (is_signed_by true version size) fields;
  whole = signer-whole (is_signed_by true version size) fields len fits;
}

-- the version of a sequence that isn't empty is its signer's
pub version_told : (version size : ℕ) (signer : Option (List ℕ)) → eqb size 0 ≡ false → IsLabel version signer size → version ≡ version_of signer
version_told version size signer some label = version_by version signer label.low (one_of (eqb version 1) (eqb size 0) (is_some signer) some label.signed)

-- an empty sequence has no signer
pub none_told : (version : ℕ) (signer : Option (List ℕ)) → IsLabel version signer 0 → signer ≡ None
none_told version signer label = none_by signer (is_signed_by true version 0) (no_signer (eqb version 1)) label.signed
