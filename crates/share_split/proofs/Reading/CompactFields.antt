-- Shares of a sequence, told by their fields: compact shares.
use Rattle.std.proofs.Common.{◌≡◌, ◌∙◌, ℕ, ◌/◌, ◌%◌, ◌<◌, ◌^◌, Bool, eqb, true, false, List, ◌∷◌, ◌++◌, length, take, drop, None, sym, ap, ap₂, refl, arith}
use Rattle.std.proofs.lemmas.List.{drop-drop}
use Rattle.std.proofs.lemmas.Nat.{from_be_bytes-to_be_bytes_4}
use Rattle.std.specs.Int.{w32, to_be_bytes, from_be_bytes}
use Rattle.namespace_id.specs.Shares.{IsShare, share_of}
use Rattle.namespace_id.specs.declared.namespaces.Namespace.{Namespace}
use Rattle.namespace_id.specs.declared.shares.Share.{Share}
use Rattle.share_split.specs.Blobs.{filled, sequence_share}
use Rattle.share_split.specs.Units.{first_compact_share, later_compact_share}
use Rattle.share_split.specs.Walks.{version_in, is_start, size_in, share_fields, signer_in, reserved_in}
use Rattle.share_split.proofs.Reading.Cuts.{cut, four, parts, fours, stated, info_is, fields_first, fields_later}
use Rattle.share_split.proofs.Reading.Signers.{signer_among, unsigned}
use Rattle.share_split.specs.declared.walking.Form.TheVariants.{Units}
use Rattle.share_split.proofs.Reading.Fields.{IsFirst, IsLater}
use Rattle.namespace_id.specs.Names.{named_by}

-- a compact share and the number that its reserved bytes state
abbrev pub IsCompactFirst : Namespace → ℕ → ℕ → List ℕ → Share → Type 0
IsCompactFirst name size reserved text share = IsFirst Units name 0 None size text share × (reserved_in share ≡ reserved)

-- the same of a later compact share
abbrev pub IsCompactLater : Namespace → ℕ → List ℕ → Share → Type 0
IsCompactLater name reserved text share = IsLater Units name 0 text share × (reserved_in share ≡ reserved)

-- a compact share has no signer
pub unsigned_compact : (share : Share) → version_in share ≡ 0 → signer_in share ≡ None
unsigned_compact share version =
    ap (λ (b : Bool). signer_among b (share_fields share)) (unsigned (is_start share) (version_in share) (size_in share) version)

-- the first compact share has its fields
pub first_compact_is : (name : Namespace) (size reserved : ℕ) (text : List ℕ) → length name.0 ≡ 29 → size < 2 ^ 32 → reserved < 2 ^ 32
    → IsCompactFirst name size reserved text (first_compact_share name size reserved (take 474 text))
unfolding sequence_share
first_compact_is name size reserved text len few small =
    let number : List ℕ = to_be_bytes w32 size in
    let place : List ℕ = to_be_bytes w32 reserved in
    let content : List ℕ = filled 474 (take 474 text) in
    let share : Share = first_compact_share name size reserved (take 474 text) in
    let c = cut share.0 name.0 (number ++ (place ++ content)) 1 len refl in
    let f = four share.0 number (place ++ content) refl c.behind in
    let version : version_in share ≡ 0 = ap (λ (b : ℕ). b / 2) c.byte_is in
    let start : is_start share ≡ true = ap (λ (b : ℕ). eqb (b % 2) 1) c.byte_is in
    let fields : share_fields share ≡ place ++ content = fields_first share start ∙ f.1 in (
      record {
        version_is = version;
        start_is = start;
        name_is = ap named_by c.front;
        signer_is = unsigned_compact share version;
        size_is = ap (from_be_bytes w32) f.0 ∙ from_be_bytes-to_be_bytes_4 size few;
        content_is = ap (drop 4) fields;
      },
      ap (λ (l : List ℕ). from_be_bytes w32 (take 4 l)) fields ∙ from_be_bytes-to_be_bytes_4 reserved small,
    )

-- a later compact share has its fields
pub later_compact_is : (name : Namespace) (reserved : ℕ) (text : List ℕ) → length name.0 ≡ 29 → reserved < 2 ^ 32
    → IsCompactLater name reserved text (later_compact_share name reserved (take 478 text))
unfolding sequence_share
later_compact_is name reserved text len small =
    let place : List ℕ = to_be_bytes w32 reserved in
    let content : List ℕ = filled 478 (take 478 text) in
    let share : Share = later_compact_share name reserved (take 478 text) in
    let c = cut share.0 name.0 (place ++ content) 0 len refl in
    let later : is_start share ≡ false = ap (λ (b : ℕ). eqb (b % 2) 1) c.byte_is in
    let fields : share_fields share ≡ place ++ content = fields_later share later ∙ c.behind in (
      record {
        version_is = ap (λ (b : ℕ). b / 2) c.byte_is;
        start_is = later;
        name_is = ap named_by c.front;
        content_is = ap (drop 4) fields;
      },
      ap (λ (l : List ℕ). from_be_bytes w32 (take 4 l)) fields ∙ from_be_bytes-to_be_bytes_4 reserved small,
    )

-- a share with the fields of the first compact share is it
pub is_first_compact : (name : Namespace) (size reserved : ℕ) (text : List ℕ) (share : Share) → IsShare share → IsCompactFirst name size reserved text share
    → share ≡ first_compact_share name size reserved (take 474 text)
unfolding sequence_share
is_first_compact name size reserved text share whole is =
    let first = is.0 in
    let bytes : List ℕ = share.0 in
    let number : List ℕ = to_be_bytes w32 size in
    let place : List ℕ = to_be_bytes w32 reserved in
    let content : List ℕ = filled 474 (take 474 text) in
    let fields : share_fields share ≡ drop 34 bytes = fields_first share first.start_is in
    let number_is : take 4 (drop 30 bytes) ≡ number = stated bytes 30 (omega (arith, whole.size_is)) whole.fits ∙ ap (to_be_bytes w32) first.size_is in
    let place_is : take 4 (drop 34 bytes) ≡ place =
    stated bytes 34 (omega (arith, whole.size_is)) whole.fits ∙ ap (to_be_bytes w32) (sym (ap (λ (l : List ℕ). from_be_bytes w32 (take 4 l)) fields) ∙ is.1) in
    let content_is : drop 38 bytes ≡ content = sym (drop-drop 4 34 bytes) ∙ sym (ap (drop 4) fields) ∙ first.content_is in
    ap share_of
    (parts bytes whole.size_is
    ∙ ap₂ (λ (l : List ℕ) (b : ℕ). l ++ b ∷ drop 30 bytes) (ap (λ (n : Namespace). n.0) first.name_is) (info_is share 0 true first.version_is first.start_is)
    ∙ ap (λ (l : List ℕ). name.0 ++ 1 ∷ l) (fours bytes 30 ∙ ap₂ (λ (x y : List ℕ). x ++ y) number_is (fours bytes 34 ∙ ap₂ (λ (x y : List ℕ). x ++ y) place_is content_is)))

-- a share with the fields of a later compact share is it
pub is_later_compact : (name : Namespace) (reserved : ℕ) (text : List ℕ) (share : Share) → IsShare share → IsCompactLater name reserved text share
    → share ≡ later_compact_share name reserved (take 478 text)
unfolding sequence_share
is_later_compact name reserved text share whole is =
    let later = is.0 in
    let bytes : List ℕ = share.0 in
    let place : List ℕ = to_be_bytes w32 reserved in
    let content : List ℕ = filled 478 (take 478 text) in
    let fields : share_fields share ≡ drop 30 bytes = fields_later share later.start_is in
    let place_is : take 4 (drop 30 bytes) ≡ place =
    stated bytes 30 (omega (arith, whole.size_is)) whole.fits ∙ ap (to_be_bytes w32) (sym (ap (λ (l : List ℕ). from_be_bytes w32 (take 4 l)) fields) ∙ is.1) in
    let content_is : drop 34 bytes ≡ content = sym (drop-drop 4 30 bytes) ∙ sym (ap (drop 4) fields) ∙ later.content_is in
    ap share_of
    (parts bytes whole.size_is
    ∙ ap₂ (λ (l : List ℕ) (b : ℕ). l ++ b ∷ drop 30 bytes) (ap (λ (n : Namespace). n.0) later.name_is) (info_is share 0 false later.version_is later.start_is)
    ∙ ap (λ (l : List ℕ). name.0 ++ 0 ∷ l) (fours bytes 30 ∙ ap₂ (λ (x y : List ℕ). x ++ y) place_is content_is))
