-- Shares of a sequence, told by their fields: those of blobs.
use Rattle.std.proofs.Common.{◌≡◌, ◌∙◌, ℕ, ◌-◌, ◌/◌, ◌%◌, ◌<◌, ◌≤◌, ◌^◌, Bool, eqb, true, false, cond, List, ◌∷◌, ◌++◌, length, take, drop, Option, None, sym, ap, ap₂, refl, arith, length-append, length-take, length-drop}
use Rattle.std.specs.Prelude.{is_some, IfSome}
use Rattle.std.proofs.lemmas.List.{drop_at}
use Rattle.std.proofs.lemmas.Nat.{from_be_bytes-to_be_bytes_4}
use Rattle.std.specs.Int.{w32, to_be_bytes, from_be_bytes}
use Rattle.namespace_id.specs.Bytes.{IsString}
use Rattle.namespace_id.specs.Shares.{IsShare, name_in, share_of}
use Rattle.namespace_id.specs.declared.namespaces.Namespace.{Namespace}
use Rattle.namespace_id.specs.declared.shares.Share.{Share}
use Rattle.namespace_id.specs.Names.{named_by}
use Rattle.share_split.specs.declared.walking.Form.{Form}
use Rattle.share_split.specs.declared.walking.Form.TheVariants.{Blobs, Units}
use Rattle.share_split.specs.Blobs.{signer_size, info, filled, sequence_share, signer_bytes, first_blob_content, later_share}
use Rattle.share_split.specs.Walks.{version_in, is_start, size_in, share_fields, is_signed, signer_in, bytes_before, content_in}
use Rattle.share_split.proofs.Reading.Cuts.{cut, four, parts, fours, stated, version_of_info, start_of_info, info_is, fields_first, fields_later, length-fields}
use Rattle.share_split.proofs.Reading.Signers.{IsLabel, is_signed_by, signer_among, signer_again, signer_parts, length-room}

-- how much content a first share of a form holds
abbrev pub first_room : Form → Option (List ℕ) → ℕ
first_room Blobs signer = first_blob_content (is_some signer)
first_room Units signer = 474

-- how much content a later share of a form holds
abbrev pub later_room : Form → ℕ
later_room Blobs = 482
later_room Units = 478

-- a share that begins a sequence under a namespace, with this version and signer, whose content is all of a text
pub record IsFirst (form : Form) (name : Namespace) (version : ℕ) (signer : Option (List ℕ)) (size : ℕ) (text : List ℕ) (share : Share) : Type 0 where
  pub version_is : version_in share ≡ version
  pub start_is : is_start share ≡ true
  pub name_is : name_in share ≡ name
  pub signer_is : signer_in share ≡ signer
  pub size_is : size_in share ≡ size
  pub content_is : content_in form share ≡ filled (first_room form signer) (take (first_room form signer) text)

-- a share that goes on with a sequence of a version under a namespace, of whose content this text is left
pub record IsLater (form : Form) (name : Namespace) (version : ℕ) (text : List ℕ) (share : Share) : Type 0 where
  pub version_is : version_in share ≡ version
  pub start_is : is_start share ≡ false
  pub name_is : name_in share ≡ name
  pub content_is : content_in form share ≡ filled (later_room form) (take (later_room form) text)

-- a later share has no signer
pub unsigned_later : (share : Share) → is_start share ≡ false → signer_in share ≡ None
unsigned_later share later =
    ap (λ (b : Bool). signer_among (is_signed_by b (version_in share) (size_in share)) (share_fields share)) later

-- the first share of a sequence with this version and signer
abbrev pub opening : Namespace → ℕ → Option (List ℕ) → ℕ → List ℕ → Share
opening name version signer size text =
    sequence_share name version true (to_be_bytes w32 size ++ signer_bytes signer) (take (first_blob_content (is_some signer)) text)

-- its bytes, one field behind another
opening_is : (name : Namespace) (version : ℕ) (signer : Option (List ℕ)) (size : ℕ) (text : List ℕ) → IfSome signer (IsString signer_size)
    → (opening name version signer size text).0
    ≡ name.0 ++ info version true ∷ (to_be_bytes w32 size
    ++ (signer_bytes signer ++ filled (first_blob_content (is_some signer)) (take (first_blob_content (is_some signer)) text)))
unfolding sequence_share
opening_is name version signer size text is =
    let number : List ℕ = to_be_bytes w32 size in
    let bytes : List ℕ = signer_bytes signer in
    let content : List ℕ = take (first_blob_content (is_some signer)) text in
    let long : length number ≡ 4 = refl in
    let room : 482 - length (number ++ bytes) ≡ first_blob_content (is_some signer) =
    omega (arith, long, length-append number bytes, length-room signer is) in
    ap (λ (n : ℕ). name.0 ++ info version true ∷ ((number ++ bytes) ++ filled n content)) room

-- the first share has its fields
pub opening_is_first : (name : Namespace) (version : ℕ) (signer : Option (List ℕ)) (size : ℕ) (text : List ℕ) → length name.0 ≡ 29 → size < 2 ^ 32
    → IsLabel version signer size → IsFirst Blobs name version signer size text (opening name version signer size text)
opening_is_first name version signer size text len few label =
    let number : List ℕ = to_be_bytes w32 size in
    let bytes : List ℕ = signer_bytes signer in
    let n : ℕ = first_blob_content (is_some signer) in
    let content : List ℕ = filled n (take n text) in
    let share : Share = opening name version signer size text in
    let c = cut share.0 name.0 (number ++ (bytes ++ content)) (info version true) len (opening_is name version signer size text label.whole) in
    let f = four share.0 number (bytes ++ content) refl c.behind in
    let version_is : version_in share ≡ version = ap (λ (b : ℕ). b / 2) c.byte_is ∙ version_of_info version true in
    let start : is_start share ≡ true = ap (λ (b : ℕ). eqb (b % 2) 1) c.byte_is ∙ start_of_info version true in
    let size_is : size_in share ≡ size = ap (from_be_bytes w32) f.0 ∙ from_be_bytes-to_be_bytes_4 size few in
    let fields : share_fields share ≡ bytes ++ content = fields_first share start ∙ f.1 in
    let signed : is_signed share ≡ is_some signer =
    ap (λ (b : Bool). is_signed_by b (version_in share) (size_in share)) start ∙ ap₂ (is_signed_by true) version_is size_is ∙ label.signed in
    let signer_is : signer_in share ≡ signer = ap₂ signer_among signed fields ∙ signer_again signer content label.whole in
    record {
      version_is = version_is;
      start_is = start;
      name_is = ap named_by c.front;
      signer_is = signer_is;
      size_is = size_is;
      content_is = ap₂ (λ (o : Option (List ℕ)) (l : List ℕ). drop (length (signer_bytes o)) l) signer_is fields ∙ drop_at bytes content (length bytes) refl;
    }

-- a later share has its fields
pub later_share_is_later : (name : Namespace) (version : ℕ) (text : List ℕ) → length name.0 ≡ 29
    → IsLater Blobs name version text (later_share name version (take 482 text))
unfolding sequence_share
later_share_is_later name version text len =
    let content : List ℕ = filled 482 (take 482 text) in
    let share : Share = later_share name version (take 482 text) in
    let c = cut share.0 name.0 content (info version false) len refl in
    let later : is_start share ≡ false = ap (λ (b : ℕ). eqb (b % 2) 1) c.byte_is ∙ start_of_info version false in
    record {
      version_is = ap (λ (b : ℕ). b / 2) c.byte_is ∙ version_of_info version false;
      start_is = later;
      name_is = ap named_by c.front;
      content_is = ap₂ (λ (o : Option (List ℕ)) (l : List ℕ). drop (length (signer_bytes o)) l) (unsigned_later share later) (fields_later share later ∙ c.behind);
    }

-- a share with the fields of the first one is it
pub is_opening : (name : Namespace) (version : ℕ) (signer : Option (List ℕ)) (size : ℕ) (text : List ℕ) (share : Share) → IsShare share
    → IfSome signer (IsString signer_size) → IsFirst Blobs name version signer size text share → share ≡ opening name version signer size text
is_opening name version signer size text share whole signed first =
    let bytes : List ℕ = share.0 in
    let n : ℕ = first_blob_content (is_some signer) in
    let content : List ℕ = filled n (take n text) in
    let number : take 4 (drop 30 bytes) ≡ to_be_bytes w32 size = stated bytes 30 (omega (arith, whole.size_is)) whole.fits ∙ ap (to_be_bytes w32) first.size_is in
    let behind : drop 34 bytes ≡ signer_bytes signer ++ content =
    sym (fields_first share first.start_is)
    ∙ sym (signer_parts (is_signed share) (share_fields share) (length-fields share first.start_is whole))
    ∙ ap₂ (λ (o : Option (List ℕ)) (l : List ℕ). signer_bytes o ++ l) first.signer_is first.content_is in
    ap share_of
    (parts bytes whole.size_is
    ∙ ap₂ (λ (l : List ℕ) (b : ℕ). l ++ b ∷ drop 30 bytes) (ap (λ (n : Namespace). n.0) first.name_is) (info_is share version true first.version_is first.start_is)
    ∙ ap (λ (l : List ℕ). name.0 ++ (info version true ∷ l)) (fours bytes 30 ∙ ap₂ (λ (x y : List ℕ). x ++ y) number behind)
    ∙ sym (opening_is name version signer size text signed))

-- a share with the fields of a later one is it
pub is_later_share : (name : Namespace) (version : ℕ) (text : List ℕ) (share : Share) → IsShare share → IsLater Blobs name version text share
    → share ≡ later_share name version (take 482 text)
unfolding sequence_share
is_later_share name version text share whole later =
    let bytes : List ℕ = share.0 in
    let content : List ℕ = filled 482 (take 482 text) in
    let behind : drop 30 bytes ≡ content =
    sym (fields_later share later.start_is)
    ∙ sym (ap (λ (o : Option (List ℕ)). drop (length (signer_bytes o)) (share_fields share)) (unsigned_later share later.start_is))
    ∙ later.content_is in
    ap share_of
    (parts bytes whole.size_is
    ∙ ap₂ (λ (l : List ℕ) (b : ℕ). l ++ b ∷ drop 30 bytes) (ap (λ (n : Namespace). n.0) later.name_is) (info_is share version false later.version_is later.start_is)
    ∙ ap (λ (l : List ℕ). name.0 ++ info version false ∷ l) behind)

-- the fields begin at most 34 bytes behind the front
fields_place : (start : Bool) → cond start 34 30 ≤ 34
fields_place true = omega arith
fields_place false = omega arith

-- a signer comes before the content of the first share of a signed blob
pub bytes_before-signed : (form : Form) (share : Share) → form ≡ Blobs → is_signed share ≡ true → length share.0 ≡ 512 → 20 ≡ bytes_before form share
bytes_before-signed form share blobs signed len =
    let place : ℕ = cond (is_start share) 34 30 in
    let all : length (take 20 (share_fields share)) ≡ 20 =
    omega (arith, length-take 20 (share_fields share), length-drop place share.0, fields_place (is_start share), len) in
    sym (ap (λ (f : Form). bytes_before f share) blobs
    ∙ ap (λ (b : Bool). length (signer_bytes (signer_among b (share_fields share)))) signed ∙ all)
