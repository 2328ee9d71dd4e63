-- A share that is the next of a sequence passes its checks and is read.
use Rattle.std.proofs.Common.{◌≡◌, ◌∙◌, ℕ, true, eqb, eq-eqb, List, ◌++◌, length, take, drop, Option, None, ap, ap₂}
use Rattle.std.proofs.lemmas.Slice.Eq.{bytes_eq-Decides}
use Rattle.std.specs.Str.{bytes_eq}
use Rattle.namespace_id.specs.Names.{is_zeros}
use Rattle.namespace_id.specs.declared.namespaces.Namespace.{Namespace}
use Rattle.namespace_id.specs.declared.shares.Share.{Share}
use Rattle.namespace_id.specs.Shares.{name_in}
use Rattle.share_split.specs.declared.joining.JoinError.TheVariants.{NoStart, Short, BadVersion, NonZeroFill, MixedNamespace}
use Rattle.share_split.specs.Walks.{version_in, is_start, size_in, signer_in, content_in, Sequence, missing, begun_by, extended_by, is_version, is_filled, first_refusal, later_refusal}
use Rattle.share_split.proofs.Reading.Fill.{take-filled, is_zeros-filled}
use Rattle.share_split.proofs.Reading.Fields.{first_room, later_room, IsFirst, IsLater}
use Rattle.share_split.specs.declared.walking.Form.{Form}
use Rattle.share_split.proofs.Reading.Checks.{three, four}

-- a sequence by its parts
abbrev pub seq : ℕ → Namespace → ℕ → Option (List ℕ) → ℕ → List ℕ → Sequence
seq first name version signer size content = record { first = first; name = name; version = version; signer = signer; size = size; content = content }

-- a first share passes its checks
pub first_passes : (form : Form) (i : ℕ) (name : Namespace) (version : ℕ) (signer : Option (List ℕ)) (size : ℕ) (text : List ℕ) (share : Share)
    → is_version form version ≡ true → length text ≡ size → IsFirst form name version signer size text share → first_refusal form i share ≡ None
first_passes form i name version signer size text share good len first =
    three (is_version form (version_in share)) (is_start share) (is_filled form (size_in share) share) (BadVersion i) (NoStart i) (NonZeroFill i)
    (ap (is_version form) first.version_is ∙ good) first.start_is
    (ap₂ (λ (m : ℕ) (l : List ℕ). is_zeros (drop m l)) first.size_is first.content_is ∙ is_zeros-filled (first_room form signer) size text len)

-- its sequence begins with its content
pub first_taken : (form : Form) (i : ℕ) (name : Namespace) (version : ℕ) (signer : Option (List ℕ)) (size : ℕ) (text : List ℕ) (share : Share)
    → length text ≡ size → IsFirst form name version signer size text share
    → begun_by form i share ≡ seq i name version signer size (take (first_room form signer) text)
first_taken form i name version signer size text share len first =
    let content : take (size_in share) (content_in form share) ≡ take (first_room form signer) text =
    ap₂ (λ (m : ℕ) (l : List ℕ). take m l) first.size_is first.content_is ∙ take-filled (first_room form signer) size text len in
    ap₂ (λ (n : Namespace) (m : ℕ). seq i n (version_in share) (signer_in share) m (take (size_in share) (content_in form share))) first.name_is first.size_is
    ∙ ap₂ (λ (v : ℕ) (s : Option (List ℕ)). seq i name v s size (take (size_in share) (content_in form share))) first.version_is first.signer_is
    ∙ ap (seq i name version signer size) content

-- a later share passes its checks
pub later_passes : (form : Form) (i : ℕ) (s : Sequence) (text : List ℕ) (share : Share) → length text ≡ missing s
    → IsLater form s.name s.version text share → later_refusal form i s share ≡ None
later_passes form i s text share len later =
    four (eqb (version_in share) s.version) (bytes_eq (name_in share).0 s.name.0) (is_start share) (is_filled form (missing s) share)
    (BadVersion i) (MixedNamespace i) (Short s.first) (NonZeroFill i)
    (eq-eqb _ _ later.version_is) ((bytes_eq-Decides _ _).1 (ap (λ (n : Namespace). n.0) later.name_is)) later.start_is
    (ap (λ (l : List ℕ). is_zeros (drop (missing s) l)) later.content_is ∙ is_zeros-filled (later_room form) (missing s) text len)

-- its content is added to the sequence
pub later_taken : (form : Form) (s : Sequence) (text : List ℕ) (share : Share) → length text ≡ missing s → IsLater form s.name s.version text share
    → extended_by form s share ≡ seq s.first s.name s.version s.signer s.size (s.content ++ take (later_room form) text)
later_taken form s text share len later =
    ap (λ (l : List ℕ). seq s.first s.name s.version s.signer s.size (s.content ++ l))
    (ap (take (missing s)) later.content_is ∙ take-filled (later_room form) (missing s) text len)
