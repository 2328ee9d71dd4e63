-- A share that passes its checks is the next of a sequence, whatever text follows.
use Rattle.std.proofs.Common.{◌≡◌, ◌∙◌, ℕ, ◌+◌, ◌<◌, ◌≤◌, ◌^◌, Bool, true, false, cond, eqb, eqb-true, leb-true, List, ◌++◌, length, take, drop, Option, None, refl, sym, ap, subst, arith, length-take, length-drop}
use Rattle.std.proofs.lemmas.Slice.Eq.{bytes_eq-Decides}
use Rattle.std.specs.Str.{bytes_eq}
use Rattle.namespace_id.specs.Bytes.{AreBytes}
use Rattle.namespace_id.specs.Shares.{IsShare, name_in}
use Rattle.namespace_id.specs.declared.shares.Share.{Share}
use Rattle.namespace_id.proofs.StringLemmas.{AreBytes-take, AreBytes-drop}
use Rattle.share_split.specs.declared.joining.JoinError.TheVariants.{NoStart, Short, BadVersion, NonZeroFill, MixedNamespace}
use Rattle.share_split.specs.Walks.{version_in, is_start, size_in, share_fields, is_signed, signer_in, bytes_before, content_in, Sequence, missing, is_version, is_filled, first_refusal, later_refusal}
use Rattle.share_split.proofs.Reading.Fill.{filled_back}
use Rattle.share_split.proofs.Reading.Cuts.{fields_later, length-fields}
use Rattle.share_split.proofs.Reading.Fields.{first_room, later_room, IsFirst, IsLater, unsigned_later}
use Rattle.share_split.specs.declared.walking.Form.{Form}
use Rattle.share_split.specs.declared.walking.Form.TheVariants.{Blobs, Units}
use Rattle.share_split.specs.Blobs.{signer_bytes}
use Rattle.share_split.proofs.Reading.Signers.{IsLabel, is_signed_by, signer_among, length-content, label_told}
use Rattle.share_split.proofs.Reading.Checks.{three_passed, four_passed}

-- the content that a share adds to a sequence
abbrev pub first_part : Form → Share → List ℕ
first_part form share = take (size_in share) (content_in form share)

-- the content that a share adds to this sequence
abbrev pub later_part : Form → Sequence → Share → List ℕ
later_part form s share = take (missing s) (content_in form share)

-- four bytes state the length of a sequence
pub size_in-small : (share : Share) → IsShare share → size_in share < 2 ^ 32
size_in-small share whole =
    let fits : AreBytes (take 4 (drop 30 share.0)) = AreBytes-take 4 (drop 30 share.0) (AreBytes-drop 30 share.0 whole.fits) in
    omega (arith, fits 0, fits 1, fits 2, fits 3)

-- the fields of a share are bytes
fields-fit : (share : Share) (b : Bool) → IsShare share → AreBytes (drop (cond b 34 30) share.0)
fields-fit share b whole = AreBytes-drop (cond b 34 30) share.0 whole.fits

-- a part of its content is bytes
pub part-fits : (form : Form) (m : ℕ) (share : Share) → IsShare share → AreBytes (take m (content_in form share))
part-fits form m share whole =
    AreBytes-take m (content_in form share) (AreBytes-drop (bytes_before form share) (share_fields share) (fields-fit share (is_start share) whole))

-- how much content a first share has
length-first : (form : Form) (share : Share) → IsShare share → is_start share ≡ true → length (content_in form share) ≡ first_room form (signer_in share)
length-first Blobs share whole start = length-content (is_signed share) (share_fields share) (length-fields share start whole)
length-first Units share whole start = omega (arith, length-drop 4 (share_fields share), length-fields share start whole)

-- how much content a later share has
length-later : (form : Form) (share : Share) → IsShare share → is_start share ≡ false → length (content_in form share) ≡ later_room form
length-later Blobs share whole later =
    let fields : length (share_fields share) ≡ 482 = omega (arith, ap length (fields_later share later), length-drop 30 share.0, whole.size_is) in
    ap (λ (o : Option (List ℕ)). length (drop (length (signer_bytes o)) (share_fields share))) (unsigned_later share later) ∙ fields
length-later Units share whole later =
    omega (arith, length-drop 4 (share_fields share), ap length (fields_later share later), length-drop 30 share.0, whole.size_is)

-- what is known of a first share whose checks pass
pub record IsBegun (form : Form) (share : Share) : Type 0 where
  pub version : is_version form (version_in share) ≡ true
  pub start : is_start share ≡ true
  pub first : (further : List ℕ) → length (first_part form share) + length further ≡ size_in share
      → IsFirst form (name_in share) (version_in share) (signer_in share) (size_in share) (first_part form share ++ further) share
  pub few : length (first_part form share) ≤ first_room form (signer_in share)
  pub within : length (first_part form share) ≤ size_in share
  pub full : length (first_part form share) < first_room form (signer_in share) → length (first_part form share) ≡ size_in share

-- a share whose checks pass begins a sequence
pub first_told : (form : Form) (i : ℕ) (share : Share) → IsShare share → first_refusal form i share ≡ None → IsBegun form share
first_told form i share whole e =
    let p = three_passed (is_version form (version_in share)) (is_start share) (is_filled form (size_in share) share) (BadVersion i) (NoStart i) (NonZeroFill i) e in
    let n : ℕ = first_room form (signer_in share) in
    let len : length (content_in form share) ≡ n = length-first form share whole p.1 in
    record {
      version = p.0;
      start = p.1;
      first = λ further all. record {
        version_is = refl;
        start_is = p.1;
        name_is = refl;
        signer_is = refl;
        size_is = refl;
        content_is = filled_back n (size_in share) (content_in form share) further len p.2 all;
      };
      few = omega (arith, length-take (size_in share) (content_in form share), len);
      within = omega (arith, length-take (size_in share) (content_in form share));
      full = λ (h : length (first_part form share) < n). omega (arith, length-take (size_in share) (content_in form share), len);
    }

-- the version and the signer of the sequence of a blob
pub label_in : (share : Share) → IsShare share → IsBegun Blobs share → IsLabel (version_in share) (signer_in share) (size_in share)
label_in share whole begun =
    let signed : is_signed share ≡ is_signed_by true (version_in share) (size_in share) =
    ap (λ (b : Bool). is_signed_by b (version_in share) (size_in share)) begun.start in
    subst (λ (b : Bool). IsLabel (version_in share) (signer_among b (share_fields share)) (size_in share)) (sym signed)
    (label_told (version_in share) (size_in share) (share_fields share) (leb-true _ _ begun.version) (length-fields share begun.start whole)
    (fields-fit share (is_start share) whole))

-- what is known of a later share whose checks pass
pub record IsExtended (form : Form) (s : Sequence) (share : Share) : Type 0 where
  pub later : (further : List ℕ) → length (later_part form s share) + length further ≡ missing s
      → IsLater form s.name s.version (later_part form s share ++ further) share
  pub few : length (later_part form s share) ≤ later_room form
  pub within : length (later_part form s share) ≤ missing s
  pub full : length (later_part form s share) < later_room form → length (later_part form s share) ≡ missing s

-- a share whose checks pass goes on with the sequence
pub later_told : (form : Form) (i : ℕ) (s : Sequence) (share : Share) → IsShare share → later_refusal form i s share ≡ None → IsExtended form s share
later_told form i s share whole e =
    let p = four_passed (eqb (version_in share) s.version) (bytes_eq (name_in share).0 s.name.0) (is_start share) (is_filled form (missing s) share)
    (BadVersion i) (MixedNamespace i) (Short s.first) (NonZeroFill i) e in
    let len : length (content_in form share) ≡ later_room form = length-later form share whole p.2 in
    record {
      later = λ further all. record {
        version_is = eqb-true _ _ p.0;
        start_is = p.2;
        name_is = ap (λ (l : List ℕ). record { 0 = l }) ((bytes_eq-Decides _ _).0 p.1);
        content_is = filled_back (later_room form) (missing s) (content_in form share) further len p.3 all;
      };
      few = omega (arith, length-take (missing s) (content_in form share), len);
      within = omega (arith, length-take (missing s) (content_in form share));
      full = λ (h : length (later_part form s share) < later_room form). omega (arith, length-take (missing s) (content_in form share), len);
    }
