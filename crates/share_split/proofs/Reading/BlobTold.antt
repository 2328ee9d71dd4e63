-- Shares that are read as blobs are these blobs and padding.
use Rattle.std.proofs.Common.{◌≡◌, ◌∙◌, ℕ, suc, ◌+◌, ◌<◌, Bool, false, cond, eqb, List, [], ◌∷◌, ◌++◌, length, drop, Option, Some, None, Ok, refl, sym, ap, subst, arith, length-drop, length-append, append_assoc, append-nil}
use Rattle.std.specs.Bool.{⊤}
use Rattle.std.proofs.lemmas.Bool.Decides.{nat_tests}
use Rattle.namespace_id.specs.Bytes.{AreBytes}
use Rattle.namespace_id.specs.Shares.{IsShare, AreShares, name_in}
use Rattle.namespace_id.specs.declared.namespaces.Namespace.{Namespace}
use Rattle.namespace_id.specs.declared.shares.Share.{Share}
use Rattle.namespace_id.proofs.StringLemmas.{AreBytes-append}
use Rattle.namespace_id.proofs.RefusalLemmas.{checked}
use Rattle.share_split.specs.Blobs.{NamedBytes, first_blob_content}
use Rattle.share_split.specs.Walks.{version_in, size_in, signer_in, Sequence, missing, begun_by, extended_by, first_refusal, later_refusal, blobs_from}
use Rattle.share_split.specs.Joined.{AreBlobs}
use Rattle.share_split.proofs.Reading.Fields.{IsFirst, IsLater}
use Rattle.share_split.specs.declared.walking.Form.TheVariants.{Blobs}
use Rattle.std.specs.Prelude.{is_some}
use Rattle.share_split.proofs.Reading.Next.{first_told, later_told, first_part, later_part, part-fits}
use Rattle.share_split.proofs.Reading.Runs.{AreLater, drop-parted}
use Rattle.share_split.proofs.Reading.BlobWalk.{blobs_on, blobs_from-cons, blobs_from-nil, blobs_from-open}
use Rattle.share_split.proofs.Reading.BlobRead.{taken_on}
use Rattle.share_split.proofs.Reading.Pieces.{one, with_sequence}
use Rattle.share_split.proofs.Reading.BlobAnswer.{goes_on}

-- ---- the walk

-- what follows an open sequence
pub record IsRest (s : Sequence) (shares : List Share) (blobs : List NamedBytes) : Type 0 where
  pub text : List ℕ
  pub those : List Share
  pub more : List Share
  pub others : List NamedBytes
  pub parts : shares ≡ those ++ more
  pub wholes : AreShares those
  pub later : AreLater Blobs s.name s.version text those
  pub all : s.size ≡ length s.content + length text
  pub fits : AreBytes text
  pub behind : AreBlobs more others
  pub shown : blobs ≡ one s.name s.signer (s.content ++ text) ∷ others

-- what shares are where a sequence may be open
abbrev pub AreFrom : Option Sequence → List Share → List NamedBytes → Type 0
AreFrom None shares blobs = AreBlobs shares blobs
AreFrom (Some s) shares blobs = IsRest s shares blobs

-- an open sequence has content to come
abbrev pub IsOpen : Option Sequence → Type 0
IsOpen None = ⊤
IsOpen (Some s) = length s.content < s.size

-- a share that begins a sequence, and what follows
begun_told : (i : ℕ) (share : Share) (shares : List Share) (blobs : List NamedBytes) → IsShare share → first_refusal Blobs i share ≡ None
    → taken_on (suc i) (begun_by Blobs i share) shares ≡ Ok blobs
    → ((others : List NamedBytes) → blobs_from (suc i) None shares ≡ Ok others → AreBlobs shares others)
    → (length (first_part Blobs share) < size_in share → blobs_from (suc i) (Some (begun_by Blobs i share)) shares ≡ Ok blobs → IsRest (begun_by Blobs i share) shares blobs)
    → AreBlobs (share ∷ shares) blobs
begun_told i share shares blobs whole passed e after rest =
    let b = first_told Blobs i share whole passed in
    let part : List ℕ = first_part Blobs share in
    let name : Namespace = name_in share in
    let version : ℕ = version_in share in
    let signer : Option (List ℕ) = signer_in share in
    let size : ℕ = size_in share in
    let n : ℕ = first_blob_content (is_some signer) in
    goes_on (suc i) (begun_by Blobs i share) shares blobs e
    (λ le c.
    let len : length part ≡ size = omega (arith, b.within, le) in
    let first : IsFirst Blobs name version signer size part share = subst (λ (l : List ℕ). IsFirst Blobs name version signer size l share) (append-nil part) (b.first [] (omega (arith, len))) in
    let none : length (drop n part) ≡ 0 = omega (arith, length-drop n part, b.few) in
    with_sequence size part share [] shares shares c.others blobs whole tt b len refl first none (part-fits Blobs size share whole) refl (after c.others c.rest) c.shown)
    (λ lt h.
    let r = rest lt h in
    let bytes : List ℕ = part ++ r.text in
    let len : length bytes ≡ size = length-append part r.text ∙ sym r.all in
    let first : IsFirst Blobs name version signer size bytes share = b.first r.text (sym r.all) in
    let behind : drop n bytes ≡ r.text = drop-parted n part r.text b.few (λ (k : length part < n). omega (arith, b.full k, r.all)) in
    let later : AreLater Blobs name version (drop n bytes) r.those = subst (λ (l : List ℕ). AreLater Blobs name version l r.those) (sym behind) r.later in
    let not_empty : eqb size 0 ≡ false = grind (arith, nat_tests) in
    with_sequence size bytes share r.those r.more shares r.others blobs whole r.wholes b len refl first later
    (AreBytes-append part r.text (part-fits Blobs size share whole) r.fits) r.parts r.behind
    (ap (λ (x : Bool). cond x r.others (one name signer bytes ∷ r.others)) not_empty ∙ sym r.shown))

-- a share that goes on with a sequence, and what follows
extended_told : (i : ℕ) (s : Sequence) (share : Share) (shares : List Share) (blobs : List NamedBytes) → IsShare share → length s.content < s.size
    → later_refusal Blobs i s share ≡ None
    → taken_on (suc i) (extended_by Blobs s share) shares ≡ Ok blobs
    → ((others : List NamedBytes) → blobs_from (suc i) None shares ≡ Ok others → AreBlobs shares others)
    → (length (s.content ++ later_part Blobs s share) < s.size → blobs_from (suc i) (Some (extended_by Blobs s share)) shares ≡ Ok blobs → IsRest (extended_by Blobs s share) shares blobs)
    → IsRest s (share ∷ shares) blobs
extended_told i s share shares blobs whole open_still passed e after rest =
    let x = later_told Blobs i s share whole passed in
    let part : List ℕ = later_part Blobs s share in
    let so_far : length (s.content ++ part) ≡ length s.content + length part = length-append s.content part in
    let not_empty : eqb s.size 0 ≡ false = grind (arith, nat_tests) in
    goes_on (suc i) (extended_by Blobs s share) shares blobs e
    (λ le c.
    let len : length part ≡ missing s = omega (arith, x.within, so_far, le) in
    let later : IsLater Blobs s.name s.version part share = subst (λ (l : List ℕ). IsLater Blobs s.name s.version l share) (append-nil part) (x.later [] (omega (arith, len))) in
    let none : length (drop 482 part) ≡ 0 = omega (arith, length-drop 482 part, x.few) in
    record {
      text = part;
      those = share ∷ [];
      more = shares;
      others = c.others;
      parts = refl;
      wholes = (whole, tt);
      later = (omega (arith, len), later, none);
      all = omega (arith, len);
      fits = part-fits Blobs (missing s) share whole;
      behind = after c.others c.rest;
      shown = sym (sym (ap (λ (b : Bool). cond b c.others (one s.name s.signer (s.content ++ part) ∷ c.others)) not_empty) ∙ c.shown);
    })
    (λ lt h.
    let r = rest lt h in
    let text : List ℕ = part ++ r.text in
    let both : length text ≡ length part + length r.text = length-append part r.text in
    let behind : drop 482 text ≡ r.text = drop-parted 482 part r.text x.few (λ (k : length part < 482). omega (arith, x.full k, r.all, so_far)) in
    record {
      text = text;
      those = share ∷ r.those;
      more = r.more;
      others = r.others;
      parts = ap (λ (l : List Share). share ∷ l) r.parts;
      wholes = (whole, r.wholes);
      later = (
        omega (arith, both, r.all, so_far, lt),
        x.later r.text (omega (arith, r.all, so_far)),
        subst (λ (l : List ℕ). AreLater Blobs s.name s.version l r.those) (sym behind) r.later,
      );
      all = omega (arith, both, r.all, so_far);
      fits = AreBytes-append part r.text (part-fits Blobs (missing s) share whole) r.fits;
      behind = r.behind;
      shown = r.shown ∙ ap (λ (l : List ℕ). one s.name s.signer l ∷ r.others) (append_assoc s.content part r.text);
    })

-- no shares are no blobs
no_pieces : (blobs : List NamedBytes) → [] ≡ blobs → AreBlobs [] blobs
no_pieces blobs e = record { pieces = []; are_pieces = tt; parts = refl; shown = sym e }

-- shares that are read as blobs are these
pub blobs_told : (shares : List Share) (i : ℕ) (so_far : Option Sequence) (blobs : List NamedBytes) → AreShares shares → IsOpen so_far
    → blobs_from i so_far shares ≡ Ok blobs → AreFrom so_far shares blobs
blobs_told [] i None blobs wholes is e = no_pieces blobs (let nil = blobs_from-nil i in cc)
blobs_told [] i (Some s) blobs wholes is e = let cut = blobs_from-open i s in absurd cc
blobs_told (share ∷ shares) i None blobs wholes is e =
    let p = checked (first_refusal Blobs i share) (blobs_on i None share shares) blobs (sym (blobs_from-cons i None share shares) ∙ e) in
    begun_told i share shares blobs wholes.0 p.0 p.1
    (λ others h. blobs_told shares (suc i) None others wholes.1 tt h)
    (λ lt h. blobs_told shares (suc i) (Some (begun_by Blobs i share)) blobs wholes.1 lt h)
blobs_told (share ∷ shares) i (Some s) blobs wholes is e =
    let p = checked (later_refusal Blobs i s share) (blobs_on i (Some s) share shares) blobs (sym (blobs_from-cons i (Some s) share shares) ∙ e) in
    extended_told i s share shares blobs wholes.0 is p.0 p.1
    (λ others h. blobs_told shares (suc i) None others wholes.1 tt h)
    (λ lt h. blobs_told shares (suc i) (Some (extended_by Blobs s share)) blobs wholes.1 lt h)
