-- Shares that are read as units are their compact sequence.
use Rattle.std.proofs.Common.{◌≡◌, ◌∙◌, ℕ, ◌-◌, ◌<◌, inl, inr, eqb-true, List, [], ◌∷◌, ◌++◌, length, take, drop, Option, Some, None, Result, Ok, Err, refl, sym, ap, ap₂, subst, arith, length-drop, length-append}
use Rattle.std.specs.Int.{div_ceil}
use Rattle.std.specs.Option.{option_map_or}
use Rattle.namespace_id.specs.Shares.{AreShares, name_in}
use Rattle.namespace_id.specs.declared.namespaces.Namespace.{Namespace}
use Rattle.namespace_id.specs.declared.shares.Share.{Share}
use Rattle.namespace_id.proofs.StringLemmas.{AreBytes-append}
use Rattle.namespace_id.proofs.ShareLemmas.{name_in-is}
use Rattle.namespace_id.proofs.RefusalLemmas.{checked}
use Rattle.share_split.specs.declared.joining.JoinError.TheVariants.{BadReserved}
use Rattle.share_split.specs.Units.{starts_from, reserved_of, first_compact_share, later_compact_shares, compact_count}
use Rattle.share_split.specs.Walks.{version_in, size_in, signer_in, Sequence, begun_by, unit_refusal, sequence_from, units_from, bad_reserved, reserved_units, units_in, units_of}
use Rattle.share_split.specs.Joined.{AreCompact, AreUnits}
use Rattle.share_split.proofs.Reading.Fields.{IsFirst}
use Rattle.share_split.proofs.Reading.CompactFields.{unsigned_compact, is_first_compact}
use Rattle.share_split.specs.declared.walking.Form.TheVariants.{Units}
use Rattle.share_split.proofs.Reading.Sequence.{seq}
use Rattle.share_split.proofs.Reading.Next.{first_told, first_part, size_in-small, part-fits}
use Rattle.share_split.proofs.Reading.Runs.{AreLater, drop-parted, good_cons, later_compact_only, later_compact_count}
use Rattle.share_split.proofs.Reading.TextLaws.{units_back}
use Rattle.share_split.proofs.Reading.UnitWalk.{One, sequence_from-cons, sequence_from-none}
use Rattle.share_split.proofs.Reading.SequenceTold.{run_told}

-- ---- the whole sequence

-- units of a text whose shares these are
pub record IsRead (shares : List Share) (text : List ℕ) (units : List (List ℕ)) : Type 0 where
  pub read : units_from 0 0 text ≡ Ok units
  pub good : bad_reserved 0 (starts_from 0 units) shares ≡ None

-- no share states a wrong number
good_by : (o : Option ℕ) (units answer : List (List ℕ)) → option_map_or (λ i. Err (BadReserved i)) o (Ok units) ≡ Ok answer → (o ≡ None) × (units ≡ answer)
good_by None units answer e = let same : units ≡ answer = cc in (refl, same)
good_by (Some i) units answer e = absurd cc

-- units that were read are those of their text
read_by : (shares : List Share) (text : List ℕ) (r : Result (List (List ℕ)) ℕ) (units : List (List ℕ)) → units_from 0 0 text ≡ r → reserved_units shares r ≡ Ok units
    → IsRead shares text units
read_by shares text (Err at) units is e = absurd cc
read_by shares text (Ok some) units is e =
    let g = good_by (bad_reserved 0 (starts_from 0 some) shares) some units e in
    record {
      read = is ∙ ap Ok g.1;
      good = ap (λ (u : List (List ℕ)). bad_reserved 0 (starts_from 0 u) shares) (sym g.1) ∙ g.0;
    }

-- the compact sequence of a text in which units start at these places
abbrev sequence_of_text : Namespace → List ℕ → List ℕ → List Share
sequence_of_text name starts text =
    first_compact_share name (length text) (reserved_of 0 starts) (take 474 text)
    ∷ later_compact_shares (compact_count (length text) - 1) name 1 starts (drop 474 text)

-- a first compact share has version 0, and so no signer
compact_first : (share : Share) (name : Namespace) (text : List ℕ) → version_in share ≡ 0
    → IsFirst Units name (version_in share) (signer_in share) (size_in share) text share → IsFirst Units name 0 None (size_in share) text share
compact_first share name text version first = record {
  version_is = version;
  start_is = first.start_is;
  name_is = first.name_is;
  signer_is = unsigned_compact share version;
  size_is = first.size_is;
  content_is = first.content_is;
}

-- a share that begins the sequence, and its later shares
compact_told : (share : Share) (shares : List Share) (units : List (List ℕ)) (answer : Option Sequence) → AreShares (share ∷ shares)
    → sequence_from 0 None (share ∷ shares) ≡ Ok answer → units_in (share ∷ shares) (Ok answer) ≡ Ok units → AreCompact (share ∷ shares) units
compact_told share shares units answer wholes e read =
    let p = checked (unit_refusal 0 None share) (sequence_from 1 (Some (begun_by Units 0 share)) shares) answer (sym (sequence_from-cons 0 None share shares) ∙ e) in
    let b = first_told Units 0 share wholes.0 p.0 in
    let part : List ℕ = first_part Units share in
    let name : Namespace = name_in share in
    let size : ℕ = size_in share in
    let r = run_told shares 1 (begun_by Units 0 share) answer wholes.1 b.within p.1 in
    let text : List ℕ = part ++ r.text in
    let s : Sequence = seq 0 name (version_in share) (signer_in share) size text in
    let got : units_in (share ∷ shares) (Ok (Some s)) ≡ Ok units = ap (λ (o : Option Sequence). units_in (share ∷ shares) (Ok o)) (sym r.answer_is) ∙ read in
    let k = read_by (share ∷ shares) text (units_from 0 0 text) units refl got in
    let u = units_back (length text) 0 text units (omega arith) (AreBytes-append part r.text (part-fits Units size share wholes.0) r.fits) k.read in
    let starts : List ℕ = starts_from 0 units in
    let g = good_cons 0 starts share shares k.good in
    let len : length text ≡ size = length-append part r.text ∙ sym r.all in
    let version : version_in share ≡ 0 = eqb-true _ _ b.version in
    let sized : IsFirst Units name 0 None size text share = compact_first share name text version (b.first r.text (sym r.all)) in
    let first : IsFirst Units name 0 None (length text) text share = subst (λ (n : ℕ). IsFirst Units name 0 None n text share) (sym len) sized in
    let behind : drop 474 text ≡ r.text = drop-parted 474 part r.text b.few (λ (h : length part < 474). omega (arith, b.full h, r.all)) in
    let later : AreLater Units name 0 (drop 474 text) shares =
    subst (λ (l : List ℕ). AreLater Units name 0 l shares) (sym behind) (subst (λ (v : ℕ). AreLater Units name v r.text shares) version r.later) in
    let count : div_ceil (length (drop 474 text)) 478 ≡ compact_count (length text) - 1 =
    ap (λ (n : ℕ). div_ceil n 478) (length-drop 474 text) ∙ sym (later_compact_count (length text)) in
    let parts : share ∷ shares ≡ sequence_of_text name starts text =
    ap₂ (λ (s : Share) (l : List Share). s ∷ l) (is_first_compact name (length text) (reserved_of 0 starts) text share wholes.0 (first, g.0))
    (later_compact_only name 1 starts (drop 474 text) shares wholes.1 later g.1
    ∙ ap (λ (n : ℕ). later_compact_shares n name 1 starts (drop 474 text)) count) in
    record {
      name = name;
      name_is = name_in-is share wholes.0;
      few = omega (arith, ap length u.0, len, size_in-small share wholes.0);
      fits = u.1;
      parts = parts ∙ ap (sequence_of_text name starts) (sym u.0);
    }

-- ---- the law

-- a sequence was read
sequence_of : (shares : List Share) (r : One) (units : List (List ℕ)) → units_in shares r ≡ Ok units → (answer : Option Sequence) × (r ≡ Ok answer)
sequence_of shares (Err why) units e = absurd cc
sequence_of shares (Ok answer) units e = (answer, refl)

-- shares that are read as units are theirs
pub units_told : (shares : List Share) (units : List (List ℕ)) → AreShares shares → units_of shares ≡ Ok units → AreUnits shares units
units_told [] units wholes e =
    let none : units_of [] ≡ Ok [] = ap (units_in []) (sequence_from-none 0) in
    let same : units ≡ [] = cc in
    inl (refl, same)
units_told (share ∷ shares) units wholes e =
    let r = sequence_of (share ∷ shares) (sequence_from 0 None (share ∷ shares)) units e in
    inr (compact_told share shares units r.0 wholes r.1 (ap (units_in (share ∷ shares)) (sym r.1) ∙ e))
