-- Shares in repeated fields, written and read.
use Rattle.std.proofs.Common.{◌≡◌, ◌∙◌, ℕ, zero, suc, ◌^◌, ◌<◌, ◌≤◌, false, List, [], ◌∷◌, ◌++◌, length, Option, Some, None, Result, Ok, Err, refl, sym, ap, subst, arith, append_assoc}
use Rattle.namespace_id.specs.declared.shares.Share.{Share}
use Rattle.namespace_id.specs.Bytes.{AreBytes}
use Rattle.namespace_id.specs.Shares.{IsShare, AreShares}
use Rattle.proto_fields.specs.Spelled.{bytes_field}
use Rattle.proto_fields.specs.Canonical.{begins_part}
use Rattle.celestia_pb.specs.Reading.{then_read}
use Rattle.celestia_pb.specs.Samples.{share_message, share_left}
use Rattle.celestia_pb.specs.RowShares.{share_field_text, shares_text, share_field, with_share, before_shares, shares_at}
use Rattle.celestia_pb.proofs.DigestLemmas.{ok_parts}
use Rattle.celestia_pb.proofs.MessageLemmas.{field_few, message_none, message_is_read, message_back, message_absent}
use Rattle.celestia_pb.proofs.SampleLemmas.{share_is_read, share_back}

-- ---- one share

-- it is read back, whatever follows
pub share_field_is_read : (share : Share) (rest : List ℕ) → IsShare share → share_field (share_field_text share ++ rest) ≡ Ok (Some share, rest)
share_field_is_read share rest is =
    let size : length share.0 ≡ 512 = is.size_is in
    let short : length (share_message share) < 2 ^ 64 = omega (arith, field_few 1 share.0) in
    message_is_read (λ rest part. share_left part) 1 (share_message share) rest share (omega arith) short (share_is_read share is)

-- what is read as one
pub record IsShareRead (bytes : List ℕ) (share : Share) (rest : List ℕ) : Type 0 where
  pub is : IsShare share
  pub parts : bytes ≡ share_field_text share ++ rest
  pub fits : AreBytes rest

-- was written so
pub read_is_share : (bytes : List ℕ) (share : Share) (rest : List ℕ) → AreBytes bytes → share_field bytes ≡ Ok (Some share, rest) → IsShareRead bytes share rest
read_is_share bytes share rest fits e =
    let h = message_back (λ rest part. share_left part) 1 bytes share rest (omega arith) fits e in
    let back = share_back h.part share h.part_fits h.read in
    let parts : bytes ≡ share_field_text share ++ rest = subst (λ (l : List ℕ). bytes ≡ bytes_field 1 l ++ rest) back.1 h.parts in
    record { is = back.0; parts = parts; fits = h.fits }

-- where none is read all is left
pub share_absent : (bytes rest : List ℕ) → share_field bytes ≡ Ok (None, rest) → rest ≡ bytes
share_absent bytes rest e = message_absent (λ rest part. share_left part) 1 bytes rest e

-- ---- the recursion

-- none may be read
pub shares_at-none : (bytes : List ℕ) → shares_at zero bytes ≡ Ok ([], bytes)
unfolding shares_at
shares_at-none bytes = refl

-- one more may be
pub shares_at-next : (most : ℕ) (bytes : List ℕ) → shares_at (suc most) bytes ≡ then_read (before_shares (shares_at most)) (share_field bytes)
unfolding shares_at
shares_at-next most bytes = refl

-- the field of one is wrong
pub shares_at-wrong : (most : ℕ) (bytes : List ℕ) (left : ℕ) → share_field bytes ≡ Err left → shares_at (suc most) bytes ≡ Err left
shares_at-wrong most bytes left e = shares_at-next most bytes ∙ ap (then_read (before_shares (shares_at most))) e

-- none is there
pub shares_at-end : (most : ℕ) (bytes rest : List ℕ) → share_field bytes ≡ Ok (None, rest) → shares_at most bytes ≡ Ok ([], bytes)
shares_at-end zero bytes rest e = shares_at-none bytes
shares_at-end (suc most) bytes rest e =
    shares_at-next most bytes
    ∙ ap (then_read (before_shares (shares_at most))) e
    ∙ ap (λ (l : List ℕ). Ok ([], l)) (share_absent bytes rest e)

-- one is there
pub shares_at-more : (most : ℕ) (bytes : List ℕ) (share : Share) (rest : List ℕ) → share_field bytes ≡ Ok (Some share, rest)
    → shares_at (suc most) bytes ≡ with_share share (shares_at most rest)
shares_at-more most bytes share rest e = shares_at-next most bytes ∙ ap (then_read (before_shares (shares_at most))) e

-- ---- what was written is read

-- the first share, and then the others
pub shares_text-next : (share : Share) (shares : List Share) (rest : List ℕ)
    → shares_text (share ∷ shares) ++ rest ≡ share_field_text share ++ (shares_text shares ++ rest)
shares_text-next share shares rest = append_assoc (share_field_text share) (shares_text shares) rest

-- shares are read back, where no other one follows
pub shares_are_read : (most : ℕ) (shares : List Share) (rest : List ℕ) → AreShares shares → length shares ≤ most → begins_part 1 rest ≡ false
    → shares_at most (shares_text shares ++ rest) ≡ Ok (shares, rest)
shares_are_read most [] rest all le none = shares_at-end most rest rest (message_none (λ rest part. share_left part) 1 rest none)
shares_are_read zero (share ∷ shares) rest all le none = absurd (omega arith)
shares_are_read (suc most) (share ∷ shares) rest all le none =
    let behind : List ℕ = shares_text shares ++ rest in
    ap (shares_at (suc most)) (shares_text-next share shares rest)
    ∙ shares_at-more most (share_field_text share ++ behind) share behind (share_field_is_read share behind all.0)
    ∙ ap (with_share share) (shares_are_read most shares rest all.1 (omega arith) none)

-- ---- what is read was written

-- what is read as shares
pub record AreSharesRead (most : ℕ) (bytes : List ℕ) (shares : List Share) (rest : List ℕ) : Type 0 where
  pub are : AreShares shares
  pub few : length shares ≤ most
  pub parts : bytes ≡ shares_text shares ++ rest
  pub fits : AreBytes rest

-- shares behind a first one
record HasOthers (share : Share) (shares : List Share) (rest : List ℕ) (r : Result (List Share × List ℕ) ℕ) : Type 0 where
  others : List Share
  read : r ≡ Ok (others, rest)
  all : shares ≡ share ∷ others

-- a first one was put before others
with_share_parts : (share : Share) (shares : List Share) (rest : List ℕ) (r : Result (List Share × List ℕ) ℕ) → with_share share r ≡ Ok (shares, rest)
    → HasOthers share shares rest r
with_share_parts share shares rest (Err left) e = absurd cc
with_share_parts share shares rest (Ok x) e =
    let same = ok_parts (share ∷ x.0) shares x.1 rest e in
    record { others = x.0; read = ap (λ (l : List ℕ). Ok (x.0, l)) same.1; all = sym same.0 }

-- no share was read
none_read : (most : ℕ) (bytes : List ℕ) (shares : List Share) (rest : List ℕ) → AreBytes bytes → ◌≡◌ {A = Result (List Share × List ℕ) ℕ} (Ok ([], bytes)) (Ok (shares, rest))
    → AreSharesRead most bytes shares rest
none_read most bytes shares rest fits e =
    let same = ok_parts [] shares bytes rest e in
    record {
      are = subst (λ (l : List Share). AreShares l) same.0 tt;
      few = subst (λ (l : List Share). length l ≤ most) same.0 (omega arith);
      parts = same.1 ∙ ap (λ (l : List Share). shares_text l ++ rest) same.0;
      fits = subst (λ (l : List ℕ). AreBytes l) same.1 fits;
    }

-- whether what is read as at most so many shares was written so
abbrev Back : ℕ → Type 0
Back most = (bytes : List ℕ) (shares : List Share) (rest : List ℕ) → AreBytes bytes → shares_at most bytes ≡ Ok (shares, rest) → AreSharesRead most bytes shares rest

-- a first one was read, and others, or none was
one_read : (most : ℕ) (bytes : List ℕ) (shares : List Share) (rest : List ℕ) (o : Option Share) (after : List ℕ) → Back most → AreBytes bytes
    → share_field bytes ≡ Ok (o, after) → before_shares (shares_at most) o after ≡ Ok (shares, rest) → AreSharesRead (suc most) bytes shares rest
one_read most bytes shares rest None after back fits is e =
    none_read (suc most) bytes shares rest fits (ap (λ (l : List ℕ). Ok ([], l)) (sym (share_absent bytes after is)) ∙ e)
one_read most bytes shares rest (Some share) after back fits is e =
    let h = read_is_share bytes share after fits is in
    let more = with_share_parts share shares rest (shares_at most after) e in
    let others = back after more.others rest h.fits more.read in
    record {
      are = subst (λ (l : List Share). AreShares l) (sym more.all) (h.is, others.are);
      few = omega (arith, ap length more.all, others.few);
      parts =
          h.parts
          ∙ ap (λ (l : List ℕ). share_field_text share ++ l) others.parts
          ∙ sym (shares_text-next share more.others rest)
          ∙ ap (λ (l : List Share). shares_text l ++ rest) (sym more.all);
      fits = others.fits;
    }

-- its field is right
field_read : (most : ℕ) (bytes : List ℕ) (shares : List Share) (rest : List ℕ) (r : Result (Option Share × List ℕ) ℕ) → Back most → AreBytes bytes
    → share_field bytes ≡ r → then_read (before_shares (shares_at most)) r ≡ Ok (shares, rest) → AreSharesRead (suc most) bytes shares rest
field_read most bytes shares rest (Err left) back fits is e = absurd cc
field_read most bytes shares rest (Ok x) back fits is e = one_read most bytes shares rest x.0 x.1 back fits is e

-- what is read as shares was written so
pub read_are_shares : (most : ℕ) (bytes : List ℕ) (shares : List Share) (rest : List ℕ) → AreBytes bytes → shares_at most bytes ≡ Ok (shares, rest)
    → AreSharesRead most bytes shares rest
read_are_shares zero bytes shares rest fits e = none_read zero bytes shares rest fits (sym (shares_at-none bytes) ∙ e)
read_are_shares (suc most) bytes shares rest fits e =
    field_read most bytes shares rest (share_field bytes) (λ some list left. read_are_shares most some list left) fits refl (sym (shares_at-next most bytes) ∙ e)
