-- Pieces of a list of blobs' shares.
use Rattle.std.proofs.Common.{◌≡◌, ◌≢◌, ◌∙◌, ℕ, ◌≤◌, Bool, true, false, cond, eqb, eqb-true, false-eqb, List, [], ◌∷◌, ◌++◌, length, drop, Option, None, refl, sym, ap, ap₂, subst, arith, length-drop}
use Rattle.std.specs.Int.{div_ceil}
use Rattle.std.proofs.lemmas.List.{nil_from_length}
use Rattle.namespace_id.specs.Names.{IsNamespace}
use Rattle.namespace_id.specs.Bytes.{AreBytes, IsString}
use Rattle.namespace_id.specs.Shares.{IsShare, AreShares, name_in}
use Rattle.namespace_id.specs.declared.namespaces.Namespace.{Namespace}
use Rattle.namespace_id.specs.declared.shares.Share.{Share}
use Rattle.namespace_id.proofs.ShareLemmas.{name_in-is}
use Rattle.share_split.specs.Blobs.{NamedBytes, signer_size, max_sequence_length, first_blob_content, later_shares, blob_shares_of}
use Rattle.share_split.specs.Walks.{version_in, size_in, signer_in}
use Rattle.share_split.specs.Joined.{Piece, piece_shares, piece_blobs, IsPiece, IsBlob, AreBlobs, padding_of}
use Rattle.share_split.specs.Joined.Piece.{padding, blob}
use Rattle.share_split.proofs.Reading.Fields.{IsFirst, opening, is_opening}
use Rattle.share_split.proofs.Reading.Signers.{IsLabel, none_told, version_told}
use Rattle.share_split.specs.declared.walking.Form.TheVariants.{Blobs}
use Rattle.std.specs.Prelude.{is_some, IfSome}
use Rattle.share_split.proofs.Reading.Next.{IsBegun, size_in-small, label_in}
use Rattle.share_split.proofs.Reading.Runs.{AreLater, later_only, later_count}
use Rattle.share_split.proofs.Reading.BlobRead.{sequence_shares, padding_is}

-- a first share and later ones are the shares of their bytes
whole_sequence : (name : Namespace) (version : ℕ) (signer : Option (List ℕ)) (bytes : List ℕ) (share : Share) (shares : List Share) → IsShare share → AreShares shares
    → IfSome signer (IsString signer_size) → IsFirst Blobs name version signer (length bytes) bytes share
    → AreLater Blobs name version (drop (first_blob_content (is_some signer)) bytes) shares → share ∷ shares ≡ sequence_shares name version signer bytes
whole_sequence name version signer bytes share shares whole wholes signed first later =
    let n : ℕ = first_blob_content (is_some signer) in
    let count : div_ceil (length (drop n bytes)) 482 ≡ _ = ap (λ (n : ℕ). div_ceil n 482) (length-drop n bytes) ∙ sym (later_count (length bytes) (is_some signer)) in
    ap₂ (λ (s : Share) (l : List Share). s ∷ l) (is_opening name version signer (length bytes) bytes share whole signed first)
    (later_only name version (drop n bytes) shares wholes later)
    ∙ ap (λ (k : ℕ). opening name version signer (length bytes) bytes ∷ later_shares k name version (drop n bytes)) count

-- one piece more before the others
with_piece : (piece : Piece) (shares : List Share) (blobs : List NamedBytes) → IsPiece piece → AreBlobs shares blobs → AreBlobs (piece_shares piece ++ shares) (piece_blobs piece ++ blobs)
with_piece piece shares blobs is are = record {
  pieces = piece ∷ are.pieces;
  are_pieces = (is, are.are_pieces);
  parts = ap (λ (l : List Share). piece_shares piece ++ l) are.parts;
  shown = ap (λ (l : List NamedBytes). piece_blobs piece ++ l) are.shown;
}

-- a blob by its parts
abbrev pub one : Namespace → Option (List ℕ) → List ℕ → NamedBytes
one name signer bytes = record { namespace = name; bytes = bytes; signer = signer }

-- a length that isn't 0 is that of some bytes
some_bytes : (bytes : List ℕ) → eqb (length bytes) 0 ≡ false → bytes ≢ []
some_bytes bytes is none = absurd (false-eqb _ _ (sym is) (ap length none))

-- a sequence of no bytes is padding, another one is a blob
sequence_by : (empty : Bool) (name : Namespace) (version : ℕ) (signer : Option (List ℕ)) (bytes : List ℕ) (all more : List Share) (others blobs : List NamedBytes)
    → eqb (length bytes) 0 ≡ empty → IsNamespace name → IsLabel version signer (length bytes) → length bytes ≤ max_sequence_length → AreBytes bytes
    → all ≡ sequence_shares name version signer bytes ++ more → AreBlobs more others → cond empty others (one name signer bytes ∷ others) ≡ blobs → AreBlobs all blobs
sequence_by true name version signer bytes all more others blobs is named label few fits parts behind shown =
    let none : bytes ≡ [] = nil_from_length bytes (eqb-true _ _ is) in
    let unsigned : signer ≡ None = none_told version signer (subst (λ (l : List ℕ). IsLabel version signer (length l)) none label) in
    let padded : padding_of version name ∷ more ≡ all =
    sym (parts ∙ ap₂ (λ (o : Option (List ℕ)) (l : List ℕ). sequence_shares name version o l ++ more) unsigned none
    ∙ ap (λ (l : List Share). l ++ more) (padding_is name version)) in
    subst (λ (l : List Share). AreBlobs l blobs) padded
    (subst (λ (l : List NamedBytes). AreBlobs (padding_of version name ∷ more) l) shown
    (with_piece (padding version name) more others (label.low, named) behind))
sequence_by false name version signer bytes all more others blobs is named label few fits parts behind shown =
    let is_blob : IsBlob (one name signer bytes) = record { name = named; some = some_bytes bytes is; few = few; fits = fits; signer = label.whole } in
    let versioned : blob_shares_of name signer bytes ++ more ≡ all =
    sym (parts ∙ ap (λ (v : ℕ). sequence_shares name v signer bytes ++ more) (version_told version (length bytes) signer is label)) in
    subst (λ (l : List Share). AreBlobs l blobs) versioned
    (subst (λ (l : List NamedBytes). AreBlobs (blob_shares_of name signer bytes ++ more) l) shown
    (with_piece (blob (one name signer bytes)) more others is_blob behind))

-- one sequence more before the others
pub with_sequence : (size : ℕ) (bytes : List ℕ) (share : Share) (those more shares : List Share) (others blobs : List NamedBytes)
    → IsShare share → AreShares those → IsBegun Blobs share → length bytes ≡ size → size_in share ≡ size
    → IsFirst Blobs (name_in share) (version_in share) (signer_in share) size bytes share
    → AreLater Blobs (name_in share) (version_in share) (drop (first_blob_content (is_some (signer_in share))) bytes) those → AreBytes bytes
    → shares ≡ those ++ more → AreBlobs more others
    → cond (eqb size 0) others (one (name_in share) (signer_in share) bytes ∷ others) ≡ blobs
    → AreBlobs (share ∷ shares) blobs
with_sequence size bytes share those more shares others blobs whole wholes begun len size_is first later fits parts behind shown =
    let name : Namespace = name_in share in
    let version : ℕ = version_in share in
    let signer : Option (List ℕ) = signer_in share in
    let label : IsLabel version signer (length bytes) = subst (λ (n : ℕ). IsLabel version signer n) (size_is ∙ sym len) (label_in share whole begun) in
    let sized : IsFirst Blobs name version signer (length bytes) bytes share = subst (λ (n : ℕ). IsFirst Blobs name version signer n bytes share) (sym len) first in
    sequence_by (eqb (length bytes) 0) name version signer bytes (share ∷ shares) more others blobs refl (name_in-is share whole) label
    (omega (arith, size_in-small share whole)) fits
    (ap (λ (l : List Share). share ∷ l) parts
    ∙ ap (λ (l : List Share). l ++ more) (whole_sequence name version signer bytes share those whole wholes label.whole sized later))
    behind (ap (λ (n : ℕ). cond (eqb n 0) others (one name signer bytes ∷ others)) len ∙ shown)
