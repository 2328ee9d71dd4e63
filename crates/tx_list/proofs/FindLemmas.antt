-- What is found at a share is a blob, which has a spelling.
use Rattle.std.proofs.Common.{◌≡◌, ℕ, zero, suc, ◌+◌, ◌*◌, ◌/◌, ◌≤◌, List, [], ◌∷◌, ◌++◌, length, take, drop, Option, Some, None, IfSome, Result, Ok, Err, refl, sym, ap, subst, arith, inl, inr, length-append, length-drop}
use Rattle.std.specs.List.{AllByRecursion, flat_map, slice_get}
use Rattle.std.specs.Option.{option_map_or}
use Rattle.std.proofs.lemmas.Bool.{cases_lt}
use Rattle.namespace_id.specs.declared.shares.Share.{Share}
use Rattle.namespace_id.specs.Bytes.{IsString}
use Rattle.namespace_id.specs.Shares.{IsShare, AreShares}
use Rattle.proto_fields.specs.Varints.{varint_within, varint}
use Rattle.proto_fields.specs.Spelled.{text}
use Rattle.proto_fields.proofs.Varint.Bytes.{varint_within-low, varint_within-high}
use Rattle.share_split.specs.declared.joining.JoinError.{JoinError}
use Rattle.share_split.specs.Blobs.{NamedBytes, signer_size, signer_bytes}
use Rattle.share_split.specs.Joined.{Piece, IsBlob, IsPiece, piece_blobs, AreBlobs}
use Rattle.share_split.specs.Joined.Piece.{padding, blob}
use Rattle.share_split.specs.Walks.{blobs_joined}
use Rattle.share_split.proofs.Reading.JoinLaws.{blobs_law}
use Rattle.square_layout.specs.Blocks.{HaveBytes}
use Rattle.tx_list.specs.Wrapped.{some_field}
use Rattle.tx_list.specs.Spelled.{version_field}
use Rattle.tx_list.specs.BackRefusals.{stated_count, sequence_at, the_one, one_blob, blob_at, blobs_at}
use Rattle.tx_list.proofs.ListLemmas.{all-append}
use Rattle.tx_list.proofs.SpelledBlobLemmas.{IsStatable}

-- ---- it is a blob

taken_all : (P : Share → Type 0) (n : ℕ) (shares : List Share) → AllByRecursion P shares → AllByRecursion P (take n shares)
taken_all P zero shares all = tt
taken_all P (suc n) [] all = tt
taken_all P (suc n) (share ∷ shares) all = (all.0, taken_all P n shares all.1)

dropped_all : (P : Share → Type 0) (n : ℕ) (shares : List Share) → AllByRecursion P shares → AllByRecursion P (drop n shares)
dropped_all P zero shares all = all
dropped_all P (suc n) [] all = tt
dropped_all P (suc n) (share ∷ shares) all = dropped_all P n shares all.1

-- the shares of a sequence are shares
sequence_of : (shares : List Share) (place : ℕ) (first : Option Share) → AreShares shares
    → AreShares (option_map_or (λ share. take (stated_count share) (drop place shares)) first [])
sequence_of shares place None wholes = tt
sequence_of shares place (Some share) wholes = taken_all IsShare (stated_count share) (drop place shares) (dropped_all IsShare place shares wholes)

-- what pieces show are blobs
pieces_shown : (pieces : List Piece) → AllByRecursion IsPiece pieces → AllByRecursion IsBlob (flat_map piece_blobs pieces)
pieces_shown [] all = tt
pieces_shown (padding version name ∷ pieces) all = pieces_shown pieces all.1
pieces_shown (blob one ∷ pieces) all = (all.0, pieces_shown pieces all.1)

one_is : (blobs : List NamedBytes) → AllByRecursion IsBlob blobs → IfSome (the_one blobs) IsBlob
one_is [] all = tt
one_is (one ∷ []) all = all.0
one_is (one ∷ other ∷ others) all = tt

-- so is the one that was read
pub one_held : (shares : List Share) (blobs : List NamedBytes) (found : Option NamedBytes) → AreBlobs shares blobs → found ≡ the_one blobs → IfSome found IsBlob
one_held shares blobs found are is =
    subst (λ (o : Option NamedBytes). IfSome o IsBlob) (sym is)
    (one_is blobs (subst (AllByRecursion IsBlob) (sym are.shown) (pieces_shown are.pieces are.are_pieces)))

found_by : (shares : List Share) (read : Result (List NamedBytes) JoinError) → AreShares shares → blobs_joined shares ≡ read → IfSome (one_blob read) IsBlob
found_by shares (Err why) wholes e = tt
found_by shares (Ok blobs) wholes e = one_held shares blobs (the_one blobs) ((blobs_law shares blobs wholes).0 e) refl

-- and what is found at a place
pub found_is_blob : (shares : List Share) (place : ℕ) → AreShares shares → IfSome (blob_at shares place) IsBlob
found_is_blob shares place wholes =
    found_by (sequence_at shares place) (blobs_joined (sequence_at shares place)) (sequence_of shares place (slice_get shares place) wholes) refl

alone : (found : Option NamedBytes) → IfSome found IsBlob → AllByRecursion IsBlob (option_map_or (λ one. one ∷ []) found [])
alone None is = tt
alone (Some one) is = (is, tt)

-- all that are found at places are blobs
pub all_found : (shares : List Share) (places : List ℕ) → AreShares shares → AllByRecursion IsBlob (blobs_at shares places)
all_found shares [] wholes = tt
all_found shares (place ∷ places) wholes =
    all-append IsBlob (option_map_or (λ one. one ∷ []) (blob_at shares place) []) (blobs_at shares places)
    (alone (blob_at shares place) (found_is_blob shares place wholes)) (all_found shares places wholes)

-- ---- it has a spelling

bytes_some : (bytes : List ℕ) → (bytes ≡ [] → ⊥) → 1 ≤ length bytes
bytes_some [] some = absurd (some refl)
bytes_some (byte ∷ bytes) some = omega arith

-- it has bytes
pub blob_has_bytes : (one : NamedBytes) → IsBlob one → HaveBytes (one ∷ [])
blob_has_bytes one is = (bytes_some one.bytes is.some, tt)

varint_short : (more n : ℕ) → length (varint_within more n) ≤ more
unfolding varint_within
varint_short zero n = omega arith
varint_short (suc more) n = elim (cases_lt n 128) [
  | inl lt ↦ omega (arith, ap length (varint_within-low more n lt))
  | inr le ↦ omega (arith, ap length (varint_within-high more n le), varint_short more (n / 128))
]

field_short : (n : ℕ) (bytes : List ℕ) → length (some_field n bytes) ≤ length bytes + 20
field_short n [] = omega arith
field_short n (byte ∷ bytes) =
    let all : List ℕ = byte ∷ bytes in
    omega (
      arith,
      length-append (varint (8 * n + 2)) (text all),
      length-append (varint (length all)) all,
      varint_short 10 (8 * n + 2),
      varint_short 10 (length all),
    )

version_short : (signer : Option (List ℕ)) → length (version_field signer) ≤ 20
version_short None = omega arith
version_short (Some signer) = omega (arith, length-append (varint 24) (varint 1), varint_short 10 24, varint_short 10 1)

signer_size_of : (signer : Option (List ℕ)) → IfSome signer (IsString signer_size) → IfSome signer (λ s. length s ≡ signer_size)
signer_size_of None is = tt
signer_size_of (Some signer) is = is.size_is

signer_few : (signer : Option (List ℕ)) → IfSome signer (IsString signer_size) → length (signer_bytes signer) ≤ signer_size
signer_few None is = omega arith
signer_few (Some signer) is = omega (arith, is.size_is)

pub blob_is_statable : (one : NamedBytes) → IsBlob one → IsStatable one
blob_is_statable one is =
    let id : List ℕ = drop 1 one.namespace.0 in
    let last : List ℕ = some_field 5 (signer_bytes one.signer) in
    let size : length id ≡ 28 = omega (arith, length-drop 1 one.namespace.0, is.name.size_is) in
    record {
      id = size;
      some = bytes_some one.bytes is.some;
      signer = signer_size_of one.signer is.signer;
      fits = omega (
        arith,
        length-append (some_field 1 id) (some_field 2 one.bytes ++ (version_field one.signer ++ last)),
        length-append (some_field 2 one.bytes) (version_field one.signer ++ last),
        length-append (version_field one.signer) last,
        field_short 1 id,
        field_short 2 one.bytes,
        version_short one.signer,
        field_short 5 (signer_bytes one.signer),
        signer_few one.signer is.signer,
        size,
        is.few,
      );
    }

pub all_statable : (blobs : List NamedBytes) → AllByRecursion IsBlob blobs → AllByRecursion IsStatable blobs
all_statable [] all = tt
all_statable (one ∷ blobs) all = (blob_is_statable one all.0, all_statable blobs all.1)
