-- What the command blobs answers.
use Rattle.std.proofs.Common.{◌≡◌, ◌∙◌, ℕ, ◌+◌, ◌*◌, ◌-◌, ◌≤◌, nat_le, Bool, true, false, cond, List, [], ◌∷◌, length, Some, None, IsSome, is_some, IfSome, Result, Ok, Err, refl, sym, ap, subst, inl, inr, arith, lit<, leb-true, leb-false, ltb-false}
use Rattle.std.specs.Prelude.{MatchResult, nat_lt}
use Rattle.std.proofs.Math.Nat.{mul-le-mul_right}
use Rattle.std.specs.declared.option.Option.{Option}
use Rattle.std.specs.Int.{div_ceil, w32, to_be_bytes}
use Rattle.std.specs.List.{flat_map, AllByRecursion, list_any}
use Rattle.std.proofs.lemmas.Bool.{cases_Bool, or_parts}
use Rattle.std.proofs.lemmas.Grind.{div_ceil_times, flat_map-append}
use Rattle.std.proofs.lemmas.List.{length-append}
use Rattle.namespace_id.specs.Bytes.{AreBytes, IsString}
use Rattle.namespace_id.specs.Sizes.{greatest_width, most_shares}
use Rattle.namespace_id.specs.declared.namespaces.Namespace as names
use Rattle.namespace_id.specs.declared.shares.Share.{Share}
use Rattle.namespace_id.proofs.WidthLemmas.{is_width-le}
use Rattle.share_split.specs.declared.joining.JoinError.{JoinError}
use Rattle.share_split.specs.Blobs.{NamedBytes, signer_size, signer_bytes, count_from, share_count}
use Rattle.share_split.specs.Joined.{Piece, padding, blob, piece_shares, piece_blobs, IsPiece, AreBlobs}
use Rattle.share_split.specs.Walks.{blobs_joined}
use Rattle.share_split.proofs.Writing.BlobLaws.{length-blob_shares_of}
use Rattle.square_layout.specs.Blocks.{SquareShares, IsSquare}
use Rattle.axis_roots.specs.declared.answers.Found.{Found}
use Rattle.axis_roots.specs.declared.answers.Found.TheVariants.{Range, Absence}
use Rattle.axis_roots.specs.declared.answers.NsEntry.{NsEntry}
use Rattle.blob_feed.specs.Feeds.{shares_found}
use Rattle.da_wire.specs.declared.frames.Frame.{Frame}
use Rattle.da_wire.specs.declared.frames.Frame.TheVariants.{Block, Names}
use Rattle.da_wire.specs.Spelling.{spelling, frame, spelled, names_kind}
use Rattle.da_wire.specs.Laws.{OnlyIsSpelled}
use Rattle.da_wire.specs.Reading.{only_of}
use Rattle.frame_payloads.specs.kinds.Block.{blob_bytes}
use Rattle.frame_payloads.proofs.Forms.Blobs.{length-blob_bytes}
use Rattle.frame_payloads.specs.kinds.Names.{is_long_found, is_long_entry, is_long_answer, names_payload, most_entries}
use Rattle.da_status.specs.declared.status.Status.{Status}
use Rattle.da_status.specs.declared.status.Status.TheVariants.{BadRequest}
use Rattle.da_status.specs.declared.status.Asked.TheVariants.{Shares}
use Rattle.da_status.specs.Statuses.{status_kind}
use Rattle.da_status.specs.Outcome.{Relation, Refuses}
use Rattle.da_files.specs.Frames.{Writes}
use Rattle.da_serving.specs.Blobs.{is_compact, behind_compact, answer_shares, frame_shares, share_kinds, shares_frame, shares_file, block_with, JoinsShares, BlobsOf}
use Rattle.da_status.proofs.EndLemmas.{IsAnswer, status_answers}
use Rattle.da_files.proofs.FormLemmas.{over_each}

-- ---- answers

-- what is answered by what shares are read as
abbrev pub joins_by : Result (List NamedBytes) JoinError → Relation
joins_by read w status =
    MatchResult read (λ blobs. Writes (Block (block_with blobs)) w status) (λ why. Refuses (BadRequest (Shares why)) w status)

-- what is answered is an answer, by what shares are read as
by_blobs : (read : Result (List NamedBytes) JoinError) (w : List ℕ) (status : Status) → joins_by read w status → IsAnswer (status_kind status)
by_blobs (Ok blobs) w status h = status_answers status _ h.1 tt
by_blobs (Err why) w status h = status_answers status _ h.1 tt

-- what blobs answers to its files is an answer
pub blobs_answers : (files : List (List ℕ)) (w : List ℕ) (status : Status) → BlobsOf files w status → IsAnswer (status_kind status)
blobs_answers files w status h =
    over_each (λ frame. JoinsShares (frame_shares frame)) (shares_frame (shares_file files)) w status (IsAnswer (status_kind status))
    (λ frame. by_blobs (blobs_joined (frame_shares frame)) w status) h

-- the frame of the blobs that shares are is the answer to the shares
pub joins_blobs : (shares : List Share) (blobs : List NamedBytes) (frame : Frame) → blobs_joined shares ≡ Ok blobs → frame ≡ Block (block_with blobs)
    → (w : List ℕ) (status : Status) → Writes frame w status → JoinsShares shares w status
joins_blobs shares blobs frame read is w status gives =
    subst (λ (r : Result (List NamedBytes) JoinError). joins_by r w status) (sym read) (ap spelling (sym is) ∙ gives.0, gives.1)

-- ---- the bytes of blobs

-- bytes behind as many as the first share has besides content fit into their shares
count_fits : (first before size : ℕ) → before + first ≡ 512 → size + before ≤ 512 * count_from first 482 size
count_fits first before size all = elim (cases_Bool (nat_le size first)) [
  | inl few ↦
      subst (λ (b : Bool). size + before ≤ 512 * (cond b 1 (1 + div_ceil (size - first) 482))) (sym few) (omega (arith, all, leb-true size first few))
  | inr more ↦
      subst (λ (b : Bool). size + before ≤ 512 * (cond b 1 (1 + div_ceil (size - first) 482))) (sym more)
      (omega (arith, all, leb-false size first more, (div_ceil_times (size - first) 482 (lit< tt)).0))
]

-- a blob's bytes behind its signer and 34 more fit into its shares
signer_fits : (signer : Option (List ℕ)) (size : ℕ) → IfSome signer (IsString signer_size)
    → size + length (signer_bytes signer) + 34 ≤ 512 * share_count size (is_some signer)
signer_fits None size is = omega (arith, count_fits 478 34 size refl)
signer_fits (Some signer) size is = omega (arith, is.size_is, count_fits 458 54 size refl)

-- what is written of a piece fits into its shares
piece_fits : (piece : Piece) → IsPiece piece → length (flat_map blob_bytes (piece_blobs piece)) ≤ 512 * length (piece_shares piece)
piece_fits (padding version name) is = omega arith
piece_fits (blob named) is =
    let four : length (to_be_bytes w32 (length named.bytes)) ≡ 4 = refl in
    omega (
      arith,
      four,
      length-append (blob_bytes named) [],
      length-blob_bytes named,
      length-append (to_be_bytes w32 (length named.bytes)) named.bytes,
      is.name.size_is,
      signer_fits named.signer (length named.bytes) is.signer,
      length-blob_shares_of named.namespace named.signer named.bytes,
    )

-- what is written of pieces fits into their shares
pieces_fit : (pieces : List Piece) → AllByRecursion IsPiece pieces
    → length (flat_map blob_bytes (flat_map piece_blobs pieces)) ≤ 512 * length (flat_map piece_shares pieces)
pieces_fit [] are = omega arith
pieces_fit (piece ∷ pieces) are =
    let split = ap length (flat_map-append blob_bytes (piece_blobs piece) (flat_map piece_blobs pieces)) in
    omega (
      arith,
      split,
      length-append (flat_map blob_bytes (piece_blobs piece)) (flat_map blob_bytes (flat_map piece_blobs pieces)),
      length-append (piece_shares piece) (flat_map piece_shares pieces),
      piece_fits piece are.0,
      pieces_fit pieces are.1,
    )

-- what is written of blobs fits into their shares
pub blobs_fit : (shares : List Share) (blobs : List NamedBytes) → AreBlobs shares blobs → length (flat_map blob_bytes blobs) ≤ 512 * length shares
blobs_fit shares blobs are =
    omega (arith, ap (λ (l : List NamedBytes). length (flat_map blob_bytes l)) are.shown, ap length are.parts, pieces_fit are.pieces are.are_pieces)

-- ---- the shares of a frame

-- no more shares stand behind compact shares than there are
pub behind_few : (shares : List Share) → length (behind_compact shares) ≤ length shares
unfolding behind_compact
behind_few [] = omega arith
behind_few (share ∷ shares) =
    elim (is_compact share) as (λ b. length (cond b (behind_compact shares) (share ∷ shares)) ≤ length (share ∷ shares)) [
      | true ↦ omega (arith, behind_few shares)
      | false ↦ omega arith
    ]

-- a square has at most `most_shares` shares
pub square_few : (square : SquareShares) → IsSquare square → length (behind_compact square.shares) ≤ most_shares
square_few square is =
    let le : square.k ≤ greatest_width = is_width-le square.k is.width in
    omega (arith, behind_few square.shares, is.count, le, mul-le-mul_right square.k le)

-- what is found in a row has at most `greatest_width` shares
found_few : (found : Found) → is_long_found found ≡ false → length (shares_found found) ≤ greatest_width
found_few (Range start shares nodes) short = ltb-false greatest_width (length shares) short
found_few (Absence pos leaf nodes) short = omega arith

-- an answer has at most `greatest_width` shares an entry
entries_few : (entries : List NsEntry) → list_any is_long_entry entries ≡ false → length (answer_shares entries) ≤ greatest_width * length entries
entries_few [] short = omega arith
entries_few (entry ∷ entries) short =
    let parts = or_parts (is_long_entry entry) (list_any is_long_entry entries) short in
    omega (arith, found_few entry.found parts.0, entries_few entries parts.1, length-append (shares_found entry.found) (answer_shares entries))

-- an answer that has a spelling isn't too long
not_long : (long : Bool) (text : Option (List ℕ)) → IsSome (cond long None text) → long ≡ false
not_long true text some = absurd cc
not_long false text some = refl

-- an answer that has a spelling has at most `most_shares` shares
pub answer_few : (name : names.Namespace) (answer : List NsEntry) → IsSome (spelling (Names name answer)) → length (answer_shares answer) ≤ most_shares
answer_few name answer some =
    let short = or_parts (nat_lt most_entries (length answer)) (list_any is_long_entry answer)
    (not_long (is_long_answer answer) (spelled names_kind (names_payload name answer)) some) in
    omega (arith, ltb-false greatest_width (length answer) short.0, entries_few answer short.1)

-- a frame that was read has a spelling
pub read_spelled : OnlyIsSpelled → (bytes : List ℕ) (frame : Frame) → AreBytes bytes → only_of bytes share_kinds ≡ Ok frame → IsSome (spelling frame)
read_spelled only bytes frame fits read =
    let law = (only frame bytes share_kinds fits).0 read in subst (λ (o : Option (List ℕ)). IsSome o) (sym law.1) refl
