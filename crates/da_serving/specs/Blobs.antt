-- blobs SHARES: the blobs that the shares of a square, or of a namespace answer, are.
use Rattle.std.specs.Prelude.{ℕ, List, [], ◌∷◌, ◌||◌, Bool, if◌then◌else◌, Some, None, Result, MatchResult}
use Rattle.std.specs.List.{flat_map}
use Rattle.namespace_id.specs.declared.shares.Share.{Share}
use Rattle.namespace_id.specs.Names.{transaction, pay_for_blob}
use Rattle.share_split.specs.Blobs.{NamedBytes}
use Rattle.share_split.specs.Walks.{blobs_joined}
use Rattle.square_layout.specs.Blocks.{BlockParts}
use Rattle.axis_roots.specs.declared.answers.NsEntry.{NsEntry}
use Rattle.square_serve.specs.Shares.{is_named}
use Rattle.blob_feed.specs.Feeds.{shares_found}
use Rattle.da_wire.specs.declared.frames.Frame.{Frame}
use Rattle.da_wire.specs.declared.frames.Frame.TheVariants.{Square, Names, Block}
use Rattle.da_wire.specs.Spelling.{square_kind, names_kind}
use Rattle.da_wire.specs.Reading.{only_of}
use Rattle.da_status.specs.declared.status.Asked.TheVariants.{Shares}
use Rattle.da_status.specs.declared.status.Status.TheVariants.{BadRequest}
use Rattle.da_status.specs.Outcome.{Relation, Refuses}
use Rattle.da_files.specs.Contents.{file_of}
use Rattle.da_files.specs.Frames.{single_file, Writes}
use Rattle.da_files.specs.Forms.{Over}

-- ---- SHARES

-- whether a share is compact: of transactions or of payments for blobs (Celestia specifications, "Shares", transaction
-- shares)
abbrev pub is_compact : Share → Bool
is_compact share = is_named transaction share || is_named pay_for_blob share

-- the shares behind the longest front of compact shares
unfoldable pub behind_compact : List Share → List Share
behind_compact [] = []
behind_compact (share ∷ shares) = if is_compact share then behind_compact shares else share ∷ shares

-- the shares of a namespace answer, entry after entry
abbrev pub answer_shares : List NsEntry → List Share
answer_shares entries = flat_map (λ entry. shares_found entry.found) entries

-- the shares that a frame has for blobs: of a square those behind its compact shares, of a namespace answer all; frames
-- of other kinds have none, and none comes here
abbrev pub frame_shares : Frame → List Share
frame_shares (Square square) = behind_compact square.shares
frame_shares (Names name answer) = answer_shares answer
frame_shares frame = []

-- the kinds of frames that have shares for blobs
abbrev pub share_kinds : List ℕ
share_kinds = square_kind ∷ names_kind ∷ []

-- the square or the namespace answer that a file is, or where it stops being one
abbrev pub shares_frame : List ℕ → Result Frame ℕ
shares_frame bytes = single_file Some (only_of bytes share_kinds)

-- ---- the command

-- SHARES, the one file of blobs
abbrev pub shares_file : List (List ℕ) → List ℕ
shares_file files = file_of files 0

-- the block of these blobs alone, for which no width is asked
abbrev pub block_with : List NamedBytes → BlockParts
block_with blobs = record { units = []; pay_units = []; blobs = blobs; width = None }

-- what is answered to shares: the frame of their blobs, or the refusal of shares that are no blobs
abbrev pub JoinsShares : List Share → Relation
JoinsShares shares w status =
    MatchResult (blobs_joined shares) (λ blobs. Writes (Block (block_with blobs)) w status)
    (λ why. Refuses (BadRequest (Shares why)) w status)

-- what blobs answers to a SHARES that is a square or a namespace answer
abbrev pub BlobsOf : List (List ℕ) → Relation
BlobsOf files = Over (shares_frame (shares_file files)) (λ frame. JoinsShares (frame_shares frame))
