-- find SQUARE COMMITMENT: where in a square the blobs stand that have a commitment.
use Rattle.std.specs.Prelude.{◌≡◌, ℕ, ◌+◌, ◌-◌, ◌==◌, List, [], ◌∷◌, ◌++◌, length, codes, if◌then◌else◌, MatchResult}
use Rattle.std.specs.List.{flat_map, AllByRecursion}
use Rattle.std.specs.Str.{bytes_eq}
use Rattle.namespace_id.specs.declared.shares.Share.{Share}
use Rattle.share_split.specs.Joined.{Piece, padding, blob, piece_shares, IsPiece}
use Rattle.share_split.specs.Walks.{blobs_joined}
use Rattle.square_layout.specs.Blocks.{SquareShares}
use Rattle.square_layout.specs.Layout.{share_count_of}
use Rattle.da_status.specs.declared.status.Asked.TheVariants.{Shares}
use Rattle.da_status.specs.declared.status.Status.{Status}
use Rattle.da_status.specs.declared.status.Status.TheVariants.{Done, BadRequest, Refused}
use Rattle.da_status.specs.Notes.{two_numbers}
use Rattle.da_status.specs.Outcome.{Relation, Refuses}
use Rattle.da_files.specs.Contents.{square_file}
use Rattle.da_files.specs.Frames.{square_in, WritesText}
use Rattle.da_files.specs.Forms.{Over}
use Rattle.da_serving.specs.Blobs.{behind_compact}
use Rattle.da_serving.specs.Commit.{commitment_of}

-- shares are these pieces: padding shares and blobs, one behind another
pub record ArePieces (shares : List Share) (pieces : List Piece) : Type 0 where
  pub are : AllByRecursion IsPiece pieces
  pub parts : shares ≡ flat_map piece_shares pieces

-- the line of a range of shares: the number of its first share, and how many it has
abbrev pub range_line : ℕ → ℕ → List ℕ
range_line start count = two_numbers start count ++ codes "\n"

-- the line of a piece that begins at a share: that of a blob's shares, if this is its commitment
abbrev pub found_line : List ℕ → ℕ → Piece → List ℕ
found_line commitment start (padding version name) = []
found_line commitment start (blob named) =
    if bytes_eq (commitment_of named) commitment then range_line start (share_count_of named) else []

-- the lines of pieces, the first of which begins at a share
unfoldable pub found_lines : List ℕ → ℕ → List Piece → List ℕ
found_lines commitment start [] = []
found_lines commitment start (piece ∷ pieces) =
    found_line commitment start piece ++ found_lines commitment (start + length (piece_shares piece)) pieces

-- a text are the lines of the pieces that shares are, the first of which has this number
abbrev pub AreFound : List ℕ → ℕ → List Share → List ℕ → Type 0
AreFound commitment first shares text =
    (pieces : List Piece) × ArePieces shares pieces × (text ≡ found_lines commitment first pieces)

-- how many shares are compact at the front of a square
abbrev pub compact_front : SquareShares → ℕ
compact_front square = length square.shares - length (behind_compact square.shares)

-- the status of lines: there is one, or none
abbrev pub found_status : List ℕ → Status
found_status text = if length text == 0 then Refused else Done

-- what find answers to a square: the lines of its blobs with this commitment, or the refusal of shares that are no blobs
abbrev pub Finds : List ℕ → SquareShares → Relation
Finds commitment square w status =
    MatchResult (blobs_joined (behind_compact square.shares))
    (λ blobs. (text : List ℕ) × AreFound commitment (compact_front square) (behind_compact square.shares) text
    × WritesText (found_status text) text w status)
    (λ why. Refuses (BadRequest (Shares why)) w status)

-- what find answers to a SQUARE that is a square
abbrev pub FindOf : List ℕ → List (List ℕ) → Relation
FindOf commitment files = Over (square_in (square_file files)) (Finds commitment)
