-- The blobs of a list of transactions in its square: what is answered of them at the places that its payments state
-- (docs/RULES.md, "A block of the network").
use Rattle.std.specs.Prelude.{◌≡◌, ◌⊎◌, ℕ, ◌+◌, List, [], ◌∷◌, ◌++◌, slice_index, None, if◌then◌else◌}
use Rattle.std.specs.List.{flat_map}
use Rattle.std.specs.Str.{bytes_eq}
use Rattle.data_header.specs.Headers.{Roots}
use Rattle.share_split.specs.Blobs.{NamedBytes}
use Rattle.square_layout.specs.Blocks.{SquareShares}
use Rattle.square_layout.specs.Layout.{in_order, share_count_of, start_after}
use Rattle.tx_list.specs.Payments.{ListParts, blobs_of}
use Rattle.tx_list.specs.Reserves.{list_reserve}
use Rattle.tx_list.specs.Reads.{list_of}
use Rattle.tx_list.specs.OfBytes.{IsOfBytes}
use Rattle.tx_list.specs.Lists.{list_places, square_of_list}
use Rattle.axis_roots.specs.Grids.{IsHeaderOf}
use Rattle.blob_commit.specs.Proofs.{CommitParts}
use Rattle.blob_commit.specs.Places.{CommitText, PlacesNameClash}
use Rattle.da_wire.specs.declared.frames.Frame.TheVariants.{Commit}
use Rattle.da_status.specs.declared.status.Status.{Status}
use Rattle.da_status.specs.Outcome.{Relation}
use Rattle.da_files.specs.Frames.{Writes, WritesText}
use Rattle.da_serving.specs.Build.{list_refusal}
use Rattle.da_serving.specs.Commit.{commitment_of}
use Rattle.da_serving.specs.Find.{range_line, found_status}
use Rattle.da_serving.specs.Prove.{IsRangeProof}

-- ---- lists that have squares

-- transactions that are read as a list of bytes, and not refused
pub record IsBuilt (transactions : List (List ℕ)) : Type 0 where
  pub fits : IsOfBytes (list_of transactions)
  pub accepted : list_refusal transactions ≡ None

-- their square
abbrev pub built_square : List (List ℕ) → SquareShares
built_square transactions = square_of_list (list_of transactions)

-- their blobs, payment after payment
abbrev pub built_blobs : List (List ℕ) → List NamedBytes
built_blobs transactions = blobs_of (list_of transactions).payments

-- the place that is stated of a blob, by its number among these
abbrev pub stated_place : List (List ℕ) → ℕ → ℕ
stated_place transactions i = slice_index (list_places (list_of transactions)) i

-- ---- proofs

-- a proof of a blob's range is written: it holds under the data root of the square's header, and states the commitment of
-- the blob, or it and the square name a collision
pub record ProvesBlob (square : SquareShares) (place : ℕ) (one : NamedBytes) (w : List ℕ) (status : Status) : Type 0 where
  pub header : Roots
  pub own : IsHeaderOf header square
  pub proof : CommitParts
  pub proves : IsRangeProof square header place (share_count_of one) proof
  pub states : (proof.commitment ≡ commitment_of one) ⊎ PlacesNameClash (CommitText proof) square
  pub writes : Writes (Commit proof) w status

-- ---- places that are found

-- where blobs in order, behind what ends at `end`, have a commitment: the first share of each, and how many it has
unfoldable pub ranges_from : List ℕ → ℕ → List NamedBytes → List (ℕ × ℕ)
ranges_from commitment end [] = []
ranges_from commitment end (blob ∷ blobs) =
    (if bytes_eq (commitment_of blob) commitment then (start_after end blob, share_count_of blob) ∷ [] else [])
    ++ ranges_from commitment (start_after end blob + share_count_of blob) blobs

-- where those of a list have it in its square
abbrev pub ranges_of : List ℕ → ListParts → List (ℕ × ℕ)
ranges_of commitment list = ranges_from commitment (list_reserve list) (in_order (blobs_of list.payments))

-- the lines of ranges
abbrev pub range_lines : List (ℕ × ℕ) → List ℕ
range_lines ranges = flat_map (λ range. range_line range.0 range.1) ranges

-- the lines of ranges are written, or none, with the status of that
abbrev pub WritesRanges : List (ℕ × ℕ) → Relation
WritesRanges ranges w status = WritesText (found_status (range_lines ranges)) (range_lines ranges) w status
