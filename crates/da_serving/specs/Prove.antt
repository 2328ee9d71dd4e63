-- prove SQUARE REQUESTS, prove SQUARE START COUNT: proofs under the data root of a square, for cells that are asked for and for
-- the commitment of its shares in a range.
use Rattle.std.specs.Prelude.{◌≡◌, ◌⊎◌, ◌*◌, ℕ, List, Bool, true, false}
use Rattle.namespace_id.specs.declared.cells.Cell.{Cell}
use Rattle.namespace_id.specs.declared.cells.Axis.{Axis}
use Rattle.namespace_id.specs.declared.shares.Share.{Share}
use Rattle.data_header.specs.Headers.{Roots}
use Rattle.data_header.specs.DataRoots.{data_root_of}
use Rattle.square_layout.specs.Blocks.{SquareShares}
use Rattle.axis_roots.specs.Grids.{Extends, IsHeaderOf, HasNoHeader, share_at}
use Rattle.blob_commit.specs.Proofs.{CommitParts, IsCommit, CommitHolds, RootedParts, RootedHolds, is_range}
use Rattle.da_wire.specs.declared.frames.Frame.{Frame}
use Rattle.da_wire.specs.declared.frames.Frame.TheVariants.{Commit, Rooted}
use Rattle.da_status.specs.declared.status.Asked.TheVariants.{NoHeader, Range}
use Rattle.da_status.specs.declared.status.Status.TheVariants.{BadRequest}
use Rattle.da_status.specs.Outcome.{Relation, Refuses}
use Rattle.da_files.specs.Frames.{square_in, Writes}
use Rattle.da_files.specs.Forms.{Over}
use Rattle.da_serving.specs.Serving.{requests_file, Serves}
use Rattle.da_serving.specs.Sample.{samples_in, is_asked_inside}
use Rattle.da_files.specs.Contents.{square_file}

-- ---- prove SQUARE REQUESTS

-- a root proof is of the square's width and of the cell and the axis that are asked for, shows the share that the square's
-- extension has at the cell, and holds under the data root of the header
pub record IsRootProof (square : SquareShares) (header : Roots) (asked : Cell × Axis) (proof : RootedParts) : Type 0 where
  pub width : proof.k ≡ square.k
  pub cell : proof.message.cell ≡ asked.0
  pub axis : proof.message.axis ≡ asked.1
  pub grid : List Share
  pub extends : Extends square.k square.shares grid
  pub share : proof.message.share ≡ share_at (2 * square.k) grid proof.message.cell
  pub holds : RootedHolds (data_root_of header) proof

-- the frames that a request for a sample allows
abbrev pub AllowsRootProof : SquareShares → Roots → Cell × Axis → Frame → Type 0
AllowsRootProof square header asked frame =
    (proof : RootedParts) × IsRootProof square header asked proof × (frame ≡ Rooted proof)

-- what prove answers to a SQUARE that is a square: an R frame for each request, in their order
abbrev pub ProveOf : List (List ℕ) → Relation
ProveOf files = Over (square_in (square_file files))
    (λ square. Serves square (is_asked_inside square) (AllowsRootProof square) (samples_in (requests_file files)))

-- ---- prove SQUARE START COUNT

-- a commitment proof is of the square's width and of this range, its digests and hashes have their lengths, and it holds under
-- the data root of the header
pub record IsRangeProof (square : SquareShares) (header : Roots) (first number : ℕ) (proof : CommitParts) : Type 0 where
  pub width : proof.k ≡ square.k
  pub start : proof.start ≡ first
  pub count : proof.count ≡ number
  pub lengths : IsCommit proof
  pub holds : CommitHolds (data_root_of header) proof

-- what is answered to a range under the header of the square: the frame of a proof of it, where it is a range of the square
-- that begins at a multiple of the width of its subtrees
abbrev pub ProvesIn : Bool → SquareShares → Roots → ℕ → ℕ → Relation
ProvesIn true square header start count w status =
    (proof : CommitParts) × IsRangeProof square header start count proof × Writes (Commit proof) w status
ProvesIn false square header start count w status = Refuses (BadRequest Range) w status

-- what is answered to a range of a square: that under its header, or the refusal of a square that has none
abbrev pub ProvesRange : SquareShares → ℕ → ℕ → Relation
ProvesRange square start count w status =
    ((header : Roots) × IsHeaderOf header square
    × ProvesIn (is_range square.k start count) square header start count w status)
    ⊎ (HasNoHeader square × Refuses (BadRequest NoHeader) w status)

-- what prove answers to a SQUARE that is a square, for this range
abbrev pub ProveRangeOf : ℕ → ℕ → List (List ℕ) → Relation
ProveRangeOf start count files = Over (square_in (square_file files)) (λ square. ProvesRange square start count)
