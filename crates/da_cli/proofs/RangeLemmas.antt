-- What `prove` writes of a range says of the square.
use Rattle.std.proofs.Common.{ℕ, Bool, true, false, List, inl, inr}
use Rattle.data_header.specs.Headers.{Roots}
use Rattle.data_header.specs.DataRoots.{data_root_of}
use Rattle.square_layout.specs.Blocks.{SquareShares}
use Rattle.blob_commit.specs.Proofs.{CommitParts, IsCommit, CommitHolds, is_range}
use Rattle.blob_commit.specs.Places.{IsOwnCommit}
use Rattle.da_status.specs.declared.status.Status.TheVariants.{Done}
use Rattle.da_serving.specs.Prove.{ProvesIn, ProvesRange}
use Rattle.da_cli.specs.Own.{ProvesOwn}

-- what is answered with `Done` to a range is a proof of the square's commitment in it, or names a collision, by what is known
-- of commitment proofs
pub proves_own : ((header : Roots) (proof : CommitParts) → IsCommit proof → CommitHolds (data_root_of header) proof → IsOwnCommit header proof)
    → (square : SquareShares) (start count : ℕ) (w : List ℕ) → ProvesRange square start count w Done → ProvesOwn square start count w
proves_own commits square start count w (inl (header, own, answers)) = by (is_range square.k start count) answers
  where
    by : (b : Bool) → ProvesIn b square header start count w Done → ProvesOwn square start count w
    by true (proof, is, writes) =
        (proof, writes.0, is.width, is.start, is.count, commits header proof is.lengths is.holds square own)
    by false (empty, e) = absurd cc
proves_own commits square start count w (inr (none, (empty, e))) = absurd cc
