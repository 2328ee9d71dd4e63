-- The codeword through a claim's cells, taken as the accused axis.
use Rattle.std.specs.Prelude.{◌≡◌, ℕ, List, Option}
use Rattle.namespace_id.specs.declared.shares.Share.{Share}
use Rattle.namespace_id.specs.declared.digests.Digest.{Digest}
use Rattle.axis_roots.specs.Lines.{line_strict_root}
use Rattle.axis_roots.specs.Claims.{ClaimParts, IsThrough}

-- the codeword through a claim's cells, taken as the accused axis, has this strict root, or none
pub record IsRootThrough (k : ℕ) (claim : ClaimParts) (root : Option Digest) : Type 0 where
  pub word : List Share
  pub through : IsThrough k claim word
  pub value : line_strict_root k claim.axis claim.index word ≡ root
