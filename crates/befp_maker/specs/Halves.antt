-- Deciding a row or a column by k of its cells.
use Rattle.std.specs.Prelude.{◌≡◌, ℕ, List, Bool, true, false, Some}
use Rattle.std.specs.List.{AllByRecursion}
use Rattle.namespace_id.specs.declared.cells.Axis.{Axis}
use Rattle.namespace_id.specs.declared.shares.Share.{Share}
use Rattle.data_header.specs.Headers.{Roots, root_of}
use Rattle.axis_roots.specs.declared.message.proved.Proved.{Proved}
use Rattle.axis_roots.specs.Proved.{IsUnder}
use Rattle.axis_roots.specs.Lines.{line_strict_root}
use Rattle.axis_roots.specs.Claims.{has_shape, IsThrough, claim_with, ProofParts}
use Rattle.befp_maker.specs.declared.halves.Decided.{Decided}
use Rattle.befp_maker.specs.declared.halves.Decided.TheVariants.{Matches, Bad}
use Rattle.befp_maker.specs.Rooms.{RoomParts}

-- exactly k cells of an axis of the header's square, at ascending positions, all proved under the header
pub record AreHalf (header : Roots) (axis : Axis) (i : ℕ) (cells : List Proved) : Type 0 where
  pub shape : has_shape header.k (claim_with axis i cells) ≡ true
  pub under : AllByRecursion (IsUnder header) cells

-- the line is the codeword through the cells, and its strict root is the header's
pub record FitsHalf (header : Roots) (axis : Axis) (i : ℕ) (cells : List Proved) (line : List Share) : Type 0 where
  pub through : IsThrough header.k (claim_with axis i cells) line
  pub root : line_strict_root header.k axis i line ≡ Some (root_of header axis i)

-- the fraud proof of an axis with these cells
abbrev pub proof_with : Roots → Axis → ℕ → List Proved → ProofParts
proof_with header axis i cells =
    record { k = header.k; root = root_of header axis i; claim = claim_with axis i cells }

-- whether an axis was found to be bad
abbrev pub is_bad : Decided → Bool
is_bad (Matches cells) = false
is_bad (Bad proof) = true

-- the axis matches: the cells come back, and the room holds the line that fits; or it is bad, and the proof has exactly
-- these cells
abbrev pub IsDecision : Roots → Axis → ℕ → List Proved → RoomParts → Decided → Type 0
IsDecision header axis i cells room (Matches back) = (back.items ≡ cells) × FitsHalf header axis i cells room.shares
IsDecision header axis i cells room (Bad proof) = proof ≡ proof_with header axis i cells
