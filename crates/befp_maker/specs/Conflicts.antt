-- A share against a line: a fraud proof or a collision.
use Rattle.std.specs.Prelude.{◌≡◌, ◌≢◌, ◌⊎◌, ℕ, ◌*◌, ◌-◌, ◌<◌, List, [], ◌∷◌, ◌++◌, nat_lt, Some, if◌then◌else◌}
use Rattle.std.specs.List.{AllByRecursion, Contains}
use Rattle.namespace_id.specs.declared.cells.Axis.{Axis}
use Rattle.namespace_id.specs.declared.shares.Share.{Share}
use Rattle.namespace_id.specs.Lists.{ascending}
use Rattle.nmt_proofs.specs.Clashes.{IsClash, clash_at}
use Rattle.leopard_code.specs.Codewords.{IsCodeword}
use Rattle.data_header.specs.Headers.{Roots, root_of}
use Rattle.axis_roots.specs.declared.message.messages.Message.{Message}
use Rattle.axis_roots.specs.declared.message.proved.Proved.{Proved}
use Rattle.axis_roots.specs.Messages.{position, index}
use Rattle.axis_roots.specs.Proved.{kept_message, IsUnder}
use Rattle.axis_roots.specs.Lines.{entry, cell_on, line_strict_root, line_tree}
use Rattle.axis_roots.specs.Claims.{positions_of, ProofParts, Accepts}

-- a line of an axis that the header has: a codeword whose strict root is the header's
pub record IsLineOf (header : Roots) (axis : Axis) (i : ℕ) (line : List Share) : Type 0 where
  pub codeword : IsCodeword header.k line
  pub root : line_strict_root header.k axis i line ≡ Some (root_of header axis i)

-- a proved sample of a cell of the axis shows another share than the line
pub record IsAgainst (header : Roots) (axis : Axis) (i : ℕ) (line : List Share) (other : Proved) : Type 0 where
  pub under : IsUnder header other
  pub on_axis : index axis (kept_message other).cell ≡ i
  pub apart : (kept_message other).share ≢ entry line (position axis (kept_message other).cell)

-- k positions, ascending: this one, and the first k - 1 others
unfoldable pub positions_with : ℕ → ℕ → List ℕ
positions_with k pos = if nat_lt pos k then ascending 0 k else ascending 0 (k - 1) ++ pos ∷ []

-- the codeword through a share at a position and the line's shares at the first k - 1 others
pub record IsThroughOther (k : ℕ) (line : List Share) (pos : ℕ) (share : Share) (word : List Share) : Type 0 where
  pub codeword : IsCodeword k word
  pub here : entry word pos ≡ share
  pub others : (p : ℕ) → Contains (positions_with k pos) p → p ≢ pos → entry word p ≡ entry line p

-- a sample of a fraud proof is the other sample, or shows the line's share at a position
abbrev pub IsMessageOf : ℕ → Axis → ℕ → List Share → Message → Message → Type 0
IsMessageOf k axis i line other m =
    (m ≡ other) ⊎ ((pos : ℕ) × (pos < 2 * k) × (m.cell ≡ cell_on axis i pos) × (m.share ≡ entry line pos))

-- the fraud proof of the other sample and of the line's first k - 1 others
pub record IsProofAgainst (header : Roots) (axis : Axis) (i : ℕ) (line : List Share) (other : Proved) (proof : ProofParts) : Type 0 where
  pub axis_is : proof.claim.axis ≡ axis
  pub index_is : proof.claim.index ≡ i
  pub accepts : Accepts header proof.claim
  pub positions : positions_of proof.claim ≡ positions_with header.k (position axis (kept_message other).cell)
  pub messages : AllByRecursion (IsMessageOf header.k axis i line (kept_message other)) proof.claim.cells

-- the two strings are a collision: the first in which the trees over the line and over that codeword differ, which has
-- the header's strict root too
pub record IsClashAgainst (header : Roots) (axis : Axis) (i : ℕ) (line : List Share) (other : Proved) (left right : List ℕ) : Type 0 where
  pub is_clash : IsClash left right
  pub word : List Share
  pub through : IsThroughOther header.k line (position axis (kept_message other).cell) (kept_message other).share word
  pub root : line_strict_root header.k axis i word ≡ Some (root_of header axis i)
  pub found : clash_at (line_tree header.k axis i line) (line_tree header.k axis i word) ≡ Some (left, right)
