-- Fraud claims, and when one is accepted (Al-Bassam, Sonnino, Buterin and Khoffi, "Fraud and Data Availability Proofs";
-- docs/RULES.md, "Fraud claims").
use Rattle.std.specs.Prelude.{◌≡◌, ◌≢◌, ℕ, ◌*◌, ◌^◌, ◌<◌, ◌==◌, ◌&&◌, nat_lt, List, map, length, Bool, true, false, Option, Some, None, IfSome, ◌⊎◌}
use Rattle.std.specs.List.{AllByRecursion, Contains, list_all}
use Rattle.namespace_id.specs.declared.cells.Axis.{Axis}
use Rattle.namespace_id.specs.declared.shares.Share.{Share}
use Rattle.namespace_id.specs.declared.digests.Digest.{Digest}
use Rattle.namespace_id.specs.Digests.{AreDigests}
use Rattle.namespace_id.specs.Lists.{holds_along}
use Rattle.namespace_id.specs.Cells.{is_width}
use Rattle.leopard_code.specs.Codewords.{IsCodeword, HasEntries}
use Rattle.data_header.specs.Headers.{Roots, root_of}
use Rattle.square_layout.specs.Blocks.{SquareShares}
use Rattle.axis_roots.specs.declared.message.messages.Message.{Message}
use Rattle.axis_roots.specs.Messages.{IsMessage, position, index}
use Rattle.axis_roots.specs.Openings.{IsProved}
use Rattle.axis_roots.specs.Lines.{line_strict_root}
use Rattle.axis_roots.specs.Grids.{IsHeaderOf}
use Rattle.axis_roots.specs.Own.{NamesAt, NamesClash}
use Rattle.axis_roots.specs.Sets.{is_shown, set_tree, fits_set, OpensSet}
use Rattle.axis_roots.specs.declared.message.proved.Proved.{Proved}
use Rattle.axis_roots.specs.Proved.{kept_message}

-- a fraud claim as contracts see it: the axis that it accuses, by its kind and its index, samples of its cells, and the
-- nodes of its set, if it has one
pub record ClaimParts : Type 0 where
  pub axis : Axis
  pub index : ℕ
  pub cells : List Message
  pub set : Option (List Digest)

-- every claim has an index of two bytes, samples, and digests in its set
pub record IsClaim (claim : ClaimParts) : Type 0 where
  pub index_bytes : claim.index < 2 ^ 16
  pub messages : AllByRecursion IsMessage claim.cells
  pub digests : IfSome claim.set AreDigests

-- the positions of its cells on the accused axis
abbrev pub positions_of : ClaimParts → List ℕ
positions_of claim = map (λ m. position claim.axis m.cell) claim.cells

-- the shares of its cells
abbrev pub claim_shares : ClaimParts → List Share
claim_shares claim = map (λ m. m.share) claim.cells

-- whether a sample is of a cell on the accused axis, whichever axis it is proved along
abbrev pub is_on : ClaimParts → Message → Bool
is_on claim m = index claim.axis m.cell == claim.index

-- whether a claim accuses an axis of a square of width k by exactly k cells of it, at ascending positions
abbrev pub has_shape : ℕ → ClaimParts → Bool
has_shape k claim =
    nat_lt claim.index (2 * k) && (length claim.cells == k) && list_all (is_on claim) claim.cells
    && holds_along nat_lt (positions_of claim)

-- a codeword that has the shares of the claim's cells at their positions; there is exactly one
pub record IsThrough (k : ℕ) (claim : ClaimParts) (word : List Share) : Type 0 where
  pub codeword : IsCodeword k word
  pub entries : HasEntries (positions_of claim) (claim_shares claim) word

-- a claim has its shape, and the codeword through its cells, taken as the accused axis, has another strict root than
-- this one, or none
pub record ShowsBad (k : ℕ) (claim : ClaimParts) (root : Digest) : Type 0 where
  pub shape : has_shape k claim ≡ true
  pub word : List Share
  pub through : IsThrough k claim word
  pub other : line_strict_root k claim.axis claim.index word ≢ Some root

-- the codeword through a claim's cells, taken as the accused axis, has this strict root
pub record FitsRoot (k : ℕ) (claim : ClaimParts) (root : Digest) : Type 0 where
  pub word : List Share
  pub through : IsThrough k claim word
  pub same : line_strict_root k claim.axis claim.index word ≡ Some root

-- the header's root of the accused axis
abbrev pub claimed_root : Roots → ClaimParts → Digest
claimed_root header claim = root_of header claim.axis claim.index

-- whether the set of a claim shows the cell of a sample
abbrev pub is_set_cell : ClaimParts → Message → Bool
is_set_cell claim m = is_shown claim.set claim.axis m

-- whether the cells of a claim fit its set, if it has one
abbrev pub has_set_shape : ℕ → ClaimParts → Bool
has_set_shape k claim = fits_set k claim.axis claim.cells claim.set

-- each cell that the set doesn't show is proved
abbrev pub AreProved : Roots → ClaimParts → List Message → Type 0
AreProved header claim cells = AllByRecursion (λ m. is_set_cell claim m ≡ false → IsProved header m) cells

-- the nodes of the set, if there is one, open what it shows under the header's root of the accused axis
abbrev pub HasSet : Roots → ClaimParts → Type 0
HasSet header claim =
    IfSome claim.set (λ nodes. OpensSet header.k claim.axis claim.cells nodes (claimed_root header claim))

-- a claim is accepted under a header: each of its cells is proved, or shown by its set, which opens; and the codeword
-- through them has another strict root than the header's root of the accused axis, or none
pub record Accepts (header : Roots) (claim : ClaimParts) : Type 0 where
  pub set_shape : has_set_shape header.k claim ≡ true
  pub proved : AreProved header claim claim.cells
  pub set : HasSet header claim
  pub bad : ShowsBad header.k claim (claimed_root header claim)

-- a sample of a claim that its set doesn't show and the square name a collision
abbrev pub MessageNames : ClaimParts → SquareShares → Type 0
MessageNames claim square =
    (m : Message) × Contains claim.cells m × (is_set_cell claim m ≡ false) × NamesClash m square

-- the set of a claim and the square name a collision: the first two strings in which the tree that the set opens and the
-- square's tree of the accused axis differ
abbrev pub SetNames : ClaimParts → SquareShares → Type 0
SetNames claim square =
    (nodes : List Digest) × (claim.set ≡ Some nodes)
    × NamesAt (set_tree square.k claim.axis claim.cells nodes) square claim.axis claim.index

-- a sample of a claim, or its set, and the square name a collision
abbrev pub ClaimNames : ClaimParts → SquareShares → Type 0
ClaimNames claim square = MessageNames claim square ⊎ SetNames claim square

-- under the header of a square a sample of the claim, or its set, and the square name a collision
abbrev pub IsFalseClaim : Roots → ClaimParts → Type 0
IsFalseClaim header claim = (square : SquareShares) → IsHeaderOf header square → ClaimNames claim square

-- ---- fraud proofs

-- the claim that an axis is bad, with certificates in place of samples
abbrev pub claim_with : Axis → ℕ → List Proved → ClaimParts
claim_with axis index cells = record { axis = axis; index = index; cells = map kept_message cells; set = None }

-- a fraud proof as contracts see it: the width, the root that is bad, and its claim
pub record ProofParts : Type 0 where
  pub k : ℕ
  pub root : Digest
  pub claim : ClaimParts

-- the claim of a fraud proof has no set, and shows that its root is bad
pub record IsFraudProof (proof : ProofParts) : Type 0 where
  pub plain : proof.claim.set ≡ None
  pub width : is_width proof.k ≡ true
  pub bad : ShowsBad proof.k proof.claim proof.root
