-- Why a fraud claim is refused (docs/RULES.md, "Fraud claims").
use Rattle.std.specs.Prelude.{◌≡◌, ℕ, suc, ◌*◌, ◌&&◌, List, [], ◌∷◌, ◌++◌, length, Bool, true, false, Option, Some, None, Result, Ok, Err, if◌then◌else◌}
use Rattle.std.specs.Option.{option_map_or}
use Rattle.namespace_id.specs.declared.digests.Digest.{Digest}
use Rattle.nmt_tree.specs.Roots.{halvings}
use Rattle.nmt_proofs.specs.declared.opening.OpenRefusal.{OpenRefusal}
use Rattle.nmt_proofs.specs.Causes.{set_refusal}
use Rattle.data_header.specs.Headers.{Roots}
use Rattle.axis_roots.specs.declared.message.messages.Message.{Message}
use Rattle.axis_roots.specs.declared.message.messages.CheckRefusal.{CheckRefusal}
use Rattle.axis_roots.specs.Messages.{message_refusal}
use Rattle.axis_roots.specs.Sets.{set_of}
use Rattle.axis_roots.specs.Claims.{ClaimParts, is_set_cell, has_shape, has_set_shape, claimed_root, FitsRoot, AreProved, Accepts}
use Rattle.befp_verify.specs.declared.verifying.FraudRefusal.{FraudRefusal}
use Rattle.befp_verify.specs.declared.verifying.FraudRefusal.TheVariants.{Shape, Cell, Set, AxisMatches}
use Rattle.befp_verify.specs.declared.verifying.FraudRefused.{FraudRefused}

-- whether a claim has its shape, and its cells fit its set, if it has one
abbrev pub is_shaped : ℕ → ClaimParts → Bool
is_shaped k claim = has_shape k claim && has_set_shape k claim

-- why a cell of a claim isn't proved, where the claim's set doesn't show it
abbrev pub cell_refusal : Roots → ClaimParts → Message → Option CheckRefusal
cell_refusal header claim m = if is_set_cell claim m then None else message_refusal header m

-- the first cell that is refused, and why; the first one has this number
unfoldable pub refused_from : (Message → Option CheckRefusal) → ℕ → List Message → Option (ℕ × CheckRefusal)
refused_from refusal number [] = None
refused_from refusal number (m ∷ cells) =
    option_map_or (λ why. Some (number, why)) (refusal m) (refused_from refusal (suc number) cells)

-- that of a claim
abbrev pub first_unproved : Roots → ClaimParts → Option (ℕ × CheckRefusal)
first_unproved header claim = refused_from (cell_refusal header claim) 0 claim.cells

-- the first cell of a claim that isn't proved, counted from 0, and why: all cells before it are, and the claim's set
-- doesn't show it
pub record IsFirstUnproved (header : Roots) (claim : ClaimParts) (i : ℕ) (why : CheckRefusal) : Type 0 where
  pub before : List Message
  pub cell : Message
  pub after : List Message
  pub parts : claim.cells ≡ before ++ cell ∷ after
  pub number : i ≡ length before
  pub proved : AreProved header claim before
  pub own : is_set_cell claim cell ≡ false
  pub refused : message_refusal header cell ≡ Some why

-- why these nodes don't open what a set shows of these cells
abbrev pub nodes_refusal : Roots → ClaimParts → Option (List Digest) → Option OpenRefusal
nodes_refusal header claim None = None
nodes_refusal header claim (Some nodes) =
    set_refusal (halvings (2 * header.k)) (set_of header.k claim.axis claim.cells) nodes (claimed_root header claim)

-- why the set of a claim doesn't open, none where it does or there is none
abbrev pub unopened : Roots → ClaimParts → Option OpenRefusal
unopened header claim = nodes_refusal header claim claim.set

-- the cause of each answer to a claim, none for one that is accepted, by the checks in their order: its shape, its cells,
-- its set, and whether the axis fits the header's root
abbrev pub HasFraudCause : Roots → ClaimParts → Option FraudRefusal → Type 0
HasFraudCause header claim None = Accepts header claim
HasFraudCause header claim (Some Shape) = is_shaped header.k claim ≡ false
HasFraudCause header claim (Some (Cell i why)) =
    (is_shaped header.k claim ≡ true) × (first_unproved header claim ≡ Some (i, why))
HasFraudCause header claim (Some (Set why)) =
    (is_shaped header.k claim ≡ true) × (first_unproved header claim ≡ None)
    × (unopened header claim ≡ Some why)
HasFraudCause header claim (Some AxisMatches) =
    (is_shaped header.k claim ≡ true) × (first_unproved header claim ≡ None)
    × (unopened header claim ≡ None) × FitsRoot header.k claim (claimed_root header claim)

-- why an answer refuses, none where it doesn't
abbrev pub why_of : {T : Type 0} → Result T FraudRefused → Option FraudRefusal
why_of (Ok _) = None
why_of (Err refused) = Some refused.why
