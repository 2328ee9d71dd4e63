-- What a claim is made into whose set stands for the paths of its cells (docs/RULES.md, "Fraud claims").
use Rattle.std.specs.Prelude.{◌≡◌, ◌⊎◌, ℕ, List, [], map, Bool, true, false, Some, if◌then◌else◌}
use Rattle.std.specs.List.{Contains, list_any}
use Rattle.std.specs.Option.{is_some}
use Rattle.namespace_id.specs.declared.cells.Axis.{Axis}
use Rattle.namespace_id.specs.declared.digests.Digest.{Digest}
use Rattle.namespace_id.specs.Cells.{leaf_namespace}
use Rattle.nmt_proofs.specs.Merging.{Branch}
use Rattle.nmt_proofs.specs.Clashes.{clash_at}
use Rattle.hash_clash.specs.Collisions.{Strings}
use Rattle.data_header.specs.Headers.{Roots}
use Rattle.axis_roots.specs.declared.message.messages.Message.{Message}
use Rattle.axis_roots.specs.Messages.{position}
use Rattle.axis_roots.specs.Own.{opened_by}
use Rattle.axis_roots.specs.Sets.{is_along, along_in}
use Rattle.axis_roots.specs.Claims.{ClaimParts, Accepts}
use Rattle.befp_verify.specs.declared.compacting.Compacted.{Compacted}
use Rattle.befp_verify.specs.declared.compacting.Compacted.TheVariants.{Claim, Clash}

-- a sample without its path, where it is along the axis
abbrev pub bare : Axis → Message → Message
bare axis m = record { cell = m.cell; axis = m.axis; share = m.share; path = (if is_along axis m then [] else m.path) }

-- samples so
abbrev pub bare_all : Axis → List Message → List Message
bare_all axis cells = map (bare axis) cells

-- a claim with a set of these nodes in place of the paths of its cells along the axis
abbrev pub with_set : ClaimParts → List Digest → ClaimParts
with_set claim nodes = record { axis = claim.axis; index = claim.index; cells = bare_all claim.axis claim.cells; set = Some nodes }

-- whether a claim is left as it is: it has a set, or no cell along the axis
abbrev pub is_compacted : ClaimParts → Bool
is_compacted claim = if is_some claim.set then true else (if list_any (is_along claim.axis) claim.cells then false else true)

-- the opening that a sample makes at its place on the axis, in a square of width k
abbrev pub branch_of : ℕ → Axis → Message → Branch
branch_of k axis m =
    record { pos = position axis m.cell; name = leaf_namespace k m.cell m.share; share = m.share; nodes = m.path }

-- those of all samples along the axis
abbrev pub branches_of : ℕ → Axis → List Message → List Branch
branches_of k axis cells = map (branch_of k axis) (along_in axis cells)

-- two cells along the axis name a collision
pub record NamesTwo (k : ℕ) (claim : ClaimParts) (clash : Strings) : Type 0 where
  pub left : Message
  pub right : Message
  pub left_in : Contains (along_in claim.axis claim.cells) left
  pub right_in : Contains (along_in claim.axis claim.cells) right
  pub found : clash_at (opened_by k left) (opened_by k right) ≡ Some (clash.left, clash.right)

-- what a claim is made into: itself, and nothing else, where it is compact; else an accepted claim with a set, or a
-- collision that two of its cells along the axis name
abbrev pub IsCompacted : Roots → ClaimParts → Compacted → Type 0
IsCompacted header claim (Claim made) =
    ((is_compacted claim ≡ true) × (made ≡ claim))
    ⊎ ((is_compacted claim ≡ false) × ((nodes : List Digest) × (made ≡ with_set claim nodes)) × Accepts header made)
IsCompacted header claim (Clash clash) = (is_compacted claim ≡ false) × NamesTwo header.k claim clash
