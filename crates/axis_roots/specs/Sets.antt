-- The set of a fraud claim: one opening of all cells that it shows along the accused axis (docs/RULES.md, "Fraud claims").
use Rattle.std.specs.Prelude.{◌≡◌, ℕ, ◌*◌, ◌==◌, ◌&&◌, List, [], ◌∷◌, map, length, Bool, true, false, Option, Some, None, if◌then◌else◌}
use Rattle.std.specs.List.{AllByRecursion, list_all, list_any}
use Rattle.namespace_id.specs.declared.cells.Axis.{Axis}
use Rattle.namespace_id.specs.declared.cells.Axis.TheVariants.{Row, Col}
use Rattle.namespace_id.specs.declared.namespaces.Namespace.{Namespace}
use Rattle.namespace_id.specs.declared.digests.Digest.{Digest}
use Rattle.namespace_id.specs.Digests.{AreDigests}
use Rattle.namespace_id.specs.Cells.{is_width, is_in_square, leaf_namespace}
use Rattle.nmt_tree.specs.Roots.{halvings}
use Rattle.nmt_proofs.specs.Parts.{Part}
use Rattle.nmt_proofs.specs.Openings.{Shown, leaves_at, opened, Opens}
use Rattle.axis_roots.specs.declared.message.messages.Message.{Message}
use Rattle.axis_roots.specs.Messages.{IsMessage, position}

-- whether two axes are both rows or both columns
abbrev pub is_one_axis : Axis → Axis → Bool
is_one_axis Row Row = true
is_one_axis Row Col = false
is_one_axis Col Row = false
is_one_axis Col Col = true

-- whether a sample is along an axis: its own axis is that one
abbrev pub is_along : Axis → Message → Bool
is_along axis m = is_one_axis axis m.axis

-- whether a set shows a sample's cell: there is a set, and the sample is along the accused axis
abbrev pub is_shown : Option (List Digest) → Axis → Message → Bool
is_shown None axis m = false
is_shown (Some nodes) axis m = is_along axis m

-- the samples of a list that are along an axis
unfoldable pub along_in : Axis → List Message → List Message
along_in axis [] = []
along_in axis (m ∷ cells) = if is_along axis m then m ∷ along_in axis cells else along_in axis cells

-- the leaf namespaces of samples, in a square of width k
abbrev pub sample_names : ℕ → List Message → List Namespace
sample_names k cells = map (λ m. leaf_namespace k m.cell m.share) cells

-- what a set shows of an axis of a square of width k: the shares of all samples along it, at their places, under the leaf
-- namespaces of their cells
abbrev pub set_of : ℕ → Axis → List Message → List Shown
set_of k axis cells =
    leaves_at (map (λ m. position axis m.cell) (along_in axis cells)) (sample_names k (along_in axis cells))
    (map (λ m. m.share) (along_in axis cells))

-- the tree that a set opens
abbrev pub set_tree : ℕ → Axis → List Message → List Digest → Part
set_tree k axis cells nodes = opened (halvings (2 * k)) 0 (set_of k axis cells) nodes

-- whether a sample along the axis has a cell of the square, and no path of its own
abbrev pub is_bare : ℕ → Axis → Message → Bool
is_bare k axis m = if is_along axis m then is_in_square k m.cell && (length m.path == 0) else true

-- whether the cells of a claim fit its set, if it has one: some are along the axis, and these are bare
abbrev pub fits_set : ℕ → Axis → List Message → Option (List Digest) → Bool
fits_set k axis cells None = true
fits_set k axis cells (Some nodes) = list_any (is_along axis) cells && list_all (is_bare k axis) cells

-- the nodes of a set open what it shows, under the root of the axis
pub record OpensSet (k : ℕ) (axis : Axis) (cells : List Message) (nodes : List Digest) (root : Digest) : Type 0 where
  pub width : is_width k ≡ true
  pub messages : AllByRecursion IsMessage cells
  pub digests : AreDigests nodes
  pub opens : Opens (halvings (2 * k)) (set_of k axis cells) nodes root
