-- The samples of a line whose strict root is the header's.
use Rattle.std.proofs.Common.{◌≡◌, ◌∙◌, ℕ, ◌*◌, List, true, Some, sym, ap, subst}
use Rattle.namespace_id.specs.declared.cells.Axis.{Axis}
use Rattle.namespace_id.specs.declared.shares.Share.{Share}
use Rattle.namespace_id.specs.declared.digests.Digest.{Digest}
use Rattle.nmt_tree.specs.Roots.{strict_root}
use Rattle.nmt_proofs.specs.Making.{leaf_nodes}
use Rattle.data_header.specs.Headers.{Roots, root_of}
use Rattle.axis_roots.specs.declared.message.messages.Message.{Message}
use Rattle.axis_roots.specs.Messages.{index}
use Rattle.axis_roots.specs.Openings.{OpensAt, IsProved}
use Rattle.axis_roots.specs.Lines.{entry, cell_on, is_ordered_line, line_root, line_strict_root}
use Rattle.axis_roots.specs.Trees.{line_leaves, line_message}
use Rattle.axis_roots.proofs.Grids.AxisLemmas.{index-cell_on}
use Rattle.axis_roots.proofs.Grids.HeaderLemmas.{some_if}

-- a line that has a strict root is ordered, and it is its root
pub strict_there : (k : ℕ) (axis : Axis) (i : ℕ) (line : List Share) (root : Digest) → line_strict_root k axis i line ≡ Some root
    → (is_ordered_line k axis i line ≡ true) × (line_root k axis i line ≡ root)
unfolding strict_root line_root
strict_there k axis i line root e =
    let found = some_if (is_ordered_line k axis i line) (line_root k axis i line) root e in (found.0, sym found.1)

-- so the sample of each of its positions is proved
pub message_proved : (header : Roots) (k : ℕ) (axis : Axis) (i pos : ℕ) (line : List Share) (m : Message) → k ≡ header.k
    → line_strict_root k axis i line ≡ Some (root_of header axis i)
    → OpensAt k (line_message k axis i line pos) (line_root k axis i line)
    → m.cell ≡ cell_on axis i pos → m.axis ≡ axis → m.share ≡ entry line pos → m.path ≡ leaf_nodes (2 * k) (line_leaves k axis i line) pos
    → IsProved header m
message_proved header k axis i pos line m width strict opens cell along share path =
    let root : line_root k axis i line ≡ root_of header axis (index axis (cell_on axis i pos)) =
    (strict_there k axis i line (root_of header axis i) strict).1 ∙ ap (root_of header axis) (sym (index-cell_on axis i pos)) in
    let same : m ≡ line_message k axis i line pos = λ j. record { cell = cell j; axis = along j; share = share j; path = path j } in
    subst (IsProved header) (sym same)
    (subst (λ (n : ℕ). OpensAt n (line_message k axis i line pos) (root_of header axis (index axis (cell_on axis i pos)))) width
    (subst (OpensAt k (line_message k axis i line pos)) root opens))
