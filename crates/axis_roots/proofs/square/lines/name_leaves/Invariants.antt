use Rattle.std.proofs.Common.{◌≡◌, ℕ, ◌<◌, get_or}
use Rattle.namespace_id.specs.Names.{parity}
use Rattle.namespace_id.specs.Cells.{leaf_namespace}
use Rattle.axis_roots.specs.Lines.{blank, cell_on}
use Rattle.axis_roots.proofs.square.lines.name_leaves.Given as goal

-- the namespaces so far
abbrev pub invariant-loop-pos : goal.invariant-loop-pos
invariant-loop-pos l =
    (pos : ℕ) → pos < l.pos → get_or l.names pos parity ≡ leaf_namespace l.k (cell_on l.axis l.index pos) (get_or l.line pos blank)
