use Rattle.std.proofs.Common.{◌≡◌, ℕ, ◌<◌, List, get_or}
use Rattle.namespace_id.specs.declared.shares.Share.{Share}
use Rattle.namespace_id.specs.Digests.{no_digest}
use Rattle.axis_roots.specs.Lines.{cell_on}
use Rattle.axis_roots.specs.Grids.{leaf_over, AreLeafDigests}
use Rattle.axis_roots.proofs.square.leaves.read_leaves.Given as goal

-- the digests so far
abbrev pub invariant-loop-pos : goal.invariant-loop-pos
invariant-loop-pos l =
    (shares : List Share) → AreLeafDigests l.k shares l.leaves → (pos : ℕ) → pos < l.pos
    → get_or l.line pos no_digest ≡ leaf_over l.k shares (cell_on l.fn.axis l.fn.index pos)
