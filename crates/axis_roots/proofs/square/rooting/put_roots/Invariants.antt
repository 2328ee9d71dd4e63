use Rattle.std.proofs.Common.{◌≡◌, ℕ, ◌<◌, List, get_or, true}
use Rattle.namespace_id.specs.declared.shares.Share.{Share}
use Rattle.namespace_id.specs.Digests.{no_digest}
use Rattle.namespace_id.specs.Shares.{AreShares}
use Rattle.axis_roots.specs.Grids.{AreLeafDigests, is_ordered_axis, axis_root}
use Rattle.axis_roots.proofs.square.rooting.put_roots.Given as goal

-- the axes so far are ordered, and these are their roots
abbrev pub invariant-loop-index : goal.invariant-loop-index
invariant-loop-index l = record {
  ordered : (shares : List Share) → AreShares shares → AreLeafDigests l.k shares l.leaves → (i : ℕ) → i < l.index
      → is_ordered_axis l.k shares l.fn.axis i ≡ true;
  written : (shares : List Share) → AreShares shares → AreLeafDigests l.k shares l.leaves → (i : ℕ) → i < l.index
      → get_or l.roots i no_digest ≡ axis_root l.k shares l.fn.axis i;
}
