use Rattle.std.proofs.Common.{◌≡◌, ℕ, ◌+◌, ◌*◌, ◌<◌, get_or}
use Rattle.axis_roots.specs.Lines.{blank, cell_on}
use Rattle.axis_roots.specs.Grids.{share_at}
use Rattle.axis_roots.proofs.Grids.KeptLemmas.{AxisKept}
use Rattle.axis_roots.proofs.square.lines.write_back.Given as goal

-- the shares so far, and every other cell
abbrev pub invariant-loop-pos : goal.invariant-loop-pos
invariant-loop-pos l = record {
  k : l.grid.k ≡ l.fn.grid.k;
  written : (pos : ℕ) → pos < l.pos
      → share_at (2 * l.fn.grid.k) l.grid.shares (cell_on l.fn.axis l.fn.index (l.fn.grid.k + pos)) ≡ get_or l.line pos blank;
  kept : AxisKept l.fn.grid.k l.fn.axis l.fn.index l.fn.grid.shares l.grid.shares;
}
