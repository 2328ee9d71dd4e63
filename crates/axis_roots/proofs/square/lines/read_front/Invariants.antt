use Rattle.std.proofs.Common.{◌≡◌, ℕ, ◌*◌, ◌<◌, get_or}
use Rattle.axis_roots.specs.Lines.{blank, cell_on}
use Rattle.axis_roots.specs.Grids.{share_at}
use Rattle.axis_roots.proofs.square.lines.read_front.Given as goal

-- the shares so far
abbrev pub invariant-loop-pos : goal.invariant-loop-pos
invariant-loop-pos l = (pos : ℕ) → pos < l.pos → get_or l.line pos blank ≡ share_at (2 * l.grid.k) l.grid.shares (cell_on l.fn.axis l.fn.index pos)
