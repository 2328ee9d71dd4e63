use Rattle.std.proofs.Common.{◌≡◌, ◌+◌, ◌*◌, ◌≤◌}
use Rattle.da_demo.specs.Sessions.{lies_of}
use Rattle.da_demo.specs.Gathered.{IsGathered}
use Rattle.da_demo.proofs.HalfLemmas.{first_from}
use Rattle.da_demo.proofs.gathering.gather_half.Given as goal

-- the samples of the cells from a number on are taken in
abbrev pub invariant-loop-left : goal.invariant-loop-left
invariant-loop-left l = record {
  gathered : IsGathered l.header (lies_of l.grid.k l.grid.shares) l.fn.gathered
      → IsGathered l.header (first_from l.grid.k l.grid.shares l.left) l.gathered;
  within : l.left ≤ 2 * l.grid.k * (2 * l.grid.k);
  under : l.gathered.session.header ≡ l.header;
  few : l.gathered.proved + l.gathered.lies + l.left ≤ l.grid.k + 2 * l.grid.k * (2 * l.grid.k);
}

-- each turn is for one cell
abbrev pub decreases-loop-left : goal.decreases-loop-left
decreases-loop-left l = l.left
