use Rattle.std.proofs.Common.{◌≡◌, ◌<◌, ℕ, length, map, get_or}
use Rattle.axis_roots.specs.Lines.{blank}
use Rattle.axis_roots.specs.Messages.{position}
use Rattle.befp_verify.proofs.verifying.gather.Given as goal

-- the positions and the shares so far
abbrev pub invariant-loop-i : goal.invariant-loop-i
invariant-loop-i l = record {
  places : length l.known ≡ length l.cells;
  many : length l.shares ≡ length l.cells;
  positions : (j : ℕ) → j < l.i → get_or l.known j 0 ≡ get_or (map (λ m. position l.axis m.cell) l.cells) j 0;
  copies : (j : ℕ) → j < l.i → get_or l.shares j blank ≡ get_or (map (λ m. m.share) l.cells) j blank;
}
