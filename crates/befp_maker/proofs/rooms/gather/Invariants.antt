use Rattle.std.proofs.Common.{◌≡◌, ◌<◌, ℕ, map, get_or}
use Rattle.axis_roots.specs.Lines.{blank}
use Rattle.axis_roots.specs.Messages.{position}
use Rattle.axis_roots.specs.Proved.{kept_message}
use Rattle.befp_maker.proofs.rooms.gather.Given as goal

-- the positions and the shares so far
abbrev pub invariant-loop-i : goal.invariant-loop-i
invariant-loop-i l = record {
  positions : (j : ℕ) → j < l.i → get_or l.known j 0 ≡ get_or (map (λ c. position l.axis (kept_message c).cell) l.cells) j 0;
  copies : (j : ℕ) → j < l.i → get_or l.given j blank ≡ get_or (map (λ c. (kept_message c).share) l.cells) j blank;
}
