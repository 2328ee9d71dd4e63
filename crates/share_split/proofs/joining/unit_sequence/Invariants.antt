use Rattle.std.proofs.Common.{◌≡◌, drop, None}
use Rattle.share_split.specs.Walks.{sequence_from}
use Rattle.share_split.proofs.joining.unit_sequence.Given as goal

-- the shares that are left decide
abbrev pub invariant-loop-i : goal.invariant-loop-i
invariant-loop-i l = sequence_from l.i l.open (drop l.i l.shares) ≡ sequence_from 0 None l.shares
