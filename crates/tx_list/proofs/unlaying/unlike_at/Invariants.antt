use Rattle.std.proofs.Common.{◌≡◌, drop}
use Rattle.tx_list.specs.BackRefusals.{first_unlike}
use Rattle.tx_list.proofs.unlaying.unlike_at.Given as goal

-- the first of those that are left is the first
abbrev pub invariant-loop-i : goal.invariant-loop-i
invariant-loop-i l =
    first_unlike 0 l.square.shares l.other.shares ≡ first_unlike l.i (drop l.i l.square.shares) (drop l.i l.other.shares)
