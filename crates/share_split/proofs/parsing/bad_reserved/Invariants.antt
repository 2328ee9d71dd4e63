use Rattle.std.proofs.Common.{◌≡◌, drop}
use Rattle.share_split.specs.Walks.{bad_reserved}
use Rattle.share_split.proofs.parsing.bad_reserved.Given as goal

-- the shares that are left decide, by the starts that are left
abbrev pub invariant-loop-i : goal.invariant-loop-i
invariant-loop-i l = bad_reserved l.i l.left (drop l.i l.shares) ≡ bad_reserved 0 l.starts l.shares
