use Rattle.std.proofs.Common.{◌≡◌, ◌+◌, ◌≤◌, length}
use Rattle.da_exchanging.specs.LeftHalf.{file_samples, shares_along}
use Rattle.da_exchanging.proofs.LeftHalfLemmas.{with_front}
use Rattle.da_exchanging.proofs.left_half.shares_along.Given as goal

-- the shares that were taken and those that are left are all
abbrev pub invariant-loop-shares : goal.invariant-loop-shares
invariant-loop-shares l = record {
  so_far : shares_along l.row 0 (file_samples l.bytes) ≡ with_front l.shares.items (shares_along l.row l.col (file_samples l.rest));
  few : l.col + length l.rest ≤ length l.bytes;
}

abbrev pub decreases-loop-shares : goal.decreases-loop-shares
decreases-loop-shares l = length l.rest
