use Rattle.std.proofs.Common.{take}
use Rattle.nmt_tree.specs.Roots.{halvings}
use Rattle.nmt_proofs.specs.Merging.{HoldsAlong, BranchesAgree}
use Rattle.befp_verify.specs.Placed.{placed_branches}
use Rattle.befp_verify.proofs.compacting.first_clash.Given as goal

-- no two neighbors so far do
abbrev pub invariant-loop-i : goal.invariant-loop-i
invariant-loop-i l = HoldsAlong (BranchesAgree (halvings l.n)) (take l.i (placed_branches l.branches))
