use Rattle.std.proofs.Common.{◌≡◌, drop}
use Rattle.befp_verify.specs.Refusals.{cell_refusal, refused_from}
use Rattle.befp_verify.proofs.verifying.first_unproved.Given as goal

-- what is left to be found from here on is what is to be found
abbrev pub invariant-loop-i : goal.invariant-loop-i
invariant-loop-i l = refused_from (cell_refusal l.header l.claim) l.i (drop l.i l.cells) ≡ refused_from (cell_refusal l.header l.claim) 0 l.cells
