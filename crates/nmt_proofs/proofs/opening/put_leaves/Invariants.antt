use Rattle.std.proofs.Common.{◌≡◌, take}
use Rattle.nmt_proofs.specs.Openings.{shadow, leaves_from}
use Rattle.nmt_proofs.specs.Pieces.{shown_pieces}
use Rattle.nmt_proofs.proofs.opening.put_leaves.Given as goal

-- the leaves so far
abbrev pub invariant-loop-i : goal.invariant-loop-i
invariant-loop-i l = shown_pieces (take l.i l.pieces) ≡ shadow (leaves_from l.from l.name (take l.i l.shares))
