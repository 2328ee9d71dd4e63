use Rattle.std.proofs.Common.{◌≡◌, take}
use Rattle.nmt_proofs.specs.Openings.{shadow, leaves_at}
use Rattle.nmt_proofs.specs.Pieces.{shown_pieces}
use Rattle.nmt_proofs.proofs.opening.put_set.Given as goal

-- the leaves so far
abbrev pub invariant-loop-i : goal.invariant-loop-i
invariant-loop-i l = shown_pieces (take l.i l.pieces) ≡ shadow (leaves_at (take l.i l.places) (take l.i l.names) (take l.i l.shares))
