use Rattle.std.proofs.Common.{◌≡◌, take, replicate}
use Rattle.nmt_proofs.specs.Openings.{digests_from}
use Rattle.nmt_proofs.specs.Pieces.{shown_pieces}
use Rattle.nmt_proofs.proofs.making.put_places.Given as goal

-- the places so far
abbrev pub invariant-loop-i : goal.invariant-loop-i
invariant-loop-i l = shown_pieces (take l.i l.pieces) ≡ digests_from l.from (replicate l.i l.digest)
