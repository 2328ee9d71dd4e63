use Rattle.std.proofs.Common.{◌≡◌, take, replicate}
use Rattle.nmt_proofs.specs.Openings.{intervals_from}
use Rattle.nmt_proofs.specs.Pieces.{shown_pieces}
use Rattle.nmt_proofs.proofs.Sets.SetLemmas.{end_of}
use Rattle.nmt_proofs.proofs.making.put_sizes.Given as goal

-- the intervals so far, and where they end
abbrev pub invariant-loop-i : goal.invariant-loop-i
invariant-loop-i l = record {
  so_far : shown_pieces (take l.i l.pieces) ≡ intervals_from l.from (take l.i l.sizes) (replicate l.i l.digest);
  end : l.at ≡ end_of l.from (take l.i l.sizes);
}
