use Rattle.std.proofs.Common.{◌<◌, ◌≤◌, length}
use Rattle.std.specs.Prelude.{vec_capacity}
use Rattle.repair_queue.specs.Boards.{given_of, decided_of, shared_of}
use Rattle.repair_queue.proofs.Lines.GatherLemmas.{IsGathering}
use Rattle.repair_queue.proofs.gathering.gather.Given as goal

-- the known positions that were looked at are gathered, and they are fewer than k
abbrev pub invariant-loop-pos : goal.invariant-loop-pos
invariant-loop-pos l = record {
  few : length l.known.items < l.header.k;
  so : IsGathering (given_of l.board) (decided_of l.board) (shared_of l.board) l.axis l.index l.pos l.known.items l.given.items;
  known : l.header.k ≤ vec_capacity l.known;
  given : l.header.k ≤ vec_capacity l.given;
}
