use Rattle.std.proofs.Common.{◌≡◌, ◌*◌, ◌≤◌, length, vec_len, vec_capacity}
use Rattle.repair_queue.specs.Judging.{IsReadable}
use Rattle.repair_queue.proofs.Feeding.AccuseLemmas.{AreTakenTo}
use Rattle.repair_queue.proofs.judging.messages_known.Given as goal

-- samples of the cells so far were taken out or made
abbrev pub invariant-loop-i : goal.invariant-loop-i
invariant-loop-i l = record {
  readable : IsReadable l.header l.board;
  room : l.room.k ≡ l.header.k;
  across : length l.across ≡ 2 * l.header.k;
  taken : AreTakenTo l.header l.fn.board l.board l.axis l.index l.known l.cells.items l.i;
  count : vec_len l.cells ≡ l.i;
  space : l.header.k ≤ vec_capacity l.cells;
}
