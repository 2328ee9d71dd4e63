use Rattle.std.proofs.Common.{◌≡◌, ◌-◌, ◌*◌, ◌++◌, ◌≤◌, length}
use Rattle.sampling.specs.Words.{words_at}
use Rattle.sampling.specs.Draws.{draws_from, drawn_cells}
use Rattle.sampling.specs.Taken.{AscendFrom, cells_left}
use Rattle.sampling.proofs.draws.cells.Given as goal

-- what is drawn and what will be are all, as many places are taken as were drawn, and there are as many
-- cells as are asked for
abbrev pub invariant-loop : goal.invariant-loop
invariant-loop l = record {
  all : l.drawn.items ++ draws_from l.key l.counter (l.count - l.counter) (cells_left (2 * l.fn.k) l.taken.items)
      ≡ drawn_cells l.key l.fn.k l.count;
  words : l.words ≡ words_at l.key (2 * l.counter);
  ascend : AscendFrom 0 l.taken.items;
  count : length l.taken.items ≡ l.counter;
  enough : l.count ≤ 2 * l.fn.k * (2 * l.fn.k);
}
