use Rattle.std.proofs.Common.{sym}
use Rattle.one_answer.proofs.GridLemmas.{one_grid}
use Rattle.one_answer.proofs.squares.set_twice.Goals as goal

-- both have the share in its cell, and in all others what stood there
pub returns : goal.returns
returns c = record {
  state = one_grid c.args.one.now c.args.other.now c.set.new.self c.set-2.new.self c.args.cell c.args.share.now (sym c.requires.same)
      c.width.ensures.grid c.width-2.ensures.grid c.set.ensures.k c.set-2.ensures.k c.set.ensures.cell c.set-2.ensures.cell c.set.ensures.others c.set-2.ensures.others;
}
