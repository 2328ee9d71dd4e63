use Rattle.std.proofs.Common.{refl, ◌∙◌}
use Rattle.repair_queue.specs.Pools.{slot_in}
use Rattle.repair_queue.specs.Boards.{given_of, decided_of, shared_of}
use Rattle.repair_queue.proofs.Feeding.JudgeLemmas.{line_there, known_given, taken_message, emptied_sound}
use Rattle.repair_queue.proofs.judging.message_known.Goals as goal

-- the line of a decided row or column has the header's root
pub make-requires-clause-line : goal.make-requires-clause-line
make-requires-clause-line c =
    line_there c.args.header.now c.args.board.now c.in-Some.axis c.args.cell c.requires.readable c.requires.cell c.in-Some.ensures.some.0

-- a sample of the cell is kept
pub take_first-requires-clause-known : goal.take_first-requires-clause-known
take_first-requires-clause-known c =
    known_given (given_of c.args.board.now) (decided_of c.args.board.now) c.args.cell c.requires.known (c.in-None.ensures.none refl)

pub returns-in-None-clause-message : goal.returns-in-None-clause-message
returns-in-None-clause-message c =
    taken_message c.args.header.now (given_of c.args.board.now) (decided_of c.args.board.now) (shared_of c.args.board.now) c.args.cell c.take_first.result
    c.take_first.ensures.kept.0 c.requires.readable.sound c.take_first.ensures.kept.1 (c.in-None.ensures.none refl) c.take_first.ensures.share

-- what is left can be read
pub returns-in-None-clause-readable : goal.returns-in-None-clause-readable
returns-in-None-clause-readable c = record {
  width = c.requires.readable.width;
  pool_width = c.take_first.ensures.width ∙ c.requires.readable.pool_width;
  marks_width = c.requires.readable.marks_width;
  sound = emptied_sound c.args.header.now (given_of c.args.board.now) (slot_in c.take_first.new.pool) (decided_of c.args.board.now) (shared_of c.args.board.now)
      c.take_first.ensures.kept.0 c.args.cell c.take_first.ensures.kept.2 c.requires.readable.sound;
}
