use Rattle.da_io.proofs.PieceLemmas.{part_of_front, gathers_on}
use Rattle.da_io.proofs.line_room.LineRoom.add.Goals as goal

-- a part of what was held was taken
pub returns-in_default-clause-taken : goal.returns-in_default-clause-taken
returns-in_default-clause-taken g c = part_of_front _ _ c.args.self.now c.args.line.now c.in_default.ensures.taken

-- what was held was taken, and then the line was given to the sink
pub returns-then-line-gt-SIZE-clause-taken : goal.returns-then-line-gt-SIZE-clause-taken
returns-then-line-gt-SIZE-clause-taken g c =
    rw c.in-Ok.ensures.empty (gathers_on _ _ _ c.args.self.now c.args.line.now c.write_all.result c.in-Ok.ensures.taken c.write_all.ensures.taken)
