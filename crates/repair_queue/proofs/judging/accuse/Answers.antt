use Rattle.repair_queue.specs.Boards.{given_of, decided_of, shared_of}
use Rattle.repair_queue.proofs.Lines.DecideLemmas.{gathered_facts}
use Rattle.repair_queue.proofs.Feeding.AccuseLemmas.{accused}
use Rattle.repair_queue.proofs.judging.accuse.Goals as goal

-- the line through the samples has another root than the header's
pub invariant_of-result : goal.invariant_of-result
invariant_of-result c =
    (accused c.args.header.now (given_of c.args.board.now) (decided_of c.args.board.now) (shared_of c.args.board.now) c.args.axis c.args.index c.deref.result.now
    c.args.tools.now.known.items c.args.tools.now.given.items c.args.tools.now.line.items c.messages_known-cells.result.items c.width.result c.root_of.result
    c.requires.index c.deref.ensures.value c.requires.chosen c.requires.gathered c.requires.line c.requires.entries c.requires.root c.messages_known-cells.ensures.cells
    c.width.ensures.value c.width.ensures.width c.root_of.ensures).0

-- and they are facts
pub returns : goal.returns
returns c = λ ms stand.
    (accused c.args.header.now (given_of c.args.board.now) (decided_of c.args.board.now) (shared_of c.args.board.now) c.args.axis c.args.index c.deref.result.now
    c.args.tools.now.known.items c.args.tools.now.given.items c.args.tools.now.line.items c.messages_known-cells.result.items c.width.result c.root_of.result
    c.requires.index c.deref.ensures.value c.requires.chosen c.requires.gathered c.requires.line c.requires.entries c.requires.root c.messages_known-cells.ensures.cells
    c.width.ensures.value c.width.ensures.width c.root_of.ensures).1 ms
    (gathered_facts c.args.header.now ms (given_of c.args.board.now) (decided_of c.args.board.now) (shared_of c.args.board.now) c.requires.readable.sound stand
    c.args.axis c.args.index c.args.tools.now.known.items c.args.tools.now.given.items c.args.tools.now.line.items c.requires.index c.requires.chosen
    c.requires.gathered c.requires.line c.requires.entries)
