use Rattle.std.proofs.Common.{◌∙◌, ℕ, List, sym, ap, subst, Vec, Global}
use Rattle.namespace_id.specs.declared.shares.Share.{Share}
use Rattle.repair_queue.specs.Boards.{given_of, decided_of, shared_of}
use Rattle.repair_queue.specs.Lines.{AreFacts}
use Rattle.repair_queue.specs.Judging.{IsApartOrAlike}
use Rattle.repair_queue.proofs.Lines.DecideLemmas.{gathered_facts, settles_decides}
use Rattle.repair_queue.proofs.judging.decide.Goals as goal

-- another share is known at a position, or none is
pub settle-requires-clause-apart : goal.settle-requires-clause-apart
settle-requires-clause-apart c =
    subst (λ (l : List Share). IsApartOrAlike c.args.header.now.k c.args.board.now c.args.axis c.args.index l c.first_apart-apart.result)
    (c.deref.ensures.value ∙ ap (λ (v : Vec Share Global). v.items) (sym c.has_root.ensures.line))
    (subst (λ (k : ℕ). IsApartOrAlike k c.args.board.now c.args.axis c.args.index c.deref.result.now c.first_apart-apart.result) (sym c.requires.good.width)
    c.first_apart-apart.ensures)

-- the line is made of facts
pub returns-then-has_root-clause-decides : goal.returns-then-has_root-clause-decides
returns-then-has_root-clause-decides c =
    settles_decides c.args.header.now c.args.board.now c.settle.new.board c.settle.new.tools c.args.axis c.args.index c.has_root.new.tools.line.items c.settle.result
    (λ ms stand.
    subst (λ (v : Vec Share Global). AreFacts c.args.header.now ms c.args.axis c.args.index v.items) (sym c.has_root.ensures.line)
    (gathered_facts c.args.header.now ms (given_of c.args.board.now) (decided_of c.args.board.now) (shared_of c.args.board.now) c.requires.good.sound stand c.args.axis c.args.index
    c.rebuild_line.new.tools.known.items c.rebuild_line.new.tools.given.items c.rebuild_line.new.tools.line.items c.requires.index c.rebuild_line.ensures.chosen
    c.rebuild_line.ensures.gathered c.rebuild_line.ensures.line c.rebuild_line.ensures.entries)) c.settle.ensures.settles
