use Rattle.std.proofs.Common.{◌∙◌, sym, subst}
use Rattle.data_header.specs.Headers.{AreRoots}
use Rattle.one_answer.proofs.HalfLemmas.{one_room}
use Rattle.one_answer.proofs.halves.from_half_twice.Goals as goal

-- both rooms hold the codeword through the cells
pub returns-clause-state : goal.returns-clause-state
returns-clause-state c =
    let roots : AreRoots c.args.header.now = subst AreRoots c.header.view_is c.header.invariant in
    one_room c.args.header.now roots.width (c.message_laws.ensures.certificate c.args.header.now) c.args.axis c.args.index c.args.cells.items c.args.copy.items
    c.from_half-first.new.room c.from_half-second.new.room c.requires.copy c.requires.half
    (c.from_half-first.ensures.width ∙ c.requires.one ∙ sym (c.from_half-second.ensures.width ∙ c.requires.other))
    c.from_half-first.ensures.through c.from_half-second.ensures.through
