use Rattle.std.proofs.Common.{subst}
use Rattle.data_header.specs.Headers.{Roots}
use Rattle.repair_queue.specs.Sessions.{AreLeft}
use Rattle.one_answer.proofs.CellLemmas.{same_left}
use Rattle.one_answer.proofs.sessions.missing_twice.Goals as goal

-- the cells are listed row by row
pub returns : goal.returns
returns c = record {
  state = λ ms stands stood.
      same_left c.args.one.now.header ms _ _ (c.missing.ensures.left ms stands)
      (subst (λ (h : Roots). AreLeft h ms c.missing-2.new.room) c.requires.header (c.missing-2.ensures.left ms stood));
}
