use Rattle.std.proofs.Common.{subst}
use Rattle.data_header.specs.Headers.{Roots}
use Rattle.light_node.specs.Events.{AreWaitedFor}
use Rattle.one_answer.proofs.CellLemmas.{same_waited}
use Rattle.one_answer.proofs.lights.waiting_twice.Goals as goal

-- the cells are listed row by row
pub returns : goal.returns
returns g c = record {
  state = λ plan events stands stood.
      same_waited c.args.one.now.header plan events _ _ (c.waiting.ensures.filled plan events stands)
      (subst (λ (h : Roots). AreWaitedFor h plan events c.waiting-2.new.room) c.requires.header (c.waiting-2.ensures.filled plan events stood));
}
