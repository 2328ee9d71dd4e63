use Rattle.std.proofs.Common.{subst}
use Rattle.data_header.specs.Headers.{Roots}
use Rattle.light_node.specs.Plans.{IsNextWanted}
use Rattle.one_answer.proofs.LightLemmas.{one_next}
use Rattle.one_answer.proofs.lights.next_wanted_twice.Goals as goal

-- a plan has one first cell that isn't shown
pub returns : goal.returns
returns g c = λ plan events stands stood.
    one_next c.args.one.now.header plan events _ _ (c.next_wanted.ensures plan events stands)
    (subst (λ (h : Roots). IsNextWanted h plan events c.next_wanted-2.result) c.requires.header (c.next_wanted-2.ensures plan events stood))
