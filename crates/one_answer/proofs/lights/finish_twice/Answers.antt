use Rattle.std.proofs.Common.{subst}
use Rattle.data_header.specs.Headers.{Roots}
use Rattle.light_node.specs.Events.{IsLight}
use Rattle.one_answer.proofs.lights.finish_twice.Goals as goal

-- there is one verdict
pub returns : goal.returns
returns g c = λ plan events stands stood.
    c.light_laws.ensures.once c.args.one.header plan events _ _ (c.finish-first.ensures plan events stands)
    (subst (λ (h : Roots). IsLight h plan events c.finish-second.result) c.requires.header (c.finish-second.ensures plan events stood))
