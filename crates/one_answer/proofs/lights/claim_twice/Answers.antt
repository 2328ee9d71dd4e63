use Rattle.std.proofs.Common.{◌≡◌, subst}
use Rattle.std.specs.Option.{option_copied}
use Rattle.data_header.specs.Headers.{Roots}
use Rattle.light_node.specs.declared.events.Light.TheVariants.{Rejected}
use Rattle.light_node.specs.Events.{IsFirstAccepted}
use Rattle.one_answer.proofs.LightLemmas.{one_first}
use Rattle.one_answer.proofs.lights.claim_twice.Goals as goal

-- the verdict by an accepted claim is one
pub returns : goal.returns
returns g c = λ plan events stands stood.
    one_first c.args.one.now.header events _ _
    (λ a b first second. let is : Rejected a ≡ Rejected b = c.light_laws.ensures.once c.args.one.now.header plan events (Rejected a) (Rejected b) first second in cc)
    (c.claim.ensures plan events stands)
    (subst (λ (h : Roots). IsFirstAccepted h events (option_copied c.claim-2.result)) c.requires.header (c.claim-2.ensures plan events stood))
