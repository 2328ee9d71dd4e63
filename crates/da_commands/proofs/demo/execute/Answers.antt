use Rattle.da_commands.specs.Demo.{TellsTrial, DemoOf}
use Rattle.da_status.proofs.EndLemmas.{once_within}
use Rattle.da_commands.proofs.demo.execute.Goals as goal

-- the lines of a trial of the number are an answer
pub returns-in-Ok : goal.returns-in-Ok
returns-in-Ok g c =
    once_within (TellsTrial c.in-Ok.trial) (DemoOf c.args.number c.args.k) _ _ _ _ _ _
    (λ w status tells. (c.in-Ok.trial, c.in-Ok.ensures, tells)) c.tell.ensures
