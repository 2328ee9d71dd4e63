use Rattle.std.proofs.Common.{sym}
use Rattle.da_script.specs.Plays.{Goes}
use Rattle.da_script.proofs.playing.step.Goals as goal

-- it happened
pub returns-in-Ok-clause-goes : goal.returns-in-Ok-clause-goes
returns-in-Ok-clause-goes g c = λ items one given.
    Goes.done c.args.event c.in-Ok.stepped given (sym c.in-Ok.ensures.refusal) c.in-Ok.ensures.happened c.in-Ok.ensures.kept c.step_line.ensures

-- it was refused
pub returns-in-Err-clause-goes : goal.returns-in-Err-clause-goes
returns-in-Err-clause-goes g c = λ items one given.
    Goes.refused c.args.event c.in-Err.why given (sym c.in-Err.ensures.refusal) c.in-Err.ensures.unchanged c.refused_line.ensures
