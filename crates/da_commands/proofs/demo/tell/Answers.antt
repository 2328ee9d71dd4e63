use Rattle.std.proofs.Common.{◌∙◌, ℕ, refl, ap, arith}
use Rattle.da_io.specs.Faults.{count_on}
use Rattle.da_commands.specs.Demo.{TellsTrial}
use Rattle.da_status.proofs.WriteLemmas.{written_on, written_part}
use Rattle.da_status.proofs.EndLemmas.{ends_in_fault, once_fault, once_output}
use Rattle.da_commands.proofs.Answering.DemoLemmas.{line_next, tells_done}
use Rattle.da_commands.proofs.demo.tell.Goals as goal

-- a part of the next line was taken
pub returns-in_default : goal.returns-in_default
returns-in_default g c =
    let next = line_next c.args.trial.now c.loop-i.i c.as_bytes.result.now (omega arith) (c.as_bytes.ensures ∙ c.line_at-line.ensures) in
    once_fault (TellsTrial c.args.trial.now) _ _ _ _ _ (ends_in_fault (TellsTrial c.args.trial.now) _ _ _ _ _ _ _ (refl, refl)
    (written_part _ _ _ _ _ _ _ c.loop-i.invariant.lines next c.in_default.ensures.taken)
    (c.in_default.ensures.faults ∙ ap (λ (n : ℕ). count_on n 1) c.loop-i.invariant.faults)
    (λ s. c.in_default.ensures.told.0 (c.loop-i.invariant.told.0 s), λ s. c.loop-i.invariant.told.1 (c.in_default.ensures.told.1 s)))

pub loop-i-preserved : goal.loop-i-preserved
loop-i-preserved g c =
    let next = line_next c.args.trial.now c.loop-i.i c.as_bytes.result.now (omega arith) (c.as_bytes.ensures ∙ c.line_at-line.ensures) in
    record {
      lines = written_on _ _ _ _ _ _ _ c.loop-i.invariant.lines next c.in-Ok.ensures.taken;
      told = (λ s. c.in-Ok.ensures.told.0 (c.loop-i.invariant.told.0 s), λ s. c.loop-i.invariant.told.1 (c.in-Ok.ensures.told.1 s));
      faults = c.in-Ok.ensures.faults ∙ c.loop-i.invariant.faults;
    }

pub returns : goal.returns
returns g c =
    once_output (TellsTrial c.args.trial.now) _ _ _ _ _ _ refl
    (tells_done c.args.trial.now c.loop-i.i _ _ _ _ _ (omega arith) c.loop-i.invariant.lines c.loop-i.invariant.faults c.loop-i.invariant.told)
