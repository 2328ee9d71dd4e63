use Rattle.std.proofs.Common.{Option, None, subst}
use Rattle.befp_verify.specs.declared.verifying.FraudRefusal.{FraudRefusal}
use Rattle.befp_verify.specs.Refusals.{HasFraudCause}
use Rattle.befp_verify.proofs.verifying.judge.Goals as goal

-- acceptance is the cause of no refusal, and no two answers have their cause at once
pub returns-clause-accepts : goal.returns-clause-accepts
returns-clause-accepts c = (
  λ e. subst (λ (why : Option FraudRefusal). HasFraudCause c.args.header.now c.args.claim.now why) e c.cause_of.ensures.cause,
  λ accepts. c.cause_law.ensures c.args.claim.now c.cause_of.result None c.cause_of.ensures.cause accepts,
)
