use Rattle.std.proofs.Common.{Some, None, subst}
use Rattle.std.proofs.lemmas.Bool.{false≢true}
use Rattle.std.proofs.lemmas.Option.{none-some}
use Rattle.axis_roots.specs.Claims.{ClaimParts, Accepts}
use Rattle.befp_verify.specs.declared.verifying.FraudRefusal.TheVariants.{Cell, AxisMatches}
use Rattle.befp_verify.specs.Refusals.{HasFraudCause}
use Rattle.befp_verify.proofs.verifying.verify.Goals as goal

-- what is refused isn't accepted
pub returns-in-Some-clause-accepts : goal.returns-in-Some-clause-accepts
returns-in-Some-clause-accepts c = (
  λ e. absurd (false≢true e),
  λ accepts. absurd (none-some _ (c.cause_law.ensures c.args.claim None (Some c.in-Some.why) accepts
      (subst (λ (claim : ClaimParts). HasFraudCause c.args.header.now claim (Some c.in-Some.why)) c.of.ensures c.in-Some.ensures.cause))),
)

-- what is accepted has no cause of a refusal
pub returns-in-None-clause-cell : goal.returns-in-None-clause-cell
returns-in-None-clause-cell c = λ i why. (
  λ e. absurd (none-some _ e),
  λ cause. c.cause_law.ensures c.args.claim None (Some (Cell i why)) (subst (Accepts c.args.header.now) c.of.ensures c.in-None.ensures.cause) cause,
)

pub returns-in-None-clause-axis_matches : goal.returns-in-None-clause-axis_matches
returns-in-None-clause-axis_matches c = (
  λ e. absurd (none-some _ e),
  λ cause. c.cause_law.ensures c.args.claim None (Some AxisMatches) (subst (Accepts c.args.header.now) c.of.ensures c.in-None.ensures.cause) cause,
)

pub returns-in-None-clause-own : goal.returns-in-None-clause-own
returns-in-None-clause-own c = λ _. c.claim_laws.ensures.own c.args.header.now c.args.claim (subst (Accepts c.args.header.now) c.of.ensures c.in-None.ensures.cause)
