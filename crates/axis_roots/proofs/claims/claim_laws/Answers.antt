use Rattle.axis_roots.proofs.Messages.ClaimLemmas.{bad_or_fits, bad_apart, falls_bad}
use Rattle.axis_roots.proofs.Messages.FalseClaimLemmas.{accepted_false}
use Rattle.axis_roots.proofs.Messages.ProofLemmas.{proof_accepted, plain_accepted}
use Rattle.axis_roots.proofs.Messages.SetLemmas.{claim_inside, accepted_few}
use Rattle.axis_roots.proofs.claims.claim_laws.Goals as goal

pub returns-clause-decided : goal.returns-clause-decided
returns-clause-decided c = bad_or_fits

pub returns-clause-apart : goal.returns-clause-apart
returns-clause-apart c = bad_apart

pub returns-clause-own : goal.returns-clause-own
returns-clause-own c = accepted_false

pub returns-clause-proof : goal.returns-clause-proof
returns-clause-proof c = proof_accepted

pub returns-clause-falls : goal.returns-clause-falls
returns-clause-falls c = falls_bad

pub returns-clause-plain : goal.returns-clause-plain
returns-clause-plain c = plain_accepted

pub returns-clause-inside : goal.returns-clause-inside
returns-clause-inside c = claim_inside

pub returns-clause-few : goal.returns-clause-few
returns-clause-few c = accepted_few
