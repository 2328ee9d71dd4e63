use Rattle.std.proofs.Common.{◌∙◌, ℕ, Some, None, ap}
use Rattle.da_files.specs.Frames.{WritesText}
use Rattle.da_judging.specs.Verify.{verdict_line}
use Rattle.da_judging.specs.Compact.{Compacts, CompactsJudged}
use Rattle.da_status.specs.declared.status.Status.TheVariants.{Refused}
use Rattle.da_status.proofs.EndLemmas.{once_within}
use Rattle.da_judging.proofs.compact.judge.Goals as goal

-- the claim is accepted, and is made compact
pub returns-in-Ok-verify : goal.returns-in-Ok-verify
returns-in-Ok-verify g c =
    once_within (Compacts c.args.header.now c.in-Ok-verify.upheld) (CompactsJudged c.args.header.now c.args.claim) _ _ _ _ _ _
    (λ w s compacts. (None, c.in-Ok-verify.ensures.cause, rw c.in-Ok-verify.ensures.upheld at compacts)) c.give_compacted.ensures

-- a check refuses it
pub returns : goal.returns
returns g c =
    once_within (WritesText Refused c.as_bytes.result.now) (CompactsJudged c.args.header.now c.args.claim) _ _ _ _ _ _
    (λ w s writes. (Some c.in-Err.refused.why, c.in-Err.ensures.cause, (writes.0 ∙ c.as_bytes.ensures ∙ c.verdict_line-line.ensures ∙ ap (λ (n : ℕ). verdict_line (Some n)) c.fraud_number.ensures, writes.1))) c.put.ensures
