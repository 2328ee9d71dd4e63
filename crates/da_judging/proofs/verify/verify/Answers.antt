use Rattle.da_files.specs.Frames.{WritesText}
use Rattle.da_judging.specs.Verify.{verdict_line, verdict_status}
use Rattle.da_judging.specs.VerifyFor.{VerifiesIf}
use Rattle.da_status.proofs.EndLemmas.{once_within}
use Rattle.da_judging.proofs.verify.verify.Goals as goal

-- the line is that of the answer's refusal
pub returns : goal.returns
returns g c =
    let refusal = c.in-Ok.refusal in
    once_within (WritesText (verdict_status refusal) (verdict_line refusal)) (VerifiesIf c.args.asked c.args.header.now c.args.answer) _ _ _ _ _ _
    (λ w s h. (refusal, c.in-Ok.ensures, h.0, h.1)) c.give_line.ensures
