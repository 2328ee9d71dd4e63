use Rattle.std.proofs.Common.{refl}
use Rattle.da_judging.specs.declared.answers.Answer.TheVariants.{Message, Names, Rooted}
use Rattle.da_judging.proofs.AskedLemmas.{answers_to}
use Rattle.da_judging.proofs.VerifyLemmas.{verified_own, holds_by, shows_asked}
use Rattle.da_commands.proofs.laws.answering_laws.Goals as goal

pub returns-clause-sample : goal.returns-clause-sample
returns-clause-sample c = λ square header cell axis frame allowed. (Message allowed.0, allowed.2, (allowed.1.cell, allowed.1.axis))

pub returns-clause-prove : goal.returns-clause-prove
returns-clause-prove c = λ square header cell axis frame allowed. (Rooted allowed.0, allowed.2, (allowed.1.cell, allowed.1.axis))

pub returns-clause-namespace : goal.returns-clause-namespace
returns-clause-namespace c = λ square header name frame allowed. (Names name allowed.0, allowed.2, refl)

-- such an answer is to the request, and isn't refused without it
pub returns-clause-own : goal.returns-clause-own
returns-clause-own c = λ header request answer square is of none.
    let holds = (holds_by _ _ header answer (answers_to request answer)).0 none in
    shows_asked request answer square holds.1
    (verified_own c.message_laws.ensures.refusal c.message_laws.ensures.own c.answer_laws.ensures.refusal c.answer_laws.ensures.own
    c.claim_laws.ensures.own c.refusal_laws.ensures.commit c.commit_laws.ensures.commit c.refusal_laws.ensures.rooted c.commit_laws.ensures.rooted
    header answer square is of holds.0)
