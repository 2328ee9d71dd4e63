use Rattle.da_conversing.proofs.SameLemmas.{replies_are_samples, replies_are_answers}
use Rattle.da_conversing.proofs.laws.reply_laws.Goals as goal

pub returns-clause-samples : goal.returns-clause-samples
returns-clause-samples c = replies_are_samples c.serve_laws.ensures.header c.serve_laws.ensures.sample c.wire_laws.ensures.messages

pub returns-clause-answers : goal.returns-clause-answers
returns-clause-answers c =
    replies_are_answers c.serve_laws.ensures.header c.serve_laws.ensures.complete c.serve_laws.ensures.entries c.serve_laws.ensures.shares
    c.wire_laws.ensures.names c.value_laws.ensures.values c.value_laws.ensures.bad
