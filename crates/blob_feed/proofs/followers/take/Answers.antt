use Rattle.std.proofs.Common.{refl}
use Rattle.blob_feed.proofs.FedLemmas.{refused_fed, entered_fed}
use Rattle.blob_feed.proofs.CountLemmas.{complete_counted}
use Rattle.blob_feed.proofs.followers.take.Goals as goal

-- a complete answer shows few blobs
pub enter-requires : goal.enter-requires
enter-requires g c = record {
  few = complete_counted c.args.last.now.header c.args.namespace.now c.args.answer.now c.in_ok-judge.ensures.width
      ((c.answer_laws.ensures.refusal c.args.last.now.header c.args.namespace.now c.args.answer.now).0
      (c.in_ok-judge.ensures.accepts.0 refl).complete);
}

-- a refused answer brings nothing
pub returns-in_err-judge-clause-fed : goal.returns-in_err-judge-clause-fed
returns-in_err-judge-clause-fed g c = λ had.
    refused_fed g.F.Filter.can_ask g.F.Filter.answers c.args.filter.now c.requires.filter c.args.last.now
    c.args.namespace.now c.namespace_law.ensures (c.name_laws.ensures.accepted c.args.namespace.now.0) c.args.answer.now
    (λ header. c.answer_laws.ensures.refusal header c.args.namespace.now c.args.answer.now)
    c.in_err-judge.field-0.0 ((c.in_err-judge.ensures.refused c.in_err-judge.field-0.0).0 refl)

-- one that is taken is entered
pub returns-in-Ok-clause-fed : goal.returns-in-Ok-clause-fed
returns-in-Ok-clause-fed g c = λ had.
    entered_fed g.F.Filter.can_ask g.F.Filter.answers c.args.filter.now c.requires.filter c.args.last.now
    c.args.namespace.now c.namespace_law.ensures (c.name_laws.ensures.accepted c.args.namespace.now.0) c.args.answer.now
    (λ header. c.answer_laws.ensures.refusal header c.args.namespace.now c.args.answer.now)
    (c.in_ok-judge.ensures.accepts.0 refl) c.enter.new.feed c.in-Ok.ensures.entered
