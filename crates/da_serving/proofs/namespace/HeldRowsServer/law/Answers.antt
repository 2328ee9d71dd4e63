use Rattle.da_serving.proofs.AnswerLemmas.{complete_short}
use Rattle.da_serving.proofs.NamespaceLemmas.{are_named, have_names}
use Rattle.da_serving.proofs.namespace.HeldRowsServer.law.Goals as goal

-- each namespace but PARITY has a complete answer, which can be written
pub returns : goal.returns
returns c = λ square header own others.
    have_names header square (λ name. c.serve_laws.ensures.answer header square name own)
    (λ name answer named are complete. c.wire_laws.ensures.names name answer named are (complete_short header square name answer own complete))
    _ (are_named c.value_laws.ensures.values c.value_laws.ensures.bad c.args.requests.now c.bytes_law.ensures) others
