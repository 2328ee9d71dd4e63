use Rattle.std.proofs.Common.{refl, subst}
use Rattle.std.proofs.lemmas.Result.{IfOk-weaker}
use Rattle.square_serve.specs.Serving.{HeldParts, Holds}
use Rattle.one_answer.proofs.HeldLemmas.{one_found}
use Rattle.one_answer.proofs.namespaces.rows_namespace_twice.Goals as goal

pub returns-clause-answer : goal.returns-clause-answer
returns-clause-answer c =
    let own = c.held_law.ensures.header in
    let square = c.args.one.now in
    let held : HeldParts = record { k = square.k; grid = own.1.grid; header = own.0 } in
    let holds : Holds held square = record { whole = own.1.whole; width = refl; extends = own.1.extends; roots = own.1.roots } in
    one_found c.args.namespace.now held c.namespace-first.result c.namespace-second.result c.namespace-first.ensures.parity c.namespace-second.ensures.parity
    (IfOk-weaker c.namespace-first.result _ _ (λ answer says. says held holds) c.namespace-first.ensures.value)
    (IfOk-weaker c.namespace-second.result _ _ (λ answer says. says held (subst (Holds held) c.requires.same holds)) c.namespace-second.ensures.value)
