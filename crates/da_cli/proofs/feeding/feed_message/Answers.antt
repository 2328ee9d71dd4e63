use Rattle.std.proofs.Common.{◌∙◌, List, ◌++◌, ◌∷◌, [], append-nil, refl, sym, ap, subst}
use Rattle.data_header.specs.Headers.{Roots, AreRoots}
use Rattle.axis_roots.specs.declared.message.messages.Message.{Message as Sent}
use Rattle.axis_roots.specs.Messages.{message_refusal}
use Rattle.axis_roots.specs.Openings.{IsProved}
use Rattle.repair_queue.specs.SessionParts.{SessionParts, SessionStands}
use Rattle.da_cli.specs.Feeding.{proved_by}
use Rattle.da_cli.proofs.FeedingLemmas.{accepted_by, refused_by}
use Rattle.da_cli.proofs.feeding.feed_message.Goals as goal

-- the sample is proved, and it is what was fed
pub returns-in-Ok-clause-fed : goal.returns-in-Ok-clause-fed
returns-in-Ok-clause-fed c = λ ms held.
    let header = c.args.header.now in
    let m = c.in-Some.message in
    let roots : AreRoots header = subst AreRoots c.header.view_is c.header.invariant in
    let proved : IsProved header m = subst (λ (h : Roots). IsProved h m) c.requires.under (c.in-Ok.ensures.accepts.0 refl) in
    let fed = accepted_by header m ((c.message_laws.ensures.refusal header m roots proved.sized).1 proved) in
    subst (λ (more : List Sent). SessionStands c.feed.new.self (ms ++ more))
    (ap (λ (x : Sent). x ∷ []) c.in-Ok.ensures.message ∙ sym fed.0 ∙ sym (ap (proved_by header) c.in-Some.is))
    (c.feed.ensures.stands ms (subst (λ (s : SessionParts). SessionStands s ms) (sym c.in-Ok.ensures.kept) held))

-- it isn't, and nothing was fed
pub returns-in-Err-clause-fed : goal.returns-in-Err-clause-fed
returns-in-Err-clause-fed c = λ ms held.
    let header = c.args.header.now in
    let m = c.in-Some.message in
    let refused = refused_by header m c.in-Err.field-0.why
    (c.in-Err.ensures.why ∙ ap (λ (h : Roots). message_refusal h m) c.requires.under) in
    subst (λ (more : List Sent). SessionStands c.check.new.self (ms ++ more))
    (sym refused.0 ∙ sym (ap (proved_by header) c.in-Some.is))
    (subst (SessionStands c.check.new.self) (sym (append-nil ms))
    (subst (λ (s : SessionParts). SessionStands s ms) (sym c.in-Err.ensures.kept) held))
