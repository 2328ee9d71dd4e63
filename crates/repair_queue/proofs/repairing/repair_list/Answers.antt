use Rattle.std.proofs.Common.{◌≡◌, ◌∙◌, List, [], ◌∷◌, ◌++◌, map, sym, subst, ap}
use Rattle.std.specs.List.{AllByRecursion}
use Rattle.std.proofs.lemmas.List.{append_assoc, append-nil, nil_from_length}
use Rattle.data_header.specs.Headers.{Roots}
use Rattle.axis_roots.specs.declared.message.proved.Proved.{Proved}
use Rattle.axis_roots.specs.Messages.{IsMessage}
use Rattle.axis_roots.specs.Proved.{IsUnder, kept_message}
use Rattle.repair_queue.specs.Verdicts.{IsVerdict}
use Rattle.repair_queue.specs.Answers.{verdict_parts}
use Rattle.repair_queue.specs.SessionParts.{SessionStands}
use Rattle.repair_queue.proofs.Facts.GrowthLemmas.{same_verdict}
use Rattle.repair_queue.proofs.Facts.VerdictLemmas.{alike}
use Rattle.repair_queue.proofs.Facts.OwnLemmas.{own_verdict}
use Rattle.repair_queue.proofs.Places.TakenLemmas.{under_proved}
use Rattle.repair_queue.proofs.Feeding.SessionLemmas.{one_more}
use Rattle.repair_queue.proofs.repairing.repair_list.Goals as goal

-- none is fed yet
pub loop-message-init : goal.loop-message-init
loop-message-init c = record {
  split = sym c.into_iter-message-iterator.ensures.into_iter_gives.0;
  under = subst (AllByRecursion (IsUnder c.args.header.now)) (sym c.into_iter-message-iterator.ensures.into_iter_gives.0) c.requires.under;
  header = c.in_ok-session.ensures.header;
  stands = c.in_ok-session.ensures.stands;
}

-- the next one is under the header
pub feed-requires : goal.feed-requires
feed-requires c = record {
  under = subst (λ (h : Roots). IsUnder h c.in-Some.message) (sym c.loop-message.invariant.header)
      (subst (AllByRecursion (IsUnder c.args.header.now)) c.in-Some.ensures.steps.0 c.loop-message.invariant.under).0;
}

-- and is fed
pub loop-message-preserved : goal.loop-message-preserved
loop-message-preserved c = record {
  split = c.loop-message.invariant.split ∙ ap (λ (l : List Proved). c.loop-message.yielded ++ l) c.in-Some.ensures.steps.0
      ∙ sym (append_assoc c.loop-message.yielded (c.in-Some.message ∷ []) c.next.new.self.rest.items);
  under = (subst (AllByRecursion (IsUnder c.args.header.now)) c.in-Some.ensures.steps.0 c.loop-message.invariant.under).1;
  header = c.feed.ensures.header ∙ c.loop-message.invariant.header;
  stands = subst (SessionStands c.feed.new.self) (one_more [] c.loop-message.yielded c.in-Some.message)
      (c.feed.ensures.stands (map kept_message c.loop-message.yielded) c.loop-message.invariant.stands);
}

-- with all fed, the session's answer is one over all samples
pub returns-clause-verdict : goal.returns-clause-verdict
returns-clause-verdict c =
    let rest : List Proved = c.loop-message.message-iterator.rest.items in
    let none : rest ≡ [] = nil_from_length rest (sym c.loop-message.message-iterator.rest.ok.0 ∙ c.in-None.ensures.steps.0) in
    let all : c.args.messages.items ≡ c.loop-message.yielded =
    c.loop-message.invariant.split ∙ ap (λ (l : List Proved). c.loop-message.yielded ++ l) none ∙ append-nil c.loop-message.yielded in
    subst (λ (h : Roots). IsVerdict h (map kept_message c.args.messages.items) (verdict_parts c.finish.result)) c.loop-message.invariant.header
    (c.finish.ensures.verdict (map kept_message c.args.messages.items)
    (subst (λ (l : List Proved). SessionStands c.loop-message.session (map kept_message l)) (sym all) c.loop-message.invariant.stands))

-- samples of certificates are samples
sized : (header : Roots) (messages : List Proved) → AllByRecursion (IsUnder header) messages → AllByRecursion IsMessage (map kept_message messages)
sized header [] under = tt
sized header (kept ∷ messages) under = ((under_proved header kept under.0).sized, sized header messages under.1)

-- under the header of a square it is this square or missing cells, or a collision is named
pub returns-clause-own : goal.returns-clause-own
returns-clause-own c = λ square own.
    own_verdict c.args.header.now square (map kept_message c.args.messages.items) own
    (sized c.args.header.now c.args.messages.items c.requires.under) (verdict_parts c.finish.result) (returns-clause-verdict c)

-- what another list with the same proved samples is answered is alike
pub returns-clause-order : goal.returns-clause-order
returns-clause-order c = λ others other to from other_is.
    alike c.args.header.now (map kept_message c.args.messages.items) (verdict_parts c.finish.result) other (returns-clause-verdict c)
    (same_verdict c.args.header.now others (map kept_message c.args.messages.items) from to other other_is)
