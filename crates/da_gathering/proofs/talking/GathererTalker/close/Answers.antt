use Rattle.std.proofs.Common.{◌∙◌, true, false, sym, ap, subst}
use Rattle.std.specs.Prelude.{IfSome, not}
use Rattle.std.specs.declared.option.Option.{Option}
use Rattle.data_header.specs.Headers.{Roots}
use Rattle.repair_queue.specs.SessionParts.{SessionParts}
use Rattle.repair_queue.specs.Verdicts.{IsVerdict}
use Rattle.repair_queue.specs.Answers.{verdict_parts}
use Rattle.da_gathering.specs.Gatherings.{Gathering, IsGatheringSession}
use Rattle.da_gathering.proofs.LastLemmas.{last_words, words_as}
use Rattle.da_gathering.proofs.talking.GathererTalker.close.Goals as goal

-- the answer is one over some samples
pub put_verdict-status-requires-clause-verdict : goal.put_verdict-status-requires-clause-verdict
put_verdict-status-requires-clause-verdict c =
    let is = subst (λ (o : Option SessionParts). IfSome o (IsGatheringSession c.self.inside.header.now c.self.inside.over)) (sym c.in-Some.ensures.value) c.self.invariant.1 in
    (is.ms, subst (λ (h : Roots). IsVerdict h is.ms (verdict_parts c.finish.result)) is.under (c.finish.ensures.verdict is.ms is.stands))

-- a frame ended the talk
pub returns-clause-decided : goal.returns-clause-decided
returns-clause-decided c = λ first frames led over.
    let is = subst (λ (o : Option SessionParts). IfSome o (IsGatheringSession c.self.inside.header.now c.self.inside.over)) (sym c.in-Some.ensures.value) c.self.invariant.1 in
    words_as first.header frames c.self.inside.over false _ _ (ap not (ap (λ (g : Gathering). g.is_over) c.self.view_is ∙ over))
    (last_words c.session_laws.ensures.known first.header frames c.args.self.now led c.in-Some.session
    (sym (ap (λ (g : Gathering). g.session) c.self.view_is) ∙ sym c.in-Some.ensures.value) (is.under ∙ ap (λ (g : Gathering). g.header) c.self.view_is)
    c.self.inside.over is.tells c.finish.result c.finish.ensures.state c.finish.ensures.verdict c.self.inside.lies (ap (λ (g : Gathering). g.lies) c.self.view_is)
    c.put_verdict-status.new.text.items c.put_verdict-status.result c.put_verdict-status.ensures)

-- the bytes were over
pub returns-clause-ended : goal.returns-clause-ended
returns-clause-ended c = λ first frames led over.
    let is = subst (λ (o : Option SessionParts). IfSome o (IsGatheringSession c.self.inside.header.now c.self.inside.over)) (sym c.in-Some.ensures.value) c.self.invariant.1 in
    words_as first.header frames c.self.inside.over true _ _ (ap not (ap (λ (g : Gathering). g.is_over) c.self.view_is ∙ over))
    (last_words c.session_laws.ensures.known first.header frames c.args.self.now led c.in-Some.session
    (sym (ap (λ (g : Gathering). g.session) c.self.view_is) ∙ sym c.in-Some.ensures.value) (is.under ∙ ap (λ (g : Gathering). g.header) c.self.view_is)
    c.self.inside.over is.tells c.finish.result c.finish.ensures.state c.finish.ensures.verdict c.self.inside.lies (ap (λ (g : Gathering). g.lies) c.self.view_is)
    c.put_verdict-status.new.text.items c.put_verdict-status.result c.put_verdict-status.ensures)
