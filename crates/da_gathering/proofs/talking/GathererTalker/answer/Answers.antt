use Rattle.std.proofs.Common.{◌≡◌, ◌∙◌, ◌++◌, ℕ, Bool, false, List, [], ◌∷◌, Some, None, refl, sym, ap, subst, arith}
use Rattle.std.specs.Prelude.{IfSome}
use Rattle.std.specs.declared.option.Option.{Option}
use Rattle.repair_queue.specs.SessionParts.{SessionParts}
use Rattle.frame_payloads.specs.kinds.Message.{most_message}
use Rattle.da_talk.specs.Replies.{refusal}
use Rattle.da_gathering.specs.Gatherings.{Gathering, IsSessionOver, IsGatheringSession}
use Rattle.da_gathering.specs.Fed.{samples_there}
use Rattle.da_gathering.proofs.GatherLemmas.{still_missing, told_asked, gathered_fed, proved_lies, counted_lies, refused_due}
use Rattle.da_gathering.proofs.talking.GathererTalker.answer.Goals as goal

-- it was asked, and told what is missing
pub returns-then-asks_state-clause-due : goal.returns-then-asks_state-clause-due
returns-then-asks_state-clause-due c = λ on first frames raw led count handed.
    told_asked first.header frames raw c.args.self.now led c.in-Some.session (sym (ap (λ (g : Gathering). g.session) c.self.view_is) ∙ c.in-Some.is)
    (sym (c.asks_state.ensures most_message raw handed) ∙ c.if-asks_state.true) c.self.inside.header.now (ap (λ (g : Gathering). g.header) c.self.view_is) c.tell.new.text.items c.tell.ensures.missing

-- it stands for the sample too
pub invariant_of-self-in-None : goal.invariant_of-self-in-None
invariant_of-self-in-None c =
    let is = subst (λ (o : Option SessionParts). IfSome o (IsGatheringSession c.self.inside.header.now c.self.inside.over)) c.in-Some.is c.self.invariant.1 in
    let stands = c.feed.ensures.stands is.ms is.stands in (
      c.self.invariant.0,
      record {
        width = is.width;
        under = c.feed.ensures.header;
        ms = is.ms ++ samples_there c.sample_in.result;
        stands = stands;
        tells = c.is_over-self-inside.ensures (is.ms ++ samples_there c.sample_in.result) stands;
      },
    )

-- it is counted as a lie
pub returns-in-Some-feed-clause-led : goal.returns-in-Some-feed-clause-led
returns-in-Some-feed-clause-led c = λ fit first frames raw led count handed.
    let own : c.self.inside.header.now ≡ first.header = ap (λ (g : Gathering). g.header) c.self.view_is ∙ led.header_is in
    gathered_fed first.header frames raw c.args.self.now _ led c.in-Some.session c.feed.new.session (sym (ap (λ (g : Gathering). g.session) c.self.view_is) ∙ c.in-Some.is)
    (sym (c.asks_state.ensures most_message raw handed) ∙ c.if-asks_state.false) (ap (λ (g : Gathering). g.header) c.self.view_is) refl
    (c.feed.ensures.header ∙ ap (λ (g : Gathering). g.header) c.self.view_is) c.sample_in.result (c.sample_in.ensures most_message raw (omega arith) handed) c.feed.ensures.stands
    (counted_lies first.header frames raw c.args.self.now led c.self.inside.header.now c.sample_in.result c.in-Some-feed.reason c.args.number c.self.inside.lies c.saturating_add-self-inside.result
    own (c.sample_in.ensures most_message raw (omega arith) handed) (sym c.in-Some-feed.is ∙ c.feed.ensures.reason) count c.requires.few (ap (λ (g : Gathering). g.lies) c.self.view_is)
    (λ few. omega (arith, few, c.saturating_add-self-inside.ensures)))

-- and refused
pub returns-in-Some-feed-clause-due : goal.returns-in-Some-feed-clause-due
returns-in-Some-feed-clause-due c = λ on first frames raw led count handed.
    let own : c.self.inside.header.now ≡ first.header = ap (λ (g : Gathering). g.header) c.self.view_is ∙ led.header_is in
    let is = subst (λ (o : Option SessionParts). IfSome o (IsGatheringSession c.self.inside.header.now c.self.inside.over)) c.in-Some.is c.self.invariant.1 in
    let goes : IsSessionOver false c.feed.new.session =
    subst (λ (s : SessionParts). IsSessionOver false s) (sym (c.in-Some-feed.ensures.kept refl))
    (subst (λ (b : Bool). IsSessionOver b c.in-Some.session) (ap (λ (g : Gathering). g.is_over) c.self.view_is ∙ c.requires.open) is.tells) in
    let left = still_missing c.session_laws.ensures.known c.session_laws.ensures.settled first.header (frames ++ raw ∷ []) _
    (returns-in-Some-feed-clause-led c (λ e. absurd cc) first frames raw led count handed) c.feed.new.session refl goes is.width in (
      refused_due first.header frames raw c.self.inside.header.now c.sample_in.result (Some c.in-Some-feed.reason) c.args.number c.put_refusal_frame.new.text.items
          (sym (c.asks_state.ensures most_message raw handed) ∙ c.if-asks_state.false) own (c.sample_in.ensures most_message raw (omega arith) handed) (sym c.in-Some-feed.is ∙ c.feed.ensures.reason) count
          (c.put_refusal_frame.ensures.appended ∙ ap (λ (l : List ℕ). l ++ refusal c.in-Some-feed.reason c.args.number) c.requires.empty),
      left.0,
      left.1,
    )

-- it is fed
pub returns-in-None-clause-led : goal.returns-in-None-clause-led
returns-in-None-clause-led c = λ fit first frames raw led count handed.
    let own : c.self.inside.header.now ≡ first.header = ap (λ (g : Gathering). g.header) c.self.view_is ∙ led.header_is in
    gathered_fed first.header frames raw c.args.self.now _ led c.in-Some.session c.feed.new.session (sym (ap (λ (g : Gathering). g.session) c.self.view_is) ∙ c.in-Some.is)
    (sym (c.asks_state.ensures most_message raw handed) ∙ c.if-asks_state.false) (ap (λ (g : Gathering). g.header) c.self.view_is) refl
    (c.feed.ensures.header ∙ ap (λ (g : Gathering). g.header) c.self.view_is) c.sample_in.result (c.sample_in.ensures most_message raw (omega arith) handed) c.feed.ensures.stands
    (ap (λ (g : Gathering). g.lies) c.self.view_is ∙ proved_lies first.header raw c.self.inside.header.now c.sample_in.result c.args.self.now.lies own (c.sample_in.ensures most_message raw (omega arith) handed)
    (sym c.in-None.is ∙ c.feed.ensures.reason))

-- without a word
pub returns-in-None-clause-due : goal.returns-in-None-clause-due
returns-in-None-clause-due c = λ on first frames raw led count handed.
    let own : c.self.inside.header.now ≡ first.header = ap (λ (g : Gathering). g.header) c.self.view_is ∙ led.header_is in
    let is = (invariant_of-self-in-None c).1 in
    let goes : IsSessionOver false c.feed.new.session = subst (λ (b : Bool). IsSessionOver b c.feed.new.session) (c.turn_of.ensures.goes_on.0 on) is.tells in
    let left = still_missing c.session_laws.ensures.known c.session_laws.ensures.settled first.header (frames ++ raw ∷ []) _ (returns-in-None-clause-led c c.turn_of.ensures.fits first frames raw led count handed)
    c.feed.new.session refl goes is.width in (
      refused_due first.header frames raw c.self.inside.header.now c.sample_in.result None c.args.number c.args.text.now.items
          (sym (c.asks_state.ensures most_message raw handed) ∙ c.if-asks_state.false) own (c.sample_in.ensures most_message raw (omega arith) handed) (sym c.in-None.is ∙ c.feed.ensures.reason) count c.requires.empty,
      left.0,
      left.1,
    )
