use Rattle.std.proofs.Common.{◌≡◌, ◌≢◌, ◌∙◌, ◌++◌, ◌∷◌, [], Some, None, false, true, is_some, refl, sym, ap, subst}
use Rattle.std.specs.Option.{option_map}
use Rattle.data_header.specs.Headers.{Roots}
use Rattle.frame_payloads.specs.declared.refusals.Reason.TheVariants.{NoSuchFrame}
use Rattle.frame_payloads.specs.kinds.Fraud.{fraud_at}
use Rattle.light_node.specs.declared.events.Event.TheVariants.{Sample, Claim}
use Rattle.light_node.specs.Events.{NoneAccepted, IsLight}
use Rattle.da_judging.specs.Light.{event_in}
use Rattle.da_talk.specs.declared.talker.Turn.TheVariants.{GoesOn, Unfit}
use Rattle.da_talk.specs.Replies.{refusal}
use Rattle.da_watching.specs.Sizes.{most_claim}
use Rattle.da_watching.specs.Events.{handed_event}
use Rattle.da_talk.specs.Handed.{asks_state}
use Rattle.da_watching.specs.Watched.{frame_events, IsRefusedAs}
use Rattle.da_watching.specs.Watchers.{WatchParts, HasFed}
use Rattle.da_watching.proofs.LedLemmas.{no_claim, none_led, led_asked, led_none, led_sample, led_false, led_accepted}
use Rattle.da_watching.proofs.ReplyLemmas.{replies_asked, replies_lie, replies_seen}
use Rattle.da_watching.proofs.watchers.WatcherTalker.answer.Goals as goal

-- a talk that goes on didn't end at the frame
goes_on-fits : GoesOn ≢ Unfit
goes_on-fits e = cc

-- a frame that asks for the state is told the verdict of the node
pub returns-then-asks_state-clause-due : goal.returns-then-asks_state-clause-due
returns-then-asks_state-clause-due g c = λ on first frames raw fed counted handed.
    let asks : asks_state raw ≡ true = sym (c.asks_state.ensures most_claim raw handed) ∙ c.if-asks_state.true in
    let going = no_claim c.args.self.now.claim c.requires.open in
    let led = subst (λ (w : WatchParts g.row.F.Denot). HasFed g.F.Picker.picks first w frames) (sym c.self.view_is) fed in
    let none = no_claim _ (subst (λ (w : WatchParts g.row.F.Denot). is_some w.claim ≡ false) (sym c.self.view_is) c.requires.open) in
    let header : c.self.inside.node.header ≡ first.header = c.self.invariant.0 ∙ led.header in
    let before : NoneAccepted first.header (frame_events frames) = none_led g.F.Picker.picks first c.args.self.now frames fed going in
    let told = c.put_verdict-status.ensures.written first.plan (frame_events frames) (led.node none)
    (subst (λ (h : Roots). NoneAccepted h (frame_events frames)) (sym header) before) in
    replies_asked first.header first.plan frames raw c.put_verdict-status.new.text.items
    (none_led g.F.Picker.picks first c.args.self.now (frames ++ raw ∷ []) (led_asked g.F.Picker.picks first c.args.self.now frames fed raw asks) going) asks told.0
    (subst (λ (h : Roots). IsLight h first.plan (frame_events frames) told.0) header told.1) told.2

-- a sample
pub returns-in-Sample-clause-led : goal.returns-in-Sample-clause-led
returns-in-Sample-clause-led g c = λ fits first frames raw fed counted handed.
    let asks : asks_state raw ≡ false = sym (c.asks_state.ensures most_claim raw handed) ∙ c.if-asks_state.false in
    let is : event_in raw ≡ Some (Sample c.in-Sample.message) = sym (c.handed_in.ensures raw handed) ∙ ap handed_event c.in-Sample.is in
    led_sample g.F.Picker.picks first c.args.self.now frames fed raw asks c.take_sample.new.self c.in-Sample.message c.args.number
    c.take_sample.new.text.items is (no_claim c.args.self.now.claim c.requires.open)
    (subst (λ (w : WatchParts g.row.F.Denot). w.node.header ≡ w.header) c.self.view_is c.self.invariant.0)
    c.take_sample.ensures.header c.take_sample.ensures.plan c.take_sample.ensures.claim c.take_sample.ensures.told

pub returns-in-Sample-clause-due : goal.returns-in-Sample-clause-due
returns-in-Sample-clause-due g c = λ on first frames raw fed counted handed.
    let asks : asks_state raw ≡ false = sym (c.asks_state.ensures most_claim raw handed) ∙ c.if-asks_state.false in
    let is : event_in raw ≡ Some (Sample c.in-Sample.message) = sym (c.handed_in.ensures raw handed) ∙ ap handed_event c.in-Sample.is in
    let going = no_claim c.args.self.now.claim c.requires.open in
    replies_seen g.F.Picker.picks first c.args.self.now c.take_sample.new.self frames raw c.in-Sample.message c.args.number c.take_sample.new.text.items
    fed (returns-in-Sample-clause-led g c goes_on-fits first frames raw fed counted handed) going (c.take_sample.ensures.claim ∙ going) asks is counted
    c.take_sample.ensures.told

-- the payload of a claim that is a lie
pub returns-then-take_claim-clause-led : goal.returns-then-take_claim-clause-led
returns-then-take_claim-clause-led g c = λ fits first frames raw fed counted handed.
    let asks : asks_state raw ≡ false = sym (c.asks_state.ensures most_claim raw handed) ∙ c.if-asks_state.false in
    let is : event_in raw ≡ option_map Claim (fraud_at c.in-Claim.payload.now) = sym (c.handed_in.ensures raw handed) ∙ ap handed_event c.in-Claim.is in
    let lie = c.take_claim.ensures.lie c.if-take_claim.true in
    subst (λ (w : WatchParts g.row.F.Denot). HasFed g.F.Picker.picks first w (frames ++ raw ∷ [])) (sym lie.3)
    (led_false g.F.Picker.picks first c.args.self.now frames fed raw asks (fraud_at c.in-Claim.payload.now) lie.0 is (no_claim c.args.self.now.claim c.requires.open)
    (subst (λ (w : WatchParts g.row.F.Denot). w.node.header ≡ w.header) c.self.view_is c.self.invariant.0) lie.1)

pub returns-then-take_claim-clause-due : goal.returns-then-take_claim-clause-due
returns-then-take_claim-clause-due g c = λ on first frames raw fed counted handed.
    let asks : asks_state raw ≡ false = sym (c.asks_state.ensures most_claim raw handed) ∙ c.if-asks_state.false in
    let is : event_in raw ≡ option_map Claim (fraud_at c.in-Claim.payload.now) = sym (c.handed_in.ensures raw handed) ∙ ap handed_event c.in-Claim.is in
    let going = no_claim c.args.self.now.claim c.requires.open in
    let lie = c.take_claim.ensures.lie c.if-take_claim.true in
    let led = led_false g.F.Picker.picks first c.args.self.now frames fed raw asks (fraud_at c.in-Claim.payload.now) lie.0 is going
    (subst (λ (w : WatchParts g.row.F.Denot). w.node.header ≡ w.header) c.self.view_is c.self.invariant.0) lie.1 in
    replies_lie first.header first.plan frames raw c.take_claim.new.text.items
    (none_led g.F.Picker.picks first c.args.self.now (frames ++ raw ∷ []) led going)
    (option_map Claim (fraud_at c.in-Claim.payload.now)) lie.0 c.args.number asks is
    (subst (λ (h : Roots). IsRefusedAs h (option_map Claim (fraud_at c.in-Claim.payload.now)) lie.0) fed.header lie.1.refused) counted lie.2

-- and of one that is accepted
pub returns-else-take_claim-clause-led : goal.returns-else-take_claim-clause-led
returns-else-take_claim-clause-led g c = λ fits first frames raw fed counted handed.
    let asks : asks_state raw ≡ false = sym (c.asks_state.ensures most_claim raw handed) ∙ c.if-asks_state.false in
    let is : event_in raw ≡ option_map Claim (fraud_at c.in-Claim.payload.now) = sym (c.handed_in.ensures raw handed) ∙ ap handed_event c.in-Claim.is in
    let accepted = c.take_claim.ensures.accepted c.if-take_claim.false in
    led_accepted g.F.Picker.picks first c.args.self.now frames fed raw asks c.take_claim.new.self accepted.0 (is ∙ ap (option_map Claim) accepted.1)
    (no_claim c.args.self.now.claim c.requires.open) accepted.2
    c.take_claim.ensures.header c.take_claim.ensures.plan accepted.3

-- neither
pub returns-in-Neither-clause-led : goal.returns-in-Neither-clause-led
returns-in-Neither-clause-led g c = λ fits first frames raw fed counted handed.
    led_none g.F.Picker.picks first c.args.self.now frames fed raw (sym (c.asks_state.ensures most_claim raw handed) ∙ c.if-asks_state.false)
    (sym (c.handed_in.ensures raw handed) ∙ ap handed_event c.in-Neither.is)

pub returns-in-Neither-clause-due : goal.returns-in-Neither-clause-due
returns-in-Neither-clause-due g c = λ on first frames raw fed counted handed.
    let going = no_claim c.args.self.now.claim c.requires.open in
    let led = returns-in-Neither-clause-led g c goes_on-fits first frames raw fed counted handed in
    replies_lie first.header first.plan frames raw c.put_refusal_frame.new.text.items
    (none_led g.F.Picker.picks first c.args.self.now (frames ++ raw ∷ []) led going) None NoSuchFrame c.args.number
    (sym (c.asks_state.ensures most_claim raw handed) ∙ c.if-asks_state.false) (sym (c.handed_in.ensures raw handed) ∙ ap handed_event c.in-Neither.is) refl counted
    (c.put_refusal_frame.ensures.appended ∙ ap (λ l. l ++ refusal NoSuchFrame c.args.number) c.requires.empty)
