use Rattle.std.proofs.Common.{◌≡◌, ◌∙◌, false, is_some, subst, sym}
use Rattle.data_header.specs.Headers.{Roots}
use Rattle.light_node.specs.Events.{NoneAccepted, IsLight}
use Rattle.da_watching.specs.Watched.{frame_events}
use Rattle.da_watching.specs.Watchers.{WatchParts, HasFed}
use Rattle.da_watching.proofs.LedLemmas.{no_claim, none_led}
use Rattle.da_watching.proofs.watchers.WatcherTalker.close.Goals as goal

-- no claim was accepted: the verdict of the node
pub returns-clause-ended : goal.returns-clause-ended
returns-clause-ended g c = λ first frames fed going.
    let led = subst (λ (w : WatchParts g.row.F.Denot). HasFed g.F.Picker.picks first w frames) (sym c.self.view_is) fed in
    let none = no_claim _ (subst (λ (w : WatchParts g.row.F.Denot). is_some w.claim ≡ false) (sym c.self.view_is) going) in
    let header : c.self.inside.node.header ≡ first.header = c.self.invariant.0 ∙ led.header in
    let quiet : NoneAccepted first.header (frame_events frames) = none_led g.F.Picker.picks first _ frames led none in
    let told = c.put_verdict-self-inside.ensures.written first.plan (frame_events frames) (led.node none)
    (subst (λ (h : Roots). NoneAccepted h (frame_events frames)) (sym header) quiet) in
    (quiet, told.0, subst (λ (h : Roots). IsLight h first.plan (frame_events frames) told.0) header told.1, told.2, told.3)
