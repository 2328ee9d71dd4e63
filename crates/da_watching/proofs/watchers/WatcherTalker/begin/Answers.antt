use Rattle.std.proofs.Common.{[], subst, sym}
use Rattle.data_header.specs.Headers.{Roots}
use Rattle.light_node.specs.Events.{IsState}
use Rattle.da_watching.specs.Watched.{BeginsWatching}
use Rattle.da_watching.specs.Watchers.{WatchParts, IsFreshWatcher}
use Rattle.da_watching.proofs.LedLemmas.{led_begin}
use Rattle.da_watching.proofs.watchers.WatcherTalker.begin.Goals as goal

pub returns-clause-led : goal.returns-clause-led
returns-clause-led g c = led_begin g.F.Picker.picks c.args.self.now c.requires.fresh

-- the state of the node
pub returns-clause-due : goal.returns-clause-due
returns-clause-due g c =
    let fresh = subst (IsFreshWatcher g.F.Picker.picks) (sym c.self.view_is) c.requires.fresh in
    subst (λ (w : WatchParts g.row.F.Denot). BeginsWatching w.header w.plan c.put_news.new.text.items) c.self.view_is (
      c.state.result,
      subst (λ (h : Roots). IsState h c.self.inside.planned.now [] c.state.result) c.self.invariant.0 (c.state.ensures c.self.inside.planned.now [] fresh.node),
      c.put_news.ensures.written,
    )
