use Rattle.da_script.proofs.PlayLemmas.{same_self, same_on, gone_none, gone_on, gone_all}
use Rattle.da_script.proofs.playing.go_on.Goals as goal

pub loop-one-init : goal.loop-one-init
loop-one-init g c = record {
  gone = λ items are. gone_none items c.args.net.now _ c.args.text.now.items;
  kept = same_self c.args.net.now;
}

-- one event more
pub loop-one-preserved : goal.loop-one-preserved
loop-one-preserved g c = record {
  gone = λ items are.
      gone_on items c.args.net.now c.loop-one.net _ _ _ c.in-Some.one c.step.new.net c.step.result _ _ _ (c.loop-one.invariant.gone items are) c.in-Some.ensures.moves
      (c.step.ensures.goes items c.in-Some.one (c.in_ok-event.ensures items are)) c.in_ok-put_line.ensures;
  kept = same_on c.args.net.now c.loop-one.net c.step.new.net c.loop-one.invariant.kept c.step.ensures.kept;
}

-- none is left
pub returns-clause-goes : goal.returns-clause-goes
returns-clause-goes g c = λ items are. gone_all items c.args.net.now _ _ c.loop-one.net _ _ (c.loop-one.invariant.gone items are) c.in_default.ensures.moves
