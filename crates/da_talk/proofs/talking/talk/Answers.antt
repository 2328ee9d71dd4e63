use Rattle.std.proofs.Common.{List, ℕ, sym, subst}
use Rattle.da_talk.proofs.TellLemmas.{told_none}
use Rattle.da_talk.proofs.talking.talk.Goals as goal

-- the first words weren't said whole
pub returns-in_default-clause-talk : goal.returns-in_default-clause-talk
returns-in_default-clause-talk g c =
    let went = c.in_default.ensures.said in
    (told_none g.L.Line g.T.Talker c.args.line.now c.say.new.line c.args.talker.now c.begin.new.self c.deref.result.now went.0 c.begin.ensures.led
    (subst (λ (text : List ℕ). g.T.Talker.begins c.args.talker.now text) (sym c.deref.ensures.value) c.begin.ensures.due) went.1 went.2).0

-- what was said behind them is what is due
pub returns-clause-talk : goal.returns-clause-talk
returns-clause-talk g c = (c.listen.ensures.told c.args.line.now c.args.talker.now c.deref.result.now c.begin.ensures.led
    (subst (λ (text : List ℕ). g.T.Talker.begins c.args.talker.now text) (sym c.deref.ensures.value) c.begin.ensures.due) c.in-Ok.ensures.said).0
