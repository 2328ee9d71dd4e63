use Rattle.da_gathering.proofs.TalkLemmas.{gathers, goes_with}
use Rattle.da_gathering.proofs.gathering.gather.Goals as goal

-- what replies does so as a repair
pub returns-clause-talk : goal.returns-clause-talk
returns-clause-talk g c =
    gathers c.args.line.now c.talk.new.line c.args.gatherer.now c.talk.new.talker c.talk.result c.talk.ensures.talk c.args.gatherer.now.header c.talk.new.talker.status
    (record {
      begins = λ text b. b;
      replies = λ frames frame text r. r;
      refuses = λ frames frame r. r;
      decides = λ frames text d. d;
      ends = λ frames text e. e;
      takes = λ takes. takes;
    })

-- and keeps the status that goes with its last words
pub returns-clause-status : goal.returns-clause-status
returns-clause-status g c =
    goes_with g.L.Line c.args.line.now c.talk.new.line c.args.gatherer.now.header c.talk.new.talker.status c.talk.result (returns-clause-talk g c)
