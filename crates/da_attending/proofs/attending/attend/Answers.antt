use Rattle.da_attending.specs.Attended.{attending}
use Rattle.da_talk.proofs.TellingLemmas.{talk_as}
use Rattle.da_attending.proofs.attending.attend.Goals as goal

-- no more is seen of an attender than the status that goes with its last words
pub returns-clause-talk : goal.returns-clause-talk
returns-clause-talk g c =
    talk_as _ (attending c.args.attender.now.names) c.args.attender.now c.talk.new.talker c.talk.new.talker.status c.talk.new.talker.status
    (record {
      begins = λ text is. is;
      replies = λ frames frame text is. is;
      refuses = λ frames frame is. is;
      decides = λ frames text is. is;
      ends = λ frames text is. is;
      takes = λ is. is;
    })
    g.L.Line c.args.line.now c.talk.new.line c.talk.result c.talk.ensures.talk
