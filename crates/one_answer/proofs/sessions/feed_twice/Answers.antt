use Rattle.std.proofs.Common.{◌++◌, ◌∷◌, [], subst}
use Rattle.axis_roots.specs.declared.message.messages.Message.{Message}
use Rattle.repair_queue.specs.SessionParts.{SessionStands}
use Rattle.one_answer.proofs.sessions.feed_twice.Goals as goal

-- both stand for the longer list
pub returns : goal.returns
returns c = λ ms stands stood.
    c.finish_twice.ensures _ (c.feed.ensures.stands ms stands)
    (subst (λ (m : Message). SessionStands c.feed-2.new.self (ms ++ m ∷ [])) c.requires.copy (c.feed-2.ensures.stands ms stood))
